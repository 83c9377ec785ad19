use Rattle.std.proofs.Common.{length, arith}
use Rattle.std.proofs.lemmas.Result.{err_from_is_err_and}
use Rattle.raster.specs.Pbm.{images_of, with_kept}
use Rattle.raster.proofs.PbmImages.{image_less, image_rows}
use Rattle.raster.proofs.PbmReading.{images_next, images_fail, images_done, some_left, none_left}
use Rattle.raster.proofs.pbm.read_later.Goals as goal

pub returns-in_err-page : goal.returns-in_err-page
returns-in_err-page c =
    let p = err_from_is_err_and c.from_residual.result c.from_residual.ensures.1 in
    let some = some_left c.is_empty.result (length c.loop-rest.rest.now) c.is_empty.ensures c.loop-rest-test.true in
    rw (p.1, p.2)
    (images_fail c.in_err-page.field-0.0 c.args.all c.loop-rest.document c.loop-rest.count c.args.fine c.loop-rest.rest.now (with_kept
    c.args.all c.args.document c.args.count (images_of c.args.fine c.args.octets.now)) some c.in_err-page.ensures c.loop-rest.invariant.read)

pub keep-requires : goal.keep-requires
keep-requires c = image_rows c.args.fine c.loop-rest.rest.now (c.in_ok-page.page, c.in_ok-page.after.now) c.in_ok-page.ensures

pub loop-rest-smaller : goal.loop-rest-smaller
loop-rest-smaller c = image_less c.args.fine c.loop-rest.rest.now (c.in_ok-page.page, c.in_ok-page.after.now) c.in_ok-page.ensures

pub loop-rest-preserved : goal.loop-rest-preserved
loop-rest-preserved c = record {
  read = rw c.in_ok-keep.ensures.ok
      (images_next c.args.all c.loop-rest.document c.loop-rest.count c.args.fine c.loop-rest.rest.now c.in_ok-page.page
      c.in_ok-page.after.now _ c.in_ok-page.ensures c.loop-rest.invariant.read);
  few = omega (
    arith,
    c.loop-rest.invariant.few,
    image_less c.args.fine c.loop-rest.rest.now (c.in_ok-page.page, c.in_ok-page.after.now)
        c.in_ok-page.ensures,
  );
}

pub returns : goal.returns
returns c =
    images_done c.args.all c.loop-rest.document c.loop-rest.count c.args.fine c.loop-rest.rest.now _
    (none_left c.is_empty.result (length c.loop-rest.rest.now) c.is_empty.ensures c.loop-rest-test.false)
    c.loop-rest.invariant.read
