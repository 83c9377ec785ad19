use Rattle.std.proofs.Common.{rules, arith, ◌<◌, ◌+◌}
use Rattle.std.proofs.lemmas.List.{take_more_set}
use Rattle.raster.proofs.ChangeLemmas.{fewer, found_one, put_more, put_within}
use Rattle.raster.proofs.changes.put_places.Goals as goal

pub index_mut-requires : goal.index_mut-requires
index_mut-requires c =
    let inside : c.first_in_word-place.result < 64 = found_one c.loop-rest.rest c.first_in_word-place.result
    c.loop-rest.invariant.put.pushed.fits (omega arith) c.first_in_word-place.ensures in
    omega (
      arith,
      put_within _ _ c.loop-rest.rest c.first_in_word-place.result _ _ _ _ c.loop-rest.invariant.put inside
          c.first_in_word-place.ensures,
      c.loop-rest.invariant.length,
    )

pub overflow_shr-rest : goal.overflow_shr-rest
overflow_shr-rest c = found_one c.loop-rest.rest c.first_in_word-place.result c.loop-rest.invariant.put.pushed.fits (omega arith)
    c.first_in_word-place.ensures

pub loop-rest-smaller : goal.loop-rest-smaller
loop-rest-smaller c =
    let inside : c.first_in_word-place.result < 64 = found_one c.loop-rest.rest c.first_in_word-place.result
    c.loop-rest.invariant.put.pushed.fits (omega arith) c.first_in_word-place.ensures in
    fewer c.loop-rest.rest c.first_in_word-place.result inside c.first_in_word-place.ensures

pub loop-rest-preserved : goal.loop-rest-preserved
loop-rest-preserved c =
    let inside : c.first_in_word-place.result < 64 = found_one c.loop-rest.rest c.first_in_word-place.result
    c.loop-rest.invariant.put.pushed.fits (omega arith) c.first_in_word-place.ensures in
    let within = put_within _ _ c.loop-rest.rest c.first_in_word-place.result _ _ _ _ c.loop-rest.invariant.put inside
    c.first_in_word-place.ensures in
    record {
      length = search rules;
      put = rw (take_more_set c.loop-rest.out.items c.loop-rest.next (c.args.base + c.first_in_word-place.result)
          (omega (arith, within, c.loop-rest.invariant.length)))
          (put_more _ _ c.loop-rest.rest c.first_in_word-place.result _ _ _ _ c.loop-rest.invariant.put inside
          c.first_in_word-place.ensures);
    }
