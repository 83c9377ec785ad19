use Rattle.std.proofs.Common.{◌≡◌, ◌<◌, ◌∙◌, ◌++◌, ◌∷◌, [], List, ap, length, length-append, arith, refl, inl, ℕ}
use Rattle.std.proofs.lemmas.Result.{err_from_is_err_and}
use Rattle.raster.specs.declared.row.Color.{Color}
use Rattle.raster.specs.Pages.{PagePixels}
use Rattle.raster.specs.Pbm.{FailsOrIo, page_at, row_pixels, size_of, stride}
use Rattle.raster.proofs.PbmReading.{row_refused}
use Rattle.raster.proofs.PbmPieces.{fails_io, any, reader_failed, row_more, row_fails, page_done}
use Rattle.raster.proofs.StoredLemmas.{as_many}
use Rattle.raster.proofs.pbm.page_from.Goals as goal

pub returns-in_err-reserve-clause-err : goal.returns-in_err-reserve-clause-err
returns-in_err-reserve-clause-err g c =
    let p = err_from_is_err_and c.from_residual-in_err-reserve.result c.from_residual-in_err-reserve.ensures.1 in
    rw (p.1, p.2) (reader_failed (g.R.Read.remaining c.args.reader.now) c.in_err-reserve.field-0.0 (page_at c.args.fine (size_of
    c.args.header)) (inl c.in_err-reserve.ensures.only))

pub returns-in_err-row_from-clause-err : goal.returns-in_err-row_from-clause-err
returns-in_err-row_from-clause-err g c =
    let p = err_from_is_err_and c.from_residual-in_err-row_from.result c.from_residual-in_err-row_from.ensures.1 in
    rw (p.1, p.2)
    (row_fails c.in_err-row_from.field-0.0 (g.R.Read.remaining c.args.reader.now) (g.R.Read.remaining c.loop.reader) c.loop.page.rows c.args.fine
    (size_of c.args.header) c.loop.counter c.loop-test.true c.loop.invariant.rows c.in_err-row_from.ensures.err)

pub push_octets-requires : goal.push_octets-requires
push_octets-requires g c = omega (arith, c.row_from.ensures.length, c.loop.invariant.long, c.loop.invariant.width)

pub returns-in_err-push_octets-clause-err : goal.returns-in_err-push_octets-clause-err
returns-in_err-push_octets-clause-err g c =
    let p = err_from_is_err_and c.from_residual-in_err-push_octets.result c.from_residual-in_err-push_octets.ensures.1 in
    let few : length c.loop.page.rows < 20000 = omega (arith, c.loop.invariant.count, c.loop-test.true, c.requires.height.1) in
    rw (p.1, p.2)
    (any (g.R.Read.remaining c.args.reader.now) (λ octets. FailsOrIo c.in_err-push_octets.field-0.0 (page_at c.args.fine (size_of
    c.args.header) octets))
    (λ octets. fails_io c.in_err-push_octets.field-0.0 (page_at c.args.fine (size_of c.args.header) octets)
    (row_refused c.in_err-push_octets.field-0.0 c.loop.page _ (row_pixels c.loop.page.width c.row_from.new.line) _
    (as_many _ c.row_from.new.line c.loop.page.width refl) few c.in_err-push_octets.ensures)))

pub loop-preserved : goal.loop-preserved
loop-preserved g c =
    let row : List Color = row_pixels c.args.header.width c.row_from.new.line in
    let pushed : c.push_octets.new.self ≡ record c.loop.page { rows = c.loop.page.rows ++ row ∷ [] } =
    c.in_ok-push_octets.ensures.2 ∙ ap (λ (n : ℕ). record c.loop.page { rows = c.loop.page.rows ++ row_pixels n c.row_from.new.line ∷ [] })
    c.loop.invariant.width in
    let rows-is : c.push_octets.new.self.rows ≡ c.loop.page.rows ++ row ∷ [] = ap (λ (page : PagePixels). page.rows) pushed in
    let long : length c.row_from.new.line ≡ stride c.args.header.width = c.row_from.ensures.length ∙ c.loop.invariant.long in
    record {
      rows = rw rows-is (row_more (g.R.Read.remaining c.args.reader.now) (g.R.Read.remaining c.loop.reader) (g.R.Read.remaining
          c.row_from.new.reader) c.loop.page.rows c.args.header.width c.args.header.height c.loop.counter c.row_from.new.line
          c.loop-test.true long c.loop.invariant.rows c.in_ok-row_from.ensures.ok);
      width = ap (λ (page : PagePixels). page.width) pushed ∙ c.loop.invariant.width;
      fine = ap (λ (page : PagePixels). page.fine) pushed ∙ c.loop.invariant.fine;
      count = rw (rows-is, length-append) (omega (arith, c.loop.invariant.count));
      long = long;
    }

pub returns-clause-ok : goal.returns-clause-ok
returns-clause-ok g c =
    page_done (g.R.Read.remaining c.args.reader.now) (g.R.Read.remaining c.loop.reader) c.loop.page c.args.fine (size_of c.args.header)
    c.loop.counter c.loop-test.false c.loop.invariant.width c.loop.invariant.fine c.loop.invariant.rows
