use Rattle.std.proofs.Common.{ℕ, ◌≡◌, ◌+◌, ◌++◌, ◌∷◌, [], ap, arith, refl, subst, length}
use Rattle.std.proofs.lemmas.List.{length_push}
use Rattle.raster.specs.declared.coding.Coding.TheVariants.{T6}
use Rattle.page_code.specs.RowsSoFar.{IsReadTo}
use Rattle.page_code.specs.TwoDimensions.Positions.{white_line}
use Rattle.page_code.proofs.TwoDimensions.WhiteRows.{one_next, white_last, white_on, word_moved}
use Rattle.page_code.proofs.t6.read.white_rows.Goals as goal

pub loop-word-preserved : goal.loop-word-preserved
loop-word-preserved c =
    let pushed = c.in_ok-push_white.ensures in
    let now = c.loop-word.invariant in
    let page = c.loop-word.to.page in
    let reader = c.args.reader.now in
    let one = one_next reader c.loop-word.used c.loop-word.word now.word c.loop-word-test.true c.if-used-lt57.true in
    let more = white_on page.width reader.bits page.rows (reader.place + c.loop-word.used)
    (omega (arith, now.rows, c.if-used-room.true, c.rows.ensures.page.few, ap length c.rows.ensures.rows)) now.white now.read one in
    let there : reader.place + c.loop-word.used + 1 ≡ reader.place + (c.loop-word.used + 1) = omega arith in
    rw pushed (record {
      width = now.width;
      fine = now.fine;
      few = omega (arith, c.if-used-lt57.true);
      same = refl;
      word = word_moved reader c.loop-word.used c.loop-word.word c.if-used-lt57.true now.word;
      rows = omega (arith, now.rows, length_push page.rows (white_line page.width));
      read = subst (λ (n : ℕ). IsReadTo T6 page.width reader.bits (page.rows ++ white_line page.width ∷ []) n) there more;
      white = white_last page.width page.rows;
    })
