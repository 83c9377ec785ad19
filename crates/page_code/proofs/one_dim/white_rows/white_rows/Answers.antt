use Rattle.std.proofs.Common.{◌<◌, ap, arith, length}
use Rattle.std.proofs.lemmas.Bool.{OnTrue_at}
use Rattle.std.proofs.lemmas.List.{length_push}
use Rattle.page_code.specs.TwoDimensions.Positions.{white_line}
use Rattle.page_code.proofs.OneDimension.RowsOn.{read_within}
use Rattle.page_code.proofs.OneDimension.WhiteRows.{white_bits, white_fits, white_read}
use Rattle.page_code.proofs.one_dim.white_rows.white_rows.Goals as goal

pub at-reader-requires : goal.at-reader-requires
at-reader-requires c =
    read_within c.args.to.now.page.width c.args.order c.args.octets.now c.args.to.now.page.rows c.args.to.now.place c.requires.read

pub overflow_sub-row : goal.overflow_sub-row
overflow_sub-row c = omega (arith, white_bits c.args.to.now.page.width c.args.white c.requires.white)

pub is_next-requires-clause-some : goal.is_next-requires-clause-some
is_next-requires-clause-some c = omega (arith, white_bits c.args.to.now.page.width c.args.white c.requires.white)

pub skip-requires : goal.skip-requires
skip-requires c = white_fits c.args.to.now.page.width c.loop-reader.reader.place c.args.white c.loop-reader.reader.bits c.requires.white
    (OnTrue_at c.if-is_next.true c.is_next.ensures)

pub loop-reader-preserved : goal.loop-reader-preserved
loop-reader-preserved c =
    let now = c.loop-reader.invariant in
    let page = c.loop-reader.to.page in
    let room : length page.rows < 20000 = omega (arith, c.loop-reader-test.true, c.len.ensures.length, ap length c.rows.ensures.rows) in
    rw (c.in_ok-push_white.ensures, c.skip.ensures) (record {
      width = now.width;
      fine = now.fine;
      bits = now.bits;
      more = omega (arith, now.more, length_push page.rows (white_line page.width));
      read = white_read c.args.white c.args.to.now.page.width page.width c.loop-reader.reader.bits page.rows c.loop-reader.reader.place
          now.width c.requires.width c.requires.white room now.read (OnTrue_at c.if-is_next.true c.is_next.ensures);
    })
