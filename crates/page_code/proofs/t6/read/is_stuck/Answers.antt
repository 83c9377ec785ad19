use Rattle.std.proofs.Common.{arith, drop}
use Rattle.std.proofs.lemmas.Bool.{OnTrue_at}
use Rattle.raster.specs.Packed.{bits_of}
use Rattle.page_code.proofs.TwoDimensions.RowsOn.{read_within}
use Rattle.page_code.proofs.TwoDimensions.Stuck.{stuck}
use Rattle.page_code.proofs.TwoDimensions.ZeroBits.{zeros_of}
use Rattle.page_code.proofs.t6.read.is_stuck.Goals as goal

pub at-reader-requires : goal.at-reader-requires
at-reader-requires c = read_within c.args.to.now.page.width c.args.order c.args.octets.now c.args.to.now.page.rows c.args.to.now.place
    c.requires

pub returns : goal.returns
returns c =
    let left = drop c.args.to.now.place (bits_of c.args.order c.args.octets.now) in
    stuck c.args.to.now.page.width (bits_of c.args.order c.args.octets.now) c.args.to.now.page.rows c.args.to.now.place
    c.rows-rows.ensures.page.width c.rows-rows.ensures.page.few c.requires
    (rw c.at-reader.ensures at (OnTrue_at c.if-not-enough.false c.has_57-enough.ensures.yes))
    (zeros_of left c.peek_57-next.result (rw c.at-reader.ensures at c.peek_57-next.ensures) (omega (arith, c.if-next-ne0.false)))
