use Rattle.std.proofs.Common.{arith, sym}
use Rattle.raster.specs.declared.row.Color.TheVariants.{White}
use Rattle.page_code.proofs.TwoDimensions.Lines.{turned_even, turned_odd}
use Rattle.page_code.proofs.t6.front.Front.color.Goals as goal

pub returns-then-self-eq0 : goal.returns-then-self-eq0
returns-then-self-eq0 c places long = sym (turned_even White places (omega (arith, long, c.if-self-eq0.true)))

pub returns-else-self-eq0 : goal.returns-else-self-eq0
returns-else-self-eq0 c places long = sym (turned_odd White places (λ even. omega (arith, long, even, c.if-self-eq0.false)))
