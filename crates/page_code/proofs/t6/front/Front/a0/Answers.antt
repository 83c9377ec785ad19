use Rattle.std.proofs.Common.{arith, take}
use Rattle.std.proofs.lemmas.List.{length-take-le}
use Rattle.page_code.proofs.TwoDimensions.Lines.{a0_line}
use Rattle.page_code.proofs.t6.front.Front.a0.Goals as goal

pub returns-clause-is : goal.returns-clause-is
returns-clause-is c list fits left = a0_line list c.args.self c.saturating_sub.result c.color.result fits left (omega (
  arith,
  c.saturating_sub.ensures,
)) (c.color.ensures (take c.args.self.turns list) (length-take-le c.args.self.turns list fits))
