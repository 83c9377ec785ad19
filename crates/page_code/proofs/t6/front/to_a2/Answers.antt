use Rattle.std.proofs.Common.{arith, take, refl, ◌+◌}
use Rattle.page_code.proofs.TwoDimensions.Lines.{two_runs}
use Rattle.page_code.proofs.t6.front.to_a2.Goals as goal

pub returns-clause-line : goal.returns-clause-line
returns-clause-line c = two_runs (take c.args.front.turns c.args.list.now.items) (take c.turn_at-turns.result
    c.turn_at-turns.new.list.items)
    (take c.turn_at.result c.turn_at.new.list.items) c.args.front.from (c.a0.result.place + c.args.a0a1)
    (c.a0.result.place + c.args.a0a1 + c.args.a1a2) c.args.a0a1 c.args.a1a2 c.requires.line (omega (arith, c.a0.ensures.place)) refl
    c.turn_at-turns.ensures.turns c.turn_at.ensures.turns
