use Rattle.std.proofs.Common.{◌≡◌, ◌+◌, length, arith, sym, ◌∙◌}
use Rattle.line_sim.proofs.Runs.{one_noted, some_outcome}
use Rattle.line_sim.proofs.world.World.leaves_out.Goals as goal

pub returns-then-noted-before-clause-becomes : goal.returns-then-noted-before-clause-becomes
returns-then-noted-before-clause-becomes c =
    some_outcome c.args.self.now c.event-answer.new.self c.args.event c.event-answer.result c.event-answer.ensures.ok
    c.event-answer.ensures.err

pub returns-else-noted-before-clause-becomes : goal.returns-else-noted-before-clause-becomes
returns-else-noted-before-clause-becomes c =
    some_outcome c.args.self.now c.event-answer.new.self c.args.event c.event-answer.result c.event-answer.ensures.ok
    c.event-answer.ensures.err

pub returns-else-noted-before-clause-counted : goal.returns-else-noted-before-clause-counted
returns-else-noted-before-clause-counted c =
    let holds = c.event-answer.ensures.before in
    let did = some_outcome c.args.self.now c.event-answer.new.self c.args.event c.event-answer.result c.event-answer.ensures.ok
    c.event-answer.ensures.err in
    let more : length c.event-answer.new.self.entries ≡ length c.args.self.now.entries + 1 =
    one_noted c.args.self.now c.event-answer.new.self holds.world c.args.event did holds.led.shows
    (λ e. c.if-noted-before.false (c.noted.ensures ∙ (e ∙ sym c.noted-before.ensures))) in
    omega (arith, more)
