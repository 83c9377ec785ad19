-- What the check asks of `set_answerer`.
use Rattle.calls.proofs.DrivenSteps.{is_asked, none_set, not_asked, not_set, was_set}
use Rattle.calls.proofs.bad_line.set_answerer.Goals as goal

pub returns-then-line-eq0-clause-set : goal.returns-then-line-eq0-clause-set
returns-then-line-eq0-clause-set c g stands =
    not_set c.args.line.now g c.args.call.now c.args.generator.now (none_set c.args.line.now g.call c.if-line-eq0.true) stands

pub returns-then-not-asks_ready-clause-set : goal.returns-then-not-asks_ready-clause-set
returns-then-not-asks_ready-clause-set c g stands =
    not_set c.args.line.now g c.args.call.now c.args.generator.now
    (not_asked c.args.line.now c.args.call.now g.call c.asks_ready.result stands.shows c.asks_ready.ensures c.if-not-asks_ready.true) stands

pub returns-clause-set : goal.returns-clause-set
returns-clause-set c g stands =
    was_set c.args.line.now g c.args.call.now c.set_busy.new.self c.args.generator.now c.draw_busy-busy.new.generator
    c.draw_busy-busy.result c.set_busy.result
    (is_asked c.args.line.now c.args.call.now g.call c.asks_ready.result stands.shows c.asks_ready.ensures c.if-line-eq0.false
    c.if-not-asks_ready.false)
    stands c.draw_busy-busy.ensures.busy c.draw_busy-busy.ensures.next (c.set_busy.ensures.sets _ g.call stands.shows)
