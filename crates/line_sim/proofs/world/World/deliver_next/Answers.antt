use Rattle.std.proofs.lemmas.Bool.{iff_false}
use Rattle.std.proofs.lemmas.Result.{err_from_is_err_and}
use Rattle.line_sim.proofs.Politely.{answerer_stops, caller_stops, group_stops, group_comes_not, group_comes}
use Rattle.line_sim.proofs.world.World.deliver_next.Goals as goal

pub returns-in_err-event : goal.returns-in_err-event
returns-in_err-event c w shows =
    let p = err_from_is_err_and c.from_residual.result c.from_residual.ensures.1 in
    rw p.1 (answerer_stops c.args.self.now c.event.new.self
    (iff_false c.is_clear_to_answerer.ensures c.if-not-is_clear_to_answerer.true) c.in_err-event.ensures.err w shows)

pub returns-in_err-event-2 : goal.returns-in_err-event-2
returns-in_err-event-2 c w shows =
    let p = err_from_is_err_and c.from_residual-in_err-event-2.result c.from_residual-in_err-event-2.ensures.1 in
    rw p.1
    (caller_stops c.args.self.now c.event-then-not-is_clear_to_caller.new.self
    (c.is_clear_to_answerer.ensures.0 c.if-not-is_clear_to_answerer.false)
    (iff_false c.is_clear_to_caller.ensures c.if-not-is_clear_to_caller.true) c.in_err-event-2.ensures.err w shows)

pub returns-in_err-event-3 : goal.returns-in_err-event-3
returns-in_err-event-3 c w shows =
    let p = err_from_is_err_and c.from_residual-in_err-event-3.result c.from_residual-in_err-event-3.ensures.1 in
    rw p.1
    (group_stops c.args.self.now c.event-2.new.self c.is_between_groups.result
    (c.is_clear_to_answerer.ensures.0 c.if-not-is_clear_to_answerer.false)
    (c.is_clear_to_caller.ensures.0 c.if-not-is_clear_to_caller.false) c.is_between_groups.ensures c.if-not-is_between_groups.false
    c.in_err-event-3.ensures.err w shows)

pub returns-in_err-event-4 : goal.returns-in_err-event-4
returns-in_err-event-4 c w shows =
    let p = err_from_is_err_and c.from_residual-in_err-event-4.result c.from_residual-in_err-event-4.ensures.1 in
    rw p.1
    (group_comes_not c.args.self.now c.event-2.new.self c.event-3.new.self c.is_between_groups.result
    (c.is_clear_to_answerer.ensures.0 c.if-not-is_clear_to_answerer.false)
    (c.is_clear_to_caller.ensures.0 c.if-not-is_clear_to_caller.false) c.is_between_groups.ensures c.if-not-is_between_groups.false
    c.in_ok-event-3.ensures.ok c.in_err-event-4.ensures.err w shows)

pub returns : goal.returns
returns c w shows =
    group_comes c.args.self.now c.event-2.new.self c.event-3.new.self c.is_between_groups.result
    (c.is_clear_to_answerer.ensures.0 c.if-not-is_clear_to_answerer.false)
    (c.is_clear_to_caller.ensures.0 c.if-not-is_clear_to_caller.false) c.is_between_groups.ensures c.if-not-is_between_groups.false
    c.in_ok-event-3.ensures.ok c.in_ok-event-4.ensures.ok w shows
