use Rattle.std.proofs.Common.{subst}
use Rattle.std.proofs.lemmas.Result.{err_from_is_err_and}
use Rattle.line_sim.specs.Delivering.{NextDone}
use Rattle.line_sim.proofs.Politely.{at_start, one_on, none_on, stops_on}
use Rattle.line_sim.proofs.world.World.deliver.Goals as goal

pub loop-delivered-init : goal.loop-delivered-init
loop-delivered-init c w shows = at_start c.args.self.now w c.args.most shows

pub returns-in_err-deliver_next : goal.returns-in_err-deliver_next
returns-in_err-deliver_next c w shows =
    let p = err_from_is_err_and c.from_residual.result c.from_residual.ensures.1 in
    rw p.1 (stops_on c.args.self.now c.loop-delivered.self c.deliver_next.new.self w c.args.most c.loop-delivered.delivered
    c.loop-delivered-test.true (c.loop-delivered.invariant w shows) c.in_err-deliver_next.ensures)

pub returns-then-not-branch : goal.returns-then-not-branch
returns-then-not-branch c w shows =
    none_on c.args.self.now c.loop-delivered.self c.deliver_next.new.self w c.args.most c.loop-delivered.delivered
    (c.loop-delivered.invariant w shows)
    (λ v s. subst (NextDone c.loop-delivered.self c.deliver_next.new.self v) c.if-not-branch.true (c.in_ok-deliver_next.ensures v s))

pub loop-delivered-preserved : goal.loop-delivered-preserved
loop-delivered-preserved c w shows =
    one_on c.args.self.now c.loop-delivered.self c.deliver_next.new.self w c.args.most c.loop-delivered.delivered
    c.loop-delivered-test.true (c.loop-delivered.invariant w shows)
    (λ v s. subst (NextDone c.loop-delivered.self c.deliver_next.new.self v) c.if-not-branch.false (c.in_ok-deliver_next.ensures v s))
