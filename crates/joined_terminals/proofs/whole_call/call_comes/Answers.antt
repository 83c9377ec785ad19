use Rattle.joined_terminals.proofs.Coming.{silent_so}
use Rattle.joined_terminals.proofs.WholeCall.{begins_so, comes_so}
use Rattle.joined_terminals.proofs.whole_call.call_comes.Goals as goal

pub loop-turn-init : goal.loop-turn-init
loop-turn-init c =
    begins_so c.sent_bursts_come.ensures c.args.document c.args.wish c.args.caps c.args.limits c.in-Ok.caller c.in-Ok.answerer
    c.in-Ok.ensures.new (silent_so c.in-Ok.caller.framing c.in-Ok.ensures.silent.0) (silent_so c.in-Ok.answerer.framing c.in-Ok.ensures.silent.1)

pub returns-then-is_normal-2 : goal.returns-then-is_normal-2
returns-then-is_normal-2 c = λ e.
    comes_so c.terminals_are_safe.ensures.safe c.args.document c.args.wish c.args.caps c.args.limits c.loop-turn.caller c.loop-turn.answerer
    c.shown.result c.shown-then-is_normal.result c.loop-turn.invariant c.shown.ensures c.shown-then-is_normal.ensures
    (c.is_normal.ensures c.if-is_normal.true) (c.is_normal-then-is_normal.ensures c.if-is_normal-2.true)

pub loop-turn-preserved : goal.loop-turn-preserved
loop-turn-preserved c =
    c.caller_says.ensures c.if-not-caller_says.false c.args.document c.args.wish c.args.caps c.args.limits
    (c.answerer_says.ensures c.if-not-answerer_says.false c.args.document c.args.wish c.args.caps c.args.limits c.loop-turn.invariant)
