use Rattle.std.proofs.Common.{inl, inr, subst}
use Rattle.std.specs.Prelude.{Ok, Option}
use Rattle.std.specs.declared.alloc.AllocError.{AllocError}
use Rattle.signals.specs.declared.signal.Side.TheVariants.{Caller as CallerSide}
use Rattle.terminals.specs.Saying.{stoppable_lends}
use Rattle.terminals.specs.Sending.{Sends}
use Rattle.terminals.specs.declared.sending.SentBurst.{SentBurst}
use Rattle.joined_terminals.proofs.WholeCall.{caller_says, quiet_so}
use Rattle.joined_terminals.proofs.whole_call.caller_says.Goals as goal

pub returns-then-sent : goal.returns-then-sent
returns-then-sent c = λ e.
    caller_says c.sent_bursts_come.ensures c.terminals_are_safe.ensures.takes c.bursts_cut.ensures.turns
    c.turns_can_be_written.ensures.maps c.args.caller.now c.next_burst.new.self c.args.answerer.now c.is_heard.new.answerer c.in-Some.sent
    (subst (λ (r : Option SentBurst). Sends {E = AllocError} CallerSide stoppable_lends c.args.caller.now.speaking
    c.next_burst.new.self.speaking (Ok r)) c.in-Some.is c.in-Ok.ensures.sends)
    c.next_burst.ensures.framing (c.is_heard.ensures c.if-not-is_heard.false) (inl c.if-sent.true)

pub returns : goal.returns
returns c = λ e.
    caller_says c.sent_bursts_come.ensures c.terminals_are_safe.ensures.takes c.bursts_cut.ensures.turns
    c.turns_can_be_written.ensures.maps c.args.caller.now c.next_burst.new.self c.args.answerer.now c.is_heard.new.answerer c.in-Some.sent
    (subst (λ (r : Option SentBurst). Sends {E = AllocError} CallerSide stoppable_lends c.args.caller.now.speaking
    c.next_burst.new.self.speaking (Ok r)) c.in-Some.is c.in-Ok.ensures.sends)
    c.next_burst.ensures.framing (c.is_heard.ensures c.if-not-is_heard.false)
    (inr (quiet_so c.has_burst.result c.is_heard.new.answerer e c.has_burst.ensures))
