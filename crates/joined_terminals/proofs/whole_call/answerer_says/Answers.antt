use Rattle.std.proofs.Common.{subst}
use Rattle.std.specs.Prelude.{Ok, Option}
use Rattle.std.specs.declared.alloc.AllocError.{AllocError}
use Rattle.signals.specs.declared.signal.Side.TheVariants.{Answerer as AnswererSide}
use Rattle.terminals.specs.Runs.{Hears}
use Rattle.terminals.specs.Saying.{limited_lends, stoppable_lends}
use Rattle.terminals.specs.Sending.{Sends}
use Rattle.terminals.specs.declared.sending.SentBurst.{SentBurst}
use Rattle.joined_terminals.specs.Joining.{CallerMakes}
use Rattle.joined_terminals.proofs.WholeCall.{answerer_says}
use Rattle.joined_terminals.proofs.whole_call.answerer_says.Goals as goal

pub returns-in-Ok-hear : goal.returns-in-Ok-hear
returns-in-Ok-hear c = λ e.
    answerer_says c.sent_bursts_come.ensures c.terminals_are_safe.ensures.takes c.turns_have_few_bursts.ensures.answerer c.args.caller.now
    c.hear.new.self c.args.answerer.now c.next_burst.new.self c.in-Some.sent
    (subst (λ (r : Option SentBurst). Sends {E = AllocError} AnswererSide limited_lends c.args.answerer.now.speaking
    c.next_burst.new.self.speaking (Ok r)) c.in-Some.is c.in-Ok.ensures.sends)
    c.next_burst.ensures.framing
    (subst (λ octets. Hears CallerMakes stoppable_lends c.args.caller.now octets c.hear.new.self (Ok tt)) c.deref.ensures.value
    c.in-Ok-hear.ensures)
