-- What the check asks of `limits_end`.
use Rattle.std.proofs.Common.{◌∙◌, Bool, true, false, ap}
use Rattle.std.specs.Prelude.{Option, None}
use Rattle.conversations.specs.Conversations.{Behaviour, ConversationFields, stopped_for}
use Rattle.conversations.specs.LimitRows.{LimitEndsOf}
use Rattle.conversations.specs.Refusing.{stop_for}
use Rattle.conversations.proofs.laws.limits_end.Goals as goal
use Rattle.terminals.specs.Speaking.{Speaking}
use Rattle.terminals.specs.declared.watching.Refusal.{Refusal}

ends : (S : Type 0) (b : Behaviour S) → LimitEndsOf S b
ends S b c = record {
  dcn = λ none late up.
      ap (λ (it : Option Refusal). stopped_for b (stop_for it c.watch.late c.watch.given_up) c) none ∙
      (ap (λ (is : Bool). stopped_for b (stop_for None is c.watch.given_up) c) late ∙
      ap (λ (is : Bool). stopped_for b (stop_for None true is) c) up);
  silence = λ none up.
      ap (λ (it : Option Refusal). (stopped_for b (stop_for it c.watch.late c.watch.given_up) c).terminal.speaking) none ∙
      ap (λ (is : Bool). (stopped_for b (stop_for None c.watch.late is) c).terminal.speaking) up;
}

pub returns-clause-caller : goal.returns-clause-caller
returns-clause-caller c = ends _ _

pub returns-clause-answerer : goal.returns-clause-answerer
returns-clause-answerer c = ends _ _
