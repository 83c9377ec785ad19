-- An answerer that has no MCF to say, and whose call has ended or was cut off, goes on so.
use Rattle.std.proofs.Common.{◌≡◌, ◌≢◌, ◌⊎◌, inl, inr, Bool, Option, Some, None, List, [], ◌∷◌, refl, ap, sym, subst, ◌∙◌}
use Rattle.std.specs.Prelude.{◌&&◌}
use Rattle.conversations.specs.Answering.{limited_behaviour}
use Rattle.conversations.specs.Conversations.{ConversationFields, LosesFrames, PlainGiven, stopped_for}
use Rattle.conversations.specs.Conversations.{nothing, stopping, losing, frames, input}
use Rattle.stations.specs.AnswererStep.{Answerer, AnswererAnswer, answerer_silent}
use Rattle.stations.specs.Inputs.{AnswererInput, PlainItem}
use Rattle.stations.specs.Limiting.{LimitedFields}
use Rattle.stations.specs.Stopping.{cut_by, stop_turn}
use Rattle.stations.specs.declared.limiting.Limits.{Limits}
use Rattle.stations.specs.declared.stopping.Cut.{Cut}
use Rattle.stations.specs.declared.stopping.Cut.TheVariants.{Stop, Loss}
use Rattle.stations.specs.declared.turn.End.{End}
use Rattle.stations.specs.declared.turn.Turn.{Turn}
use Rattle.stations.specs.declared.turn.Turn.TheVariants.{Silent, Dcn, Mcf}
use Rattle.terminals.specs.Hearing.{PlainInput, heard_of}
use Rattle.terminals.specs.Runs.{TerminalFields}
use Rattle.terminals.specs.Speaking.{Speaking, Takes, is_silent, spoken}
use Rattle.terminals.specs.Stations.{answerer_takes}
use Rattle.terminals.specs.Stopping.{LimitedStepsUnlessCut, hung_up, limited_answers, limited_cut_off, limited_stop_says, silenced}
use Rattle.terminals.specs.Stopping.{stopped}
use Rattle.conversations.specs.declared.refusing.StopCause.{StopCause}
use Rattle.conversations.specs.declared.refusing.StopCause.TheVariants.{Refused, TooLong, NeverQuiet}
use Rattle.joined_terminals.specs.Joining.{AnswererMakes}
use Rattle.joined_terminals.specs.Octets.{IsPiece, TakesSo}
use Rattle.joined_terminals.specs.Steps.{Comes, TurnsSo}
use Rattle.joined_terminals.proofs.Limited.{limited_ended}

-- the call of the answerer has ended, or was cut off
abbrev pub IsOver : LimitedFields → Type 0
IsOver v = ((why : End) × (v.station.ending ≡ Some why)) ⊎ ((why : Cut) × (v.cut ≡ Some why))

-- so it is, and the answerer has no MCF to say
abbrev pub IsGone : Speaking LimitedFields → Type 0
IsGone now = (now.turn ≢ Mcf) × IsOver now.station

ended_silent : (limits : Limits) (s : Answerer) (why : End) → s.ending ≡ Some why → (taken : Option AnswererInput) →
    limited_answers limits s taken ≡ answerer_silent s
ended_silent limits s why e None = refl
ended_silent limits s why e (Some got) = limited_ended limits s why got e

over_steps : (cut : Option Cut) (old : LimitedFields) → old.cut ≡ cut → (x : PlainInput) (new : LimitedFields) (turn : Turn) → IsOver old →
    LimitedStepsUnlessCut cut old x new turn → (turn ≡ Silent) × IsOver new
over_steps (Some why) old e x new turn over h = (h.1, subst IsOver (sym h.0) over)
over_steps None old e x new turn (inr c) h =
    let both : None ≡ Some c.0 = sym e ∙ c.1 in let no : ⊥ = cc in absurd no
over_steps None old e x new turn (inl c) h =
    let same = ended_silent old.limits old.station c.0 c.1 (answerer_takes x) in (
      h.0.1 ∙ ap (λ (a : AnswererAnswer). a.turn) same,
      inl (c.0, ap (λ (s : Answerer). s.ending) h.0.0 ∙ (ap (λ (a : AnswererAnswer). a.next.ending) same ∙ c.1)),
    )

gone_spoken : (old : Speaking LimitedFields) (station : LimitedFields) (turn : Turn) → turn ≡ Silent → IsGone old → IsOver station →
    IsGone (spoken old station turn)
gone_spoken old station turn e gone over = subst (λ t. IsGone (spoken old station t)) (sym e) (gone.0, over)

gone_takes : (old : Speaking LimitedFields) (x : PlainInput) (new : Speaking LimitedFields) →
    Takes LimitedFields AnswererMakes old x new → IsGone old → IsGone new
gone_takes old x new h gone =
    let step = over_steps old.station.cut old.station refl x h.station h.turn gone.1 h.steps_so in
    subst IsGone (sym h.is) (gone_spoken old h.station h.turn step.0 gone step.1)

gone_all : (old : Speaking LimitedFields) (inputs : List PlainInput) (new : Speaking LimitedFields) (silent : Bool) →
    TakesSo AnswererMakes old inputs new silent → IsGone old → IsGone new
gone_all old [] new silent h gone = subst IsGone (sym h.0) gone
gone_all old (x ∷ inputs) new silent h gone = gone_all h.0 inputs new h.1 h.3 (at h.2)
  where
    at : ((takes : Takes LimitedFields AnswererMakes old x h.0) × (silent ≡ (is_silent takes.turn && h.1))) ⊎ ((h.0 ≡ old) × (silent ≡ h.1)) →
        IsGone h.0
    at (inl p) = gone_takes old x h.0 p.0 gone
    at (inr p) = subst IsGone (sym p.0) gone

pub gone_lost : (old new : TerminalFields LimitedFields) (items others : List PlainItem) (silent : Bool) (given : PlainGiven) →
    LosesFrames limited_behaviour old given new → (comes : Comes IsPiece old.framing items given others) →
    TurnsSo limited_behaviour IsPiece old items others given comes new silent → IsGone old.speaking → IsGone new.speaking
gone_lost old new items others silent (frames octets) loses comes turns gone =
    gone_all old.speaking (heard_of comes.0 octets) new.speaking silent turns gone
gone_lost old new items others silent nothing loses comes turns gone = absurd loses
gone_lost old new items others silent stopping loses comes turns gone = absurd loses
gone_lost old new items others silent losing loses comes turns gone = absurd loses
gone_lost old new items others silent (input x) loses comes turns gone = absurd loses

-- ---- calls that are stopped

stop_cut : (ending : Option End) (why : Cut) → stop_turn ending (Some why) ≡ Silent
stop_cut None why = refl
stop_cut (Some end) why = refl

over_silent : (v : LimitedFields) → IsOver v → limited_stop_says v ≡ Silent
over_silent v (inl c) = ap (λ e. stop_turn e v.cut) c.1
over_silent v (inr c) = ap (λ e. stop_turn v.station.ending e) c.1 ∙ stop_cut v.station.ending c.0

-- what was cut off or has ended is so after a cut
pub over_cut : (now : Cut) (v : LimitedFields) → IsOver (limited_cut_off now v)
over_cut now v = at v.station.ending refl v.cut refl
  where
    at : (ending : Option End) → v.station.ending ≡ ending → (cut : Option Cut) → v.cut ≡ cut → IsOver (limited_cut_off now v)
    at (Some why) e cut f = inl (why, e)
    at None e (Some before) f = inr (before, ap (λ o. cut_by o v.cut now) e ∙ ap (λ c. cut_by None c now) f)
    at None e None f = inr (now, ap (λ o. cut_by o v.cut now) e ∙ ap (λ c. cut_by None c now) f)

pub gone_stopped : (old : Speaking LimitedFields) → IsGone old → IsGone (stopped limited_cut_off limited_stop_says old)
gone_stopped old gone =
    gone_spoken old (limited_cut_off Stop old.station) (limited_stop_says old.station) (over_silent old.station gone.1) gone
    (over_cut Stop old.station)

gone_silenced : (old : Speaking LimitedFields) → IsGone (silenced limited_cut_off old)
gone_silenced old = (λ e. cc, over_cut Loss old.station)

pub gone_for : (c : ConversationFields LimitedFields) (why : Option StopCause) → IsGone c.terminal.speaking →
    IsGone (stopped_for limited_behaviour why c).terminal.speaking
gone_for c None gone = gone
gone_for c (Some (Refused why)) gone = gone_stopped c.terminal.speaking gone
gone_for c (Some TooLong) gone = gone_stopped c.terminal.speaking gone
gone_for c (Some NeverQuiet) gone = gone_silenced c.terminal.speaking

pub gone_hung_up : (old : Speaking LimitedFields) → IsGone (hung_up limited_cut_off old)
gone_hung_up old = (λ e. cc, over_cut Stop old.station)
