-- Stations that can be stopped, and the good frames that a terminal has heard.
use Rattle.std.proofs.Common.{◌≡◌, ℕ, List, length, refl, ap, ◌∙◌, subst}
use Rattle.std.proofs.lemmas.List.{length-map}
use Rattle.std.proofs.lemmas.List.Sums.{length-filter}
use Rattle.std.specs.Prelude.{Option, Some, None, Result, Ok, Err}
use Rattle.hdlc.specs.Gaps.{count_of}
use Rattle.hdlc.specs.declared.counts.Class.TheVariants.{Good}
use Rattle.raster.specs.Packed.{bits_of}
use Rattle.raster.specs.declared.packed.Order.TheVariants.{LsbFirst}
use Rattle.signals.specs.declared.mark.Mark.{Mark}
use Rattle.stations.specs.Bursts.{bursts_of}
use Rattle.stations.specs.CallerFields.{Represents}
use Rattle.stations.specs.CallerStep.{Caller}
use Rattle.stations.specs.Inputs.{CallerInput}
use Rattle.stations.specs.Limiting.{LimitedFields}
use Rattle.stations.specs.AnswererStep.{Answerer}
use Rattle.stations.specs.Listening.{listens_after}
use Rattle.stations.specs.Stopping.{StoppableCallerFields, call_end}
use Rattle.stations.specs.Stopping.{CallerStepsUnlessCut as StepsUnlessCut}
use Rattle.stations.specs.Waits.{answerer_longer_wait, answerer_wait, caller_wait, unless_over}
use Rattle.stations.specs.declared.listening.Listening.{Listening}
use Rattle.stations.specs.declared.stopping.CallEnd.{CallEnd}
use Rattle.stations.specs.declared.stopping.Cut.{Cut}
use Rattle.stations.specs.declared.stopping.Cut.TheVariants.{Stop, Loss}
use Rattle.stations.specs.declared.turn.End.{End}
use Rattle.stations.specs.declared.turn.Turn.{Turn}
use Rattle.stations.specs.declared.waiting.Wait.{Wait}
use Rattle.terminals.specs.Hearing.{PlainInput, contents}
use Rattle.terminals.specs.Speaking.{StepsOrStays}
use Rattle.terminals.specs.Stations.{caller_answers, caller_given, caller_takes}
use Rattle.terminals.specs.Stopping.{AnswerersSendDcn, CallerStepsUnlessCut, CallersSendDcn, LimitedShows, last_mark, unless_cut, unless_ended}

-- ---- a caller's step

same_caller : (a b : StoppableCallerFields) → a.station ≡ b.station → a.cut ≡ b.cut → a ≡ b
same_caller a b s e =
    ap (λ x. record { station = x; cut = a.cut }) s ∙ ap (λ (x : Option Cut). record { station = b.station; cut = x }) e

taken_so : (t : Caller) (wait : Option Wait) (input : PlainInput) (taken : CallerInput) →
    wait ≡ unless_over t.ending (Some (caller_wait t.state)) → Some taken ≡ caller_takes wait input →
    caller_answers t (Some taken) ≡ caller_given t input
taken_so t wait input taken runs is =
    ap (caller_answers t) (is ∙ ap (λ w. caller_takes w input) runs)

pub caller_stepped :
    {E : Type 0} (old new : StoppableCallerFields) (input : PlainInput) (taken : CallerInput) (wait : Option Wait) (result : Result Turn E)
    (cut : Option Cut) → cut ≡ old.cut →
    ((t : Caller) → Represents old.station t → wait ≡ unless_over t.ending (Some (caller_wait t.state))) →
    Some taken ≡ caller_takes wait input → StepsUnlessCut old taken new result cut →
    StepsOrStays (λ (a : StoppableCallerFields) i b turn. CallerStepsUnlessCut a.cut a i b turn) old input new result
caller_stepped old new input taken wait (Ok turn) None e runs is h =
    subst (λ k. CallerStepsUnlessCut k old input new turn) e (
      (λ t r.
          let a = h.0 t r in
          let so = taken_so t wait input taken (runs t r) is in
          (subst (λ answer. Represents new.station answer.next) so a.0, a.1 ∙ ap (λ answer. answer.turn) so)),
      h.1,
    )
caller_stepped old new input taken wait (Err refused) None e runs is h = same_caller new old h.0 (h.1 ∙ e)
caller_stepped old new input taken wait (Ok turn) (Some why) e runs is h =
    subst (λ k. CallerStepsUnlessCut k old input new turn) e (h.0, cc)
caller_stepped old new input taken wait (Err refused) (Some why) e runs is h = h.0

-- ---- what an answerer shows

no_wait : (ending : Option End) (cut : Option Cut) (wait : Option Wait) →
    unless_ended (call_end ending cut) (unless_over ending wait) ≡ unless_cut cut (unless_over ending wait)
no_wait None None wait = refl
no_wait None (Some Stop) wait = refl
no_wait None (Some Loss) wait = refl
no_wait (Some why) None wait = refl
no_wait (Some why) (Some cut) wait = refl

pub limited_is_shown :
    (v : LimitedFields) (s : Answerer) (end : Option CallEnd) (wait longer one two : Option Wait) (listens : Listening) (accepted : Option Mark) →
    s ≡ v.station → end ≡ call_end v.station.ending v.cut → wait ≡ unless_over s.ending (Some (answerer_wait s.state)) →
    longer ≡ unless_over s.ending (answerer_longer_wait s.state) → one ≡ unless_ended end wait → two ≡ unless_ended end longer →
    listens ≡ listens_after v.said v.station → accepted ≡ last_mark s →
    LimitedShows v (record { running = one; longer = two; listens = listens; end = end; accepted = accepted })
limited_is_shown v s end wait longer one two listens accepted is e w l a b hears marked =
    rw (a, b, hears, marked, w, l, e, is)
    (rw (
      no_wait v.station.ending v.cut (Some (answerer_wait v.station.state)),
      no_wait v.station.ending v.cut (answerer_longer_wait v.station.state),
    ) refl)

-- ---- good frames

pub good_gaps_are_frames : (octets : List ℕ) → count_of Good (bits_of LsbFirst octets) ≡ length (contents octets)
unfolding contents
good_gaps_are_frames octets = rw (length-map, length-filter) refl

-- ---- DCN

pub callers_send_dcn : CallersSendDcn
unfolding bursts_of
callers_send_dcn t = refl

pub answerers_send_dcn : AnswerersSendDcn
unfolding bursts_of
answerers_send_dcn s = refl
