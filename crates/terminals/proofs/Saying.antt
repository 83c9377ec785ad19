-- What is left to be sent, and what is shown.
use Rattle.std.proofs.Common.{◌≡◌, ◌≢◌, ◌∙◌, ap, refl, subst}
use Rattle.std.specs.Prelude.{Option, Some, None, drop}
use Rattle.stations.specs.Bursts.{bursts_of}
use Rattle.signals.specs.declared.mark.Mark.{Mark}
use Rattle.stations.specs.Stopping.{call_end, cut_by, stop_turn}
use Rattle.stations.specs.Listening.{listens_after}
use Rattle.stations.specs.Waits.{answerer_longer_wait, answerer_wait, caller_longer_wait, caller_wait, unless_over}
use Rattle.stations.specs.declared.listening.Listening.{Listening}
use Rattle.stations.specs.declared.listening.Listening.TheVariants.{V21}
use Rattle.stations.specs.declared.stopping.Cut.{Cut}
use Rattle.stations.specs.declared.stopping.Cut.TheVariants.{Stop, Loss}
use Rattle.stations.specs.declared.turn.End.{End}
use Rattle.stations.specs.declared.turn.Turn.TheVariants.{Silent, Dcn}
use Rattle.stations.specs.declared.waiting.Wait.{Wait}
use Rattle.terminals.specs.Saying.{AnswerersHangUp, AnswerersLose, AnswerersStop, AreLeft, CallersHangUp, CallersLose, CallersStop}
use Rattle.terminals.specs.Saying.{ShowsUntilEnd, WaitsAreShown, limited_lends, stoppable_lends}
use Rattle.terminals.specs.Speaking.{spoken}
use Rattle.terminals.specs.Stopping.{caller_cut_off, last_mark, limited_cut_off, unless_cut}

-- ---- hanging up, and a line that is gone

pub callers_hang_up : CallersHangUp
unfolding bursts_of
callers_hang_up old t left r h = h.2 ∙ ap (λ bursts. drop 0 bursts) (h.1 t r)

pub answerers_hang_up : AnswerersHangUp
unfolding bursts_of
answerers_hang_up old left h = h.2 ∙ ap (λ bursts. drop 0 bursts) h.1

pub callers_lose : CallersLose
unfolding bursts_of
callers_lose old t left r h = h.2 ∙ ap (λ bursts. drop 0 bursts) (h.1 t r)

pub answerers_lose : AnswerersLose
unfolding bursts_of
answerers_lose old left h = h.2 ∙ ap (λ bursts. drop 0 bursts) h.1

-- ---- a stop

runs : (ending : Option End) (cut : Option Cut) → call_end ending cut ≡ None → stop_turn ending cut ≡ Dcn
runs (Some why) cut e = absurd cc
runs None (Some Stop) e = absurd cc
runs None (Some Loss) e = absurd cc
runs None None e = refl

has_ended : (ending : Option End) (cut : Option Cut) → call_end ending cut ≢ None →
    (stop_turn ending cut ≡ Silent) × (cut_by ending cut Stop ≡ cut)
has_ended (Some why) cut some = (refl, refl)
has_ended None (Some before) some = (refl, refl)
has_ended None None some = absurd (some refl)

pub callers_stop : CallersStop
unfolding bursts_of
callers_stop old t left r = (
  λ none h.
      let k : AreLeft stoppable_lends (spoken old (caller_cut_off Stop old.station) Dcn) left =
      subst (λ turn. AreLeft stoppable_lends (spoken old (caller_cut_off Stop old.station) turn) left)
      (runs old.station.station.ending old.station.cut none) h in
      k.2 ∙ ap (λ bursts. drop 0 bursts) (k.1 t r),
  λ some.
      let h = has_ended old.station.station.ending old.station.cut some in
      ap (λ turn. spoken old (caller_cut_off Stop old.station) turn) h.0 ∙
      ap (λ (cut : Option Cut). record old { station = record old.station { cut = cut } }) h.1,
)

pub answerers_stop : AnswerersStop
unfolding bursts_of
answerers_stop old left = (
  λ none h.
      let k : AreLeft limited_lends (spoken old (limited_cut_off Stop old.station) Dcn) left =
      subst (λ turn. AreLeft limited_lends (spoken old (limited_cut_off Stop old.station) turn) left)
      (runs old.station.station.ending old.station.cut none) h in
      k.2 ∙ ap (λ bursts. drop 0 bursts) k.1,
  λ some.
      let h = has_ended old.station.station.ending old.station.cut some in
      ap (λ turn. spoken old (limited_cut_off Stop old.station) turn) h.0 ∙
      ap (λ (cut : Option Cut). record old { station = record old.station { cut = cut } }) h.1,
)

-- ---- what is shown

shown_so : (ending : Option End) (cut : Option Cut) (wait : Wait) (longer : Option Wait) (listens : Listening) (mark : Option Mark) →
    ShowsUntilEnd
    (record {
      running = unless_cut cut (unless_over ending (Some wait));
      longer = unless_cut cut (unless_over ending longer);
      listens = listens;
      end = call_end ending cut;
      accepted = mark;
    })
    wait longer
shown_so None None wait longer listens mark = (λ none. (refl, refl), λ some. absurd (some refl))
shown_so None (Some Stop) wait longer listens mark = (λ none. absurd cc, λ some. (refl, refl))
shown_so None (Some Loss) wait longer listens mark = (λ none. absurd cc, λ some. (refl, refl))
shown_so (Some why) None wait longer listens mark = (λ none. absurd cc, λ some. (refl, refl))
shown_so (Some why) (Some cut) wait longer listens mark = (λ none. absurd cc, λ some. (refl, refl))

pub waits_are_shown : WaitsAreShown
waits_are_shown = (
  λ t cut. shown_so t.ending cut (caller_wait t.state) (caller_longer_wait t.state) V21 None,
  λ said s cut. shown_so s.ending cut (answerer_wait s.state) (answerer_longer_wait s.state) (listens_after said s) (last_mark s),
)
