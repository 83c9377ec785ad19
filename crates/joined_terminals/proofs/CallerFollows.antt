-- What happens to the caller's terminal is followed by the simulated call.
use Rattle.std.proofs.Common.{◌≡◌, ◌≢◌, ◌⊎◌, inl, inr, ℕ, Bool, true, false, Option, Some, None, List, [], ◌∷◌, ◌++◌, refl, ap}
use Rattle.std.proofs.Common.{sym, subst, ◌∙◌}
use Rattle.signals.specs.Signals.{PlainSignal, dcn}
use Rattle.stations.specs.Bursts.{CutByCarrier}
use Rattle.stations.specs.CallerFields.{Represents}
use Rattle.stations.specs.CallerStep.{Caller, CallerAnswer, caller_items, caller_silent, caller_step}
use Rattle.stations.specs.Inputs.{CallerInput, hears, timeout, t5, PlainItem, framed, checked}
use Rattle.stations.specs.Stopping.{StoppableCallerFields, stop_turn}
use Rattle.stations.specs.Waits.{caller_wait, unless_over}
use Rattle.stations.specs.declared.stopping.Cut.{Cut}
use Rattle.stations.specs.declared.stopping.Cut.TheVariants.{Stop, Loss}
use Rattle.stations.specs.declared.turn.End.{End}
use Rattle.stations.specs.declared.turn.Turn.{Turn}
use Rattle.stations.specs.declared.turn.Turn.TheVariants.{Silent, Dcn}
use Rattle.stations.specs.declared.waiting.Wait.{Wait}
use Rattle.stations.specs.declared.waiting.Wait.TheVariants.{T1, T2, T4, T5}
use Rattle.terminals.specs.Hearing.{PlainInput, said, check, over}
use Rattle.terminals.specs.Speaking.{Speaking, is_silent, spoken}
use Rattle.terminals.specs.Stations.{CallerSteps, caller_answers, caller_takes}
use Rattle.terminals.specs.Stopping.{CallerStepsUnlessCut, caller_cut_off, caller_stop_says}
use Rattle.line_sim.specs.Line.{World, Done, caller_acts, caller_sends}
use Rattle.line_sim.specs.declared.event.Event.TheVariants.{CallerT5, CallerTimeout, DeliverToCaller}
use Rattle.joined_terminals.specs.Happening.{ComesToCaller, FirstComes}
use Rattle.joined_terminals.specs.Joining.{CallerSends, CallerTakes, Joined, caller_begins}
use Rattle.joined_terminals.proofs.Follow.{AnswererSide, CallerSide, Follows, Reaches, after_known, caller_as, stays}
use Rattle.joined_terminals.proofs.Left.{all_left, answerer_left, burst_taken, caller_left, left_after, none_left}
use Rattle.joined_terminals.proofs.Silent.{ended_silent, hears_dcn, left_leaves, silent_leaves}
use Rattle.joined_terminals.proofs.Within.{IsWithin, dcn_or_not, dcn_within, front_within, less_within, more_within, no_more, reaches_caller}
use Rattle.joined_terminals.proofs.Within.{without_first}

-- both terminals after the caller has a turn
abbrev pub caller_spoke : Joined → StoppableCallerFields → Turn → Joined
caller_spoke j station turn = caller_begins (is_silent turn) (record j { caller = spoken j.caller station turn })

-- the simulated caller takes the same step
acted : CutByCarrier → (j : Joined) (w : World) (ag : Bool) (station : StoppableCallerFields) (input : CallerInput) (turn : Turn) →
    CallerSide false j w → AnswererSide ag j w → Represents station.station (caller_step w.caller input).next →
    turn ≡ (caller_step w.caller input).turn → Follows (caller_spoke j station turn) (caller_acts w Done input)
acted cut j w ag station input turn c a r e =
    subst (λ t. Follows (caller_spoke j station t) (caller_acts w Done input)) (sym e) (at (caller_step w.caller input).turn refl)
  where
    next : Caller
    next = (caller_step w.caller input).next

    loud : (t : Turn) →
        Follows
        (record j {
          caller = record { station = station; turn = t; taken = 0 };
          to_caller = [];
          caller_clear = true;
          answerer_clear = false;
        })
        (record {
          caller = (caller_step w.caller input).next;
          answerer = w.answerer;
          to_answerer = w.to_answerer ++ caller_items (caller_step w.caller input).next t;
          to_caller = [];
        })
    loud t = record {
      caller_gone = false;
      answerer_gone = ag;
      caller = record {
        represents = r;
        out = subst (λ l. IsWithin (j.to_answerer ++ l) (w.to_answerer ++ caller_items (caller_step w.caller input).next t))
            (sym (all_left cut (caller_step w.caller input).next t))
            (more_within (caller_items (caller_step w.caller input).next t)
            (front_within j.to_answerer (caller_left j.caller_clear j.caller.taken j.caller.turn w.caller) w.to_answerer c.out));
      };
      answerer = record { is = a.is; out = no_more };
    }

    at : (t : Turn) → (caller_step w.caller input).turn ≡ t →
        Follows (caller_spoke j station t)
        (caller_sends t w (caller_step w.caller input).next (caller_items (caller_step w.caller input).next t))
    at Silent silent = record {
      caller_gone = false;
      answerer_gone = ag;
      caller = record {
        represents = r;
        out = less_within j.to_answerer (caller_left j.caller_clear j.caller.taken j.caller.turn w.caller)
            (caller_left j.caller_clear j.caller.taken j.caller.turn (caller_step w.caller input).next) w.to_answerer
            (left_after w.caller (caller_step w.caller input).next (silent_leaves w.caller input silent) j.caller_clear j.caller.taken j.caller.turn)
            c.out;
      };
      answerer = record { is = a.is; out = a.out };
    }
    at t e = loud t

-- the caller is silent and stays where it is
pub caller_quiet : (gone ag : Bool) (j : Joined) (w : World) (station : StoppableCallerFields) (turn : Turn) → CallerSide gone j w →
    AnswererSide ag j w → Represents station.station (caller_as gone w.caller) → turn ≡ Silent → Follows (caller_spoke j station turn) w
caller_quiet gone ag j w station turn c a r silent =
    subst (λ t. Follows (caller_spoke j station t) w) (sym silent)
    (record {
      caller_gone = gone;
      answerer_gone = ag;
      caller = record { represents = r; out = c.out };
      answerer = record { is = a.is; out = a.out };
    })

-- a step, or a cut call
by_cut : (cut : Option Cut) (old : StoppableCallerFields) (input : PlainInput) (new : StoppableCallerFields) (turn : Turn) →
    CallerStepsUnlessCut cut old input new turn → CallerSteps old.station input new.station turn ⊎ ((new ≡ old) × (turn ≡ Silent))
by_cut None old input new turn h = inl h.0
by_cut (Some why) old input new turn h = inr h

-- a caller whose peer has left takes nothing more
gone_quiet : (c : Caller) (taken : Option CallerInput) → caller_answers (caller_as true c) taken ≡ caller_silent (caller_as true c)
gone_quiet c None = refl
gone_quiet c (Some input) = refl

gone_silent : (ag : Bool) (input : PlainInput) (j : Joined) (w : World) (station : StoppableCallerFields) (turn : Turn) → CallerSide true j w →
    AnswererSide ag j w → CallerSteps j.caller.station.station input station.station turn → Follows (caller_spoke j station turn) w
gone_silent ag input j w station turn c a steps =
    let t : Caller = caller_as true w.caller in
    let h = steps t c.represents in
    let same = gone_quiet w.caller (caller_takes (unless_over t.ending (Some (caller_wait t.state))) input) in
    caller_quiet true ag j w station turn c a (subst (λ (x : CallerAnswer). Represents station.station x.next) same h.0)
    (h.1 ∙ ap (λ (x : CallerAnswer). x.turn) same)

cut_quiet : (gone ag : Bool) (j : Joined) (w : World) (station : StoppableCallerFields) (turn : Turn) → CallerSide gone j w →
    AnswererSide ag j w → (station ≡ j.caller.station) × (turn ≡ Silent) → Follows (caller_spoke j station turn) w
cut_quiet gone ag j w station turn c a h =
    caller_quiet gone ag j w station turn c a
    (subst (λ (s : StoppableCallerFields). Represents s.station (caller_as gone w.caller)) (sym h.0) c.represents) h.1

-- the end of a wait is no signal
abbrev IsNoSignal : Option CallerInput → Type 0
IsNoSignal None = Unit {0}
IsNoSignal (Some timeout) = Unit {0}
IsNoSignal (Some t5) = Unit {0}
IsNoSignal (Some (hears signal)) = ⊥

no_signal : (running : Option Wait) (wait : Wait) → IsNoSignal (caller_takes running (over wait))
no_signal None T1 = tt
no_signal None T2 = tt
no_signal None T4 = tt
no_signal None T5 = tt
no_signal (Some T1) T1 = tt
no_signal (Some T1) T2 = tt
no_signal (Some T1) T4 = tt
no_signal (Some T1) T5 = tt
no_signal (Some T2) T1 = tt
no_signal (Some T2) T2 = tt
no_signal (Some T2) T4 = tt
no_signal (Some T2) T5 = tt
no_signal (Some T4) T1 = tt
no_signal (Some T4) T2 = tt
no_signal (Some T4) T4 = tt
no_signal (Some T4) T5 = tt
no_signal (Some T5) T1 = tt
no_signal (Some T5) T2 = tt
no_signal (Some T5) T4 = tt
no_signal (Some T5) T5 = tt

waited_so : CutByCarrier → (j : Joined) (w : World) (ag : Bool) (station : StoppableCallerFields) (turn : Turn) → CallerSide false j w →
    AnswererSide ag j w → (taken : Option CallerInput) → IsNoSignal taken → Represents station.station (caller_answers w.caller taken).next →
    turn ≡ (caller_answers w.caller taken).turn → Reaches (caller_spoke j station turn) w
waited_so cut j w ag station turn c a None is_none r e = stays (caller_quiet false ag j w station turn c a r e)
waited_so cut j w ag station turn c a (Some timeout) is_none r e =
    record { steps = (CallerTimeout, Done) ∷ []; follows = acted cut j w ag station timeout turn c a r e }
waited_so cut j w ag station turn c a (Some t5) is_none r e =
    record { steps = (CallerT5, Done) ∷ []; follows = acted cut j w ag station t5 turn c a r e }
waited_so cut j w ag station turn c a (Some (hears signal)) is_none r e = absurd is_none

waited : CutByCarrier → (wait : Wait) (j : Joined) (w : World) (gone ag : Bool) (station : StoppableCallerFields) (turn : Turn) →
    CallerSide gone j w → AnswererSide ag j w →
    CallerSteps j.caller.station.station (over wait) station.station turn ⊎ ((station ≡ j.caller.station) × (turn ≡ Silent)) →
    Reaches (caller_spoke j station turn) w
waited cut wait j w gone ag station turn c a (inr h) = stays (cut_quiet gone ag j w station turn c a h)
waited cut wait j w true ag station turn c a (inl steps) = stays (gone_silent ag (over wait) j w station turn c a steps)
waited cut wait j w false ag station turn c a (inl steps) =
    let h = steps w.caller c.represents in
    let running : Option Wait = unless_over w.caller.ending (Some (caller_wait w.caller.state)) in
    waited_so cut j w ag station turn c a (caller_takes running (over wait)) (no_signal running wait) h.0 h.1

-- both terminals after the caller took an input
took : (input : PlainInput) (j new : Joined) (h : CallerTakes input j new) → new ≡ caller_spoke j h.takes.station h.takes.turn
took input j new h =
    h.is ∙ ap (λ (s : Speaking StoppableCallerFields). caller_begins (is_silent h.takes.turn) (record j { caller = s })) h.takes.is

-- a wait of the caller is over
pub caller_waited : CutByCarrier → (wait : Wait) (j new : Joined) (w : World) → Follows j w → CallerTakes (over wait) j new → Reaches new w
caller_waited cut wait j new w f h =
    subst (λ (x : Joined). Reaches x w) (sym (took (over wait) j new h))
    (waited cut wait j w f.caller_gone f.answerer_gone h.takes.station h.takes.turn f.caller f.answerer
    (by_cut j.caller.station.cut j.caller.station (over wait) h.takes.station h.takes.turn h.takes.steps_so))

-- without the item that came
after_item : (gone : Bool) (j : Joined) (w : World) (others : List PlainItem) → CallerSide gone j w →
    CallerSide gone (record j { to_caller = others }) w
after_item gone j w others c = record { represents = c.represents; out = c.out }

after_own_item : (ag : Bool) (j : Joined) (w : World) (item : PlainItem) (others : List PlainItem) → j.to_caller ≡ item ∷ others →
    AnswererSide ag j w → IsWithin (item ∷ (others ++ answerer_left j.answerer_clear j.answerer.taken j.answerer.turn w.answerer.caps)) w.to_caller
after_own_item ag j w item others e a =
    subst (λ l. IsWithin (l ++ answerer_left j.answerer_clear j.answerer.taken j.answerer.turn w.answerer.caps) w.to_caller) e a.out

-- a DCN comes to the caller
heard_dcn : (ag : Bool) (j : Joined) (w : World) (station : StoppableCallerFields) (turn : Turn) → CallerSide false j w → AnswererSide ag j w →
    Represents station.station (caller_step w.caller (hears dcn)).next → turn ≡ (caller_step w.caller (hears dcn)).turn →
    Follows (caller_spoke j station turn) w
heard_dcn ag j w station turn c a r e = at w.caller.ending refl
  where
    at : (ending : Option End) → w.caller.ending ≡ ending → Follows (caller_spoke j station turn) w
    at (Some why) has_ended =
        let same = ended_silent w.caller why (hears dcn) has_ended in
        caller_quiet false ag j w station turn c a (subst (λ (x : CallerAnswer). Represents station.station x.next) same r)
        (e ∙ ap (λ (x : CallerAnswer). x.turn) same)
    at None runs =
        let same = hears_dcn w.caller runs in
        subst (λ t. Follows (caller_spoke j station t) w) (sym (e ∙ ap (λ (x : CallerAnswer). x.turn) same))
        (record {
          caller_gone = true;
          answerer_gone = ag;
          caller = record {
            represents = subst (λ (x : CallerAnswer). Represents station.station x.next) same r;
            out = less_within j.to_answerer (caller_left j.caller_clear j.caller.taken j.caller.turn w.caller)
                (caller_left j.caller_clear j.caller.taken j.caller.turn (caller_as true w.caller)) w.to_answerer
                (left_after w.caller (caller_as true w.caller) (left_leaves w.caller) j.caller_clear j.caller.taken j.caller.turn) c.out;
          };
          answerer = record { is = a.is; out = a.out };
        })

heard : CutByCarrier → (signal : PlainSignal) (others : List PlainItem) (j : Joined) (w : World) (gone ag : Bool)
    (station : StoppableCallerFields) (turn : Turn) → CallerSide gone j w → AnswererSide ag j w →
    IsWithin (framed signal ∷ (others ++ answerer_left j.answerer_clear j.answerer.taken j.answerer.turn w.answerer.caps)) w.to_caller →
    CallerSteps j.caller.station.station (said signal) station.station turn ⊎ ((station ≡ j.caller.station) × (turn ≡ Silent)) →
    (framed signal ≡ framed dcn) ⊎ (framed signal ≢ framed dcn) →
    Reaches (caller_spoke (record j { to_caller = others }) station turn) w
heard cut signal others j w gone ag station turn c a within (inr h) which =
    stays (cut_quiet gone ag (record j { to_caller = others }) w station turn (after_item gone j w others c)
    (record { is = a.is; out = without_first within }) h)
heard cut signal others j w true ag station turn c a within (inl steps) which =
    stays (gone_silent ag (said signal) (record j { to_caller = others }) w station turn (after_item true j w others c)
    (record { is = a.is; out = without_first within }) steps)
heard cut signal others j w false ag station turn c a within (inl steps) (inl is) =
    let leaving : signal ≡ dcn = cc in
    let h = steps w.caller c.represents in
    stays (heard_dcn ag (record j { to_caller = others }) w station turn (after_item false j w others c)
    (record { is = a.is; out = without_first within })
    (subst (λ (s : PlainSignal). Represents station.station (caller_step w.caller (hears s)).next) leaving h.0)
    (h.1 ∙ ap (λ (s : PlainSignal). (caller_step w.caller (hears s)).turn) leaving))
heard cut signal others j w false ag station turn c a within (inl steps) (inr not) =
    let r = reaches_caller not within w refl in
    let h = steps w.caller c.represents in
    after_known r.steps (caller_spoke (record j { to_caller = others }) station turn) w (record w { to_caller = framed signal ∷ r.more }) r.there
    (record {
      steps = (DeliverToCaller, Done) ∷ [];
      follows = acted cut (record j { to_caller = others }) (record w { to_caller = r.more }) ag station (hears signal) turn
          (record { represents = c.represents; out = c.out }) (record { is = a.is; out = r.within }) h.0 h.1;
    })

-- a training check comes to the caller, which takes none
checked_so : (octets : List ℕ) (others : List PlainItem) (j : Joined) (w : World) (gone ag : Bool) (station : StoppableCallerFields)
    (turn : Turn) → CallerSide gone j w → AnswererSide ag (record j { to_caller = others }) w →
    CallerSteps j.caller.station.station (check octets) station.station turn ⊎ ((station ≡ j.caller.station) × (turn ≡ Silent)) →
    Follows (caller_spoke (record j { to_caller = others }) station turn) w
checked_so octets others j w gone ag station turn c a (inr h) =
    cut_quiet gone ag (record j { to_caller = others }) w station turn (after_item gone j w others c) a h
checked_so octets others j w gone ag station turn c a (inl steps) =
    let t : Caller = caller_as gone w.caller in
    let h = steps t c.represents in
    let none = takes_none (unless_over t.ending (Some (caller_wait t.state))) in
    caller_quiet gone ag (record j { to_caller = others }) w station turn (after_item gone j w others c) a
    (subst (λ k. Represents station.station (caller_answers t k).next) none h.0) (h.1 ∙ ap (λ k. (caller_answers t k).turn) none)
  where
    takes_none : (running : Option Wait) → caller_takes running (check octets) ≡ None
    takes_none None = refl
    takes_none (Some T1) = refl
    takes_none (Some T2) = refl
    takes_none (Some T4) = refl
    takes_none (Some T5) = refl

-- the first item on its way to the caller comes
pub caller_heard : CutByCarrier → (j new : Joined) (w : World) → Follows j w → ComesToCaller j new → Reaches new w
caller_heard cut j new w f h = by_first j.to_caller refl h.first
  where
    steps : CallerSteps j.caller.station.station h.input h.takes.takes.station.station h.takes.takes.turn ⊎
        ((h.takes.takes.station ≡ j.caller.station) × (h.takes.takes.turn ≡ Silent))
    steps = by_cut j.caller.station.cut j.caller.station h.input h.takes.takes.station h.takes.takes.turn h.takes.takes.steps_so

    is : new ≡ caller_spoke (record j { to_caller = h.others }) h.takes.takes.station h.takes.takes.turn
    is = took h.input (record j { to_caller = h.others }) new h.takes

    by_first : (items : List PlainItem) → j.to_caller ≡ items → FirstComes items h.input h.others → Reaches new w
    by_first [] e first = absurd first
    by_first (framed signal ∷ items) e first =
        let all : j.to_caller ≡ framed signal ∷ h.others = e ∙ ap (λ l. framed signal ∷ l) (sym first.1) in
        subst (λ (x : Joined). Reaches x w) (sym is)
        (heard cut signal h.others j w f.caller_gone f.answerer_gone h.takes.takes.station h.takes.takes.turn f.caller f.answerer
        (after_own_item f.answerer_gone j w (framed signal) h.others all f.answerer)
        (subst (λ input. CallerSteps j.caller.station.station input h.takes.takes.station.station h.takes.takes.turn ⊎
        ((h.takes.takes.station ≡ j.caller.station) × (h.takes.takes.turn ≡ Silent))) first.0 steps)
        (dcn_or_not (framed signal)))
    by_first (checked sent ∷ items) e first =
        let all : j.to_caller ≡ checked sent ∷ h.others = e ∙ ap (λ l. checked sent ∷ l) (sym first.1) in
        let within = after_own_item f.answerer_gone j w (checked sent) h.others all f.answerer in
        subst (λ (x : Joined). Reaches x w) (sym is)
        (stays (checked_so first.0.0 h.others j w f.caller_gone f.answerer_gone h.takes.takes.station h.takes.takes.turn f.caller
        (record { is = f.answerer.is; out = without_first within })
        (subst (λ input. CallerSteps j.caller.station.station input h.takes.takes.station.station h.takes.takes.turn ⊎
        ((h.takes.takes.station ≡ j.caller.station) × (h.takes.takes.turn ≡ Silent))) first.0.2 steps)))

-- the caller's next burst goes onto the line
pub caller_sent : (j new : Joined) (w : World) → Follows j w → CallerSends j new → Reaches new w
caller_sent j new w f h =
    let t : Caller = caller_as f.caller_gone w.caller in
    subst (λ (x : Joined). Reaches x w) (sym h.is)
    (stays (record {
      caller_gone = f.caller_gone;
      answerer_gone = f.answerer_gone;
      caller = record {
        represents = f.caller.represents;
        out = subst (λ l. IsWithin l w.to_answerer)
            (sym (burst_taken t j.caller.turn j.caller.taken h.bursts h.burst h.later (h.lent t f.caller.represents) h.next j.caller_clear
            j.to_answerer)) f.caller.out;
      };
      answerer = record { is = f.answerer.is; out = f.answerer.out };
    }))

-- DCN takes the place of the caller's turn
pub caller_says_dcn : CutByCarrier → (j : Joined) (w : World) (station : StoppableCallerFields) → Follows j w →
    station.station ≡ j.caller.station.station →
    Follows
    (record j { caller = record { station = station; turn = Dcn; taken = 0 }; to_caller = []; caller_clear = true; answerer_clear = false }) w
caller_says_dcn cut j w station f same =
    let t : Caller = caller_as f.caller_gone w.caller in
    record {
      caller_gone = f.caller_gone;
      answerer_gone = f.answerer_gone;
      caller = record {
        represents = subst (λ v. Represents v t) (sym same) f.caller.represents;
        out = subst (λ l. IsWithin (j.to_answerer ++ l) w.to_answerer) (sym (all_left cut t Dcn))
            (dcn_within j.to_answerer w.to_answerer
            (front_within j.to_answerer (caller_left j.caller_clear j.caller.taken j.caller.turn t) w.to_answerer f.caller.out));
      };
      answerer = record { is = f.answerer.is; out = no_more };
    }

-- the program stops the caller's call
pub caller_stopped : CutByCarrier → (j : Joined) (w : World) → Follows j w →
    Follows (caller_spoke j (caller_cut_off Stop j.caller.station) (caller_stop_says j.caller.station)) w
caller_stopped cut j w f = at j.caller.station.station.ending j.caller.station.cut
  where
    at : (ending : Option End) (before : Option Cut) →
        Follows (caller_spoke j (caller_cut_off Stop j.caller.station) (stop_turn ending before)) w
    at (Some why) before =
        caller_quiet f.caller_gone f.answerer_gone j w (caller_cut_off Stop j.caller.station) Silent f.caller f.answerer f.caller.represents refl
    at None (Some before) =
        caller_quiet f.caller_gone f.answerer_gone j w (caller_cut_off Stop j.caller.station) Silent f.caller f.answerer f.caller.represents refl
    at None None = caller_says_dcn cut j w (caller_cut_off Stop j.caller.station) f refl

nothing_left : (t : Caller) (clear : Bool) → caller_left clear 0 Silent t ≡ []
nothing_left t true = none_left t.params.speed 0
nothing_left t false = refl

-- the caller's line is gone
pub caller_silenced : (j : Joined) (w : World) → Follows j w →
    Follows (record j { caller = record { station = caller_cut_off Loss j.caller.station; turn = Silent; taken = 0 } }) w
caller_silenced j w f =
    let t : Caller = caller_as f.caller_gone w.caller in
    record {
      caller_gone = f.caller_gone;
      answerer_gone = f.answerer_gone;
      caller = record {
        represents = f.caller.represents;
        out = less_within j.to_answerer (caller_left j.caller_clear j.caller.taken j.caller.turn t) (caller_left j.caller_clear 0 Silent t)
            w.to_answerer (inr (nothing_left t j.caller_clear)) f.caller.out;
      };
      answerer = record { is = f.answerer.is; out = f.answerer.out };
    }
