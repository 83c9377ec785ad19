-- What happens to the answerer's terminal is followed by the simulated call.
use Rattle.std.proofs.Common.{◌≡◌, ◌≢◌, ◌⊎◌, inl, inr, ℕ, ◌+◌, Bool, true, false, cond, Option, Some, None, List, [], ◌∷◌, ◌++◌, refl, ap}
use Rattle.std.proofs.Common.{sym, subst, ◌∙◌, append-nil}
use Rattle.raster.specs.Pages.{PagePixels}
use Rattle.signals.specs.Signals.{PlainSignal, dcn}
use Rattle.stations.specs.AnswererKeeping.{AnswerersKeep}
use Rattle.stations.specs.AnswererStep.{Answerer, AnswererAnswer, Steps, answerer_items, answerer_step, leaves}
use Rattle.stations.specs.Inputs.{AnswererInput, listens, trains, t2, t1, is_busy, PlainItem, framed, checked}
use Rattle.stations.specs.Layers.{is_good_training}
use Rattle.stations.specs.Limiting.{BusyBefore, LimitedFields, busy_while, freed, limited_step}
use Rattle.stations.specs.Stopping.{stop_turn}
use Rattle.stations.specs.Taken.{FrontStays, answered_with, with_front}
use Rattle.stations.specs.declared.stopping.Cut.{Cut}
use Rattle.stations.specs.declared.stopping.Cut.TheVariants.{Stop, Loss}
use Rattle.stations.specs.declared.turn.End.{End}
use Rattle.stations.specs.declared.turn.Turn.{Turn}
use Rattle.stations.specs.declared.turn.Turn.TheVariants.{Silent, Dcn}
use Rattle.stations.specs.declared.waiting.Wait.{Wait}
use Rattle.stations.specs.declared.waiting.Wait.TheVariants.{T1, T2, T4, T5}
use Rattle.terminals.specs.Hearing.{PlainInput, over, busy}
use Rattle.terminals.specs.Speaking.{Speaking, is_silent, spoken}
use Rattle.terminals.specs.Stations.{answerer_takes}
use Rattle.terminals.specs.Stopping.{LimitedStepsUnlessCut, limited_answers, limited_cut_off, limited_stop_says, with_pages_taken}
use Rattle.line_sim.specs.Line.{World, Outcome, Done, answerer_acts, answerer_sends, run}
use Rattle.line_sim.specs.declared.event.Event.{Event}
use Rattle.line_sim.specs.declared.event.Event.TheVariants.{AnswererT1, AnswererT2, Busy, DeliverToAnswerer, LoseToAnswerer, Spoil}
use Rattle.joined_terminals.specs.Happening.{Arrives, ComesToAnswerer, FirstComes}
use Rattle.joined_terminals.specs.Joining.{AnswererSends, AnswererTakes, Joined, answerer_begins}
use Rattle.joined_terminals.proofs.Checks.{good_as_sent, limited_alike, spoilt, spoilt_is_bad}
use Rattle.joined_terminals.proofs.Follow.{AnswererSide, CallerSide, Follows, Reaches, after_known, answerer_as, caller_as, stays}
use Rattle.joined_terminals.proofs.Left.{answerer_left, caller_left, reply_taken, said_by, said_is}
use Rattle.joined_terminals.proofs.Limited.{LimitedIs, limited_ended, limited_is, limited_leaves, told}
use Rattle.joined_terminals.proofs.Limited.LimitedIs.{out, own, busied}
use Rattle.joined_terminals.proofs.Within.{IsWithin, dcn_or_not, dcn_within, front_within, less_within, more_within, no_more, reaches_answerer}
use Rattle.joined_terminals.proofs.Within.{without_first}

-- what is known of the stations below
pub record StationsKnown : Type 0 where
  pub front : FrontStays
  pub before : BusyBefore
  pub keeps : AnswerersKeep

-- both terminals after the answerer has a turn
abbrev pub answerer_spoke : Joined → LimitedFields → Turn → Joined
answerer_spoke j station turn = answerer_begins (is_silent turn) (record j { answerer = spoken j.answerer station turn })

-- the simulated answerer takes the same step
acted : StationsKnown → (j : Joined) (w : World) (cg : Bool) (station : LimitedFields) (input : AnswererInput) (turn : Turn) →
    CallerSide cg j w → AnswererSide false j w → with_front j.pages station.station ≡ (answerer_step w.answerer input).next →
    turn ≡ (answerer_step w.answerer input).turn → Follows (answerer_spoke j station turn) (answerer_acts w Done input)
acted known j w cg station input turn c a is e =
    subst (λ t. Follows (answerer_spoke j station t) (answerer_acts w Done input)) (sym e) (at (answerer_step w.answerer input).turn refl)
  where
    loud : (t : Turn) →
        Follows
        (record j {
          answerer = record { station = station; turn = t; taken = 0 };
          to_answerer = [];
          answerer_clear = true;
          caller_clear = false;
        })
        (record {
          caller = w.caller;
          answerer = (answerer_step w.answerer input).next;
          to_answerer = [];
          to_caller = w.to_caller ++ answerer_items (answerer_step w.answerer input).next t;
        })
    loud t = record {
      caller_gone = cg;
      answerer_gone = false;
      caller = record { represents = c.represents; out = no_more };
      answerer = record {
        is = is;
        out = subst (λ l. IsWithin (j.to_caller ++ said_by (answerer_step w.answerer input).next.caps t) (w.to_caller ++ l))
            (sym (said_is (answerer_step w.answerer input).next t))
            (more_within (said_by (answerer_step w.answerer input).next.caps t)
            (front_within j.to_caller (answerer_left j.answerer_clear j.answerer.taken j.answerer.turn w.answerer.caps) w.to_caller a.out));
      };
    }

    at : (t : Turn) → (answerer_step w.answerer input).turn ≡ t →
        Follows (answerer_spoke j station t)
        (answerer_sends t w (answerer_step w.answerer input).next (answerer_items (answerer_step w.answerer input).next t))
    at Silent silent = record {
      caller_gone = cg;
      answerer_gone = false;
      caller = record { represents = c.represents; out = c.out };
      answerer = record {
        is = is;
        out = subst (λ caps. IsWithin (j.to_caller ++ answerer_left j.answerer_clear j.answerer.taken j.answerer.turn caps) w.to_caller)
            (sym (known.keeps w.answerer input).caps) a.out;
      };
    }
    at t e = loud t

-- the answerer is silent and stays where it is
pub answerer_quiet : (cg gone : Bool) (j : Joined) (w : World) (station : LimitedFields) (turn : Turn) → CallerSide cg j w →
    AnswererSide gone j w → station.station ≡ j.answerer.station.station → turn ≡ Silent → Follows (answerer_spoke j station turn) w
answerer_quiet cg gone j w station turn c a same silent =
    subst (λ t. Follows (answerer_spoke j station t) w) (sym silent)
    (record {
      caller_gone = cg;
      answerer_gone = gone;
      caller = record { represents = c.represents; out = c.out };
      answerer = record { is = ap (with_front j.pages) same ∙ a.is; out = a.out };
    })

-- How an input comes to the simulated answerer in a world: by some events, from a line with an item more; or others take the item away.
pub record Comes (input : AnswererInput) (before : List PlainItem) (w : World) : Type 0 where
  pub events : List (Event × Outcome)
  pub come : (s : Answerer) → run events (record w { to_answerer = before; answerer = s }) ≡ answerer_acts (record w { answerer = s }) Done input
  pub skip : List (Event × Outcome)
  pub skipped : run skip (record w { to_answerer = before }) ≡ w

-- a step of an answerer with limits
abbrev LimitedTo : LimitedFields → AnswererInput → LimitedFields → Turn → Type 0
LimitedTo old input new turn = Steps old.station new.station turn (limited_step old.limits old.station input)

-- an input to an answerer that runs
given_running : StationsKnown → (j : Joined) (before : List PlainItem) (w : World) (cg : Bool) (station : LimitedFields)
    (input : AnswererInput) (turn : Turn) → CallerSide cg j w → AnswererSide false j w → ((full : Bool) → Comes (busy_while full input) before w) →
    LimitedTo j.answerer.station input station turn → j.answerer.station.station.ending ≡ None →
    Reaches (answerer_spoke j station turn) (record w { to_answerer = before })
given_running known j before w cg station input turn c a comes steps runs =
    by_kind (limited_step j.answerer.station.limits j.answerer.station.station input)
    (limited_is known.before j.answerer.station.limits j.answerer.station.station input runs) steps
  where
    s : Answerer
    s = j.answerer.station.station

    after_own : (given : AnswererInput) → Comes given before w → Steps j.answerer.station.station station.station turn
        (answerer_step j.answerer.station.station given) → Reaches (answerer_spoke j station turn) (record w { to_answerer = before })
    after_own given comes steps =
        let step : answerer_step w.answerer given ≡ answered_with j.pages (answerer_step j.answerer.station.station given) =
        ap (λ x. answerer_step x given) (sym a.is) ∙ known.front j.pages j.answerer.station.station given in
        after_known comes.events (answerer_spoke j station turn) (record w { to_answerer = before }) (answerer_acts w Done given)
        (comes.come w.answerer)
        (stays (acted known j w cg station given turn c a
        (ap (with_front j.pages) steps.0 ∙ sym (ap (λ (x : AnswererAnswer). x.next) step))
        (steps.1 ∙ sym (ap (λ (x : AnswererAnswer). x.turn) step))))

    after_busied : (given : AnswererInput) → Comes given before w → Steps j.answerer.station.station station.station turn
        (answerer_step (record j.answerer.station.station { busy = true }) given) →
        Reaches (answerer_spoke j station turn) (record w { to_answerer = before })
    after_busied given comes steps =
        let busy_now : Answerer = record j.answerer.station.station { busy = true } in
        let there : Answerer = record w.answerer { busy = true } in
        let is : with_front j.pages busy_now ≡ there = ap (λ (x : Answerer). record x { busy = true }) a.is in
        let step : answerer_step there given ≡ answered_with j.pages (answerer_step busy_now given) =
        ap (λ x. answerer_step x given) (sym is) ∙ known.front j.pages busy_now given in
        let runs_too : w.answerer.ending ≡ None = ap (λ (x : Answerer). x.ending) (sym a.is) ∙ runs in
        let set : run ((Busy true, Done) ∷ []) (record w { to_answerer = before }) ≡ record w { to_answerer = before; answerer = there } =
        ap (λ (x : AnswererAnswer). answerer_sends x.turn (record w { to_answerer = before }) x.next (answerer_items x.next x.turn))
        (told w.answerer true runs_too) in
        let busier : Joined =
        record j { answerer = record j.answerer { station = record j.answerer.station { station = busy_now } } } in
        let side : AnswererSide false busier (record w { answerer = there }) = record { is = is; out = a.out } in
        let side_too : CallerSide cg busier (record w { answerer = there }) = record { represents = c.represents; out = c.out } in
        after_known ((Busy true, Done) ∷ []) (answerer_spoke j station turn) (record w { to_answerer = before })
        (record w { to_answerer = before; answerer = there }) set
        (after_known comes.events (answerer_spoke j station turn) (record w { to_answerer = before; answerer = there })
        (answerer_acts (record w { answerer = there }) Done given) (comes.come there)
        (stays (acted known busier (record w { answerer = there }) cg station given turn side_too side
        (ap (with_front j.pages) steps.0 ∙ sym (ap (λ (x : AnswererAnswer). x.next) step))
        (steps.1 ∙ sym (ap (λ (x : AnswererAnswer). x.turn) step)))))

    by_kind : (answer : AnswererAnswer) → LimitedIs j.answerer.station.station input answer →
        Steps j.answerer.station.station station.station turn answer →
        Reaches (answerer_spoke j station turn) (record w { to_answerer = before })
    by_kind answer (out e) steps =
        after_known (comes true).skip (answerer_spoke j station turn) (record w { to_answerer = before }) w (comes true).skipped
        (stays (answerer_quiet cg false j w station turn c a (steps.0 ∙ ap (λ (x : AnswererAnswer). x.next) e)
        (steps.1 ∙ ap (λ (x : AnswererAnswer). x.turn) e)))
    by_kind answer (own full e) steps =
        after_own (busy_while full input) (comes full) (
          steps.0 ∙ ap (λ (x : AnswererAnswer). x.next) e,
          steps.1 ∙ ap (λ (x : AnswererAnswer). x.turn) e,
        )
    by_kind answer (busied e) steps =
        after_busied (busy_while false input) (comes false) (
          steps.0 ∙ ap (λ (x : AnswererAnswer). x.next) e,
          steps.1 ∙ ap (λ (x : AnswererAnswer). x.turn) e,
        )

-- an input to an answerer that has ended
given_ended : (j : Joined) (w : World) (cg gone : Bool) (station : LimitedFields) (input : AnswererInput) (turn : Turn) → CallerSide cg j w →
    AnswererSide gone j w → LimitedTo j.answerer.station input station turn → (why : End) → j.answerer.station.station.ending ≡ Some why →
    Follows (answerer_spoke j station turn) w
given_ended j w cg gone station input turn c a steps why has_ended =
    let same = limited_ended j.answerer.station.limits j.answerer.station.station why input has_ended in
    answerer_quiet cg gone j w station turn c a (steps.0 ∙ ap (λ (x : AnswererAnswer). x.next) same)
    (steps.1 ∙ ap (λ (x : AnswererAnswer). x.turn) same)

-- an input to an answerer
given : StationsKnown → (j : Joined) (before : List PlainItem) (w : World) (cg gone : Bool) (station : LimitedFields)
    (input : AnswererInput) (turn : Turn) → CallerSide cg j w → AnswererSide gone j w → ((full : Bool) → Comes (busy_while full input) before w) →
    LimitedTo j.answerer.station input station turn → Reaches (answerer_spoke j station turn) (record w { to_answerer = before })
given known j before w cg gone station input turn c a comes steps = at gone a j.answerer.station.station.ending refl
  where
    skipping : Follows (answerer_spoke j station turn) w → Reaches (answerer_spoke j station turn) (record w { to_answerer = before })
    skipping f =
        after_known (comes true).skip (answerer_spoke j station turn) (record w { to_answerer = before }) w (comes true).skipped (stays f)

    at : (g : Bool) → AnswererSide g j w → (ending : Option End) → j.answerer.station.station.ending ≡ ending →
        Reaches (answerer_spoke j station turn) (record w { to_answerer = before })
    at g side (Some why) has_ended = skipping (given_ended j w cg g station input turn c side steps why has_ended)
    at false side None runs = given_running known j before w cg station input turn c side comes steps runs
    at true side None runs =
        let no : Some (leaves w.answerer.accepted) ≡ None = ap (λ (x : Answerer). x.ending) (sym side.is) ∙ runs in cc

-- a step, or a cut call, or nothing that is taken
by_cut : (cut : Option Cut) (old : LimitedFields) (input : PlainInput) (new : LimitedFields) (turn : Turn) →
    LimitedStepsUnlessCut cut old input new turn →
    Steps old.station new.station turn (limited_answers old.limits old.station (answerer_takes input)) ⊎
    ((new ≡ old) × (turn ≡ Silent))
by_cut None old input new turn h = inl h.0
by_cut (Some why) old input new turn h = inr h

abbrev GivenOrCut : LimitedFields → Option AnswererInput → LimitedFields → Turn → Type 0
GivenOrCut old input new turn =
    Steps old.station new.station turn (limited_answers old.limits old.station input) ⊎ ((new ≡ old) × (turn ≡ Silent))

given_or_cut : StationsKnown → (j : Joined) (before : List PlainItem) (w : World) (cg gone : Bool) (station : LimitedFields)
    (input : AnswererInput) (turn : Turn) → CallerSide cg j w → AnswererSide gone j w → ((full : Bool) → Comes (busy_while full input) before w) →
    GivenOrCut j.answerer.station (Some input) station turn → Reaches (answerer_spoke j station turn) (record w { to_answerer = before })
given_or_cut known j before w cg gone station input turn c a comes (inl steps) =
    given known j before w cg gone station input turn c a comes steps
given_or_cut known j before w cg gone station input turn c a comes (inr h) =
    after_known (comes true).skip (answerer_spoke j station turn) (record w { to_answerer = before }) w (comes true).skipped
    (stays (answerer_quiet cg gone j w station turn c a (ap (λ (x : LimitedFields). x.station) h.0) h.1))

not_taken : (j : Joined) (w : World) (cg gone : Bool) (station : LimitedFields) (turn : Turn) → CallerSide cg j w → AnswererSide gone j w →
    GivenOrCut j.answerer.station None station turn → Follows (answerer_spoke j station turn) w
not_taken j w cg gone station turn c a (inl steps) = answerer_quiet cg gone j w station turn c a steps.0 steps.1
not_taken j w cg gone station turn c a (inr h) =
    answerer_quiet cg gone j w station turn c a (ap (λ (x : LimitedFields). x.station) h.0) h.1

-- both terminals after the answerer took an input
took : (input : PlainInput) (j new : Joined) (h : AnswererTakes input j new) → new ≡ answerer_spoke j h.takes.station h.takes.turn
took input j new h =
    h.is ∙ ap (λ (s : Speaking LimitedFields). answerer_begins (is_silent h.takes.turn) (record j { answerer = s })) h.takes.is

-- a wait that is over
waited : StationsKnown → (wait : Wait) (j : Joined) (w : World) (cg gone : Bool) (station : LimitedFields) (turn : Turn) → CallerSide cg j w →
    AnswererSide gone j w → GivenOrCut j.answerer.station (answerer_takes (over wait)) station turn → Reaches (answerer_spoke j station turn) w
waited known T1 j w cg gone station turn c a h =
    given_or_cut known j w.to_answerer w cg gone station t1 turn c a
    (λ full. record { events = (AnswererT1, Done) ∷ []; come = λ s. refl; skip = []; skipped = refl }) h
waited known T2 j w cg gone station turn c a h =
    given_or_cut known j w.to_answerer w cg gone station t2 turn c a
    (λ full. record { events = (AnswererT2, Done) ∷ []; come = λ s. refl; skip = []; skipped = refl }) h
waited known T4 j w cg gone station turn c a h = stays (not_taken j w cg gone station turn c a h)
waited known T5 j w cg gone station turn c a h = stays (not_taken j w cg gone station turn c a h)

pub answerer_waited : StationsKnown → (wait : Wait) (j new : Joined) (w : World) → Follows j w → AnswererTakes (over wait) j new → Reaches new w
answerer_waited known wait j new w f h =
    subst (λ (x : Joined). Reaches x w) (sym (took (over wait) j new h))
    (waited known wait j w f.caller_gone f.answerer_gone h.takes.station h.takes.turn f.caller f.answerer
    (by_cut j.answerer.station.cut j.answerer.station (over wait) h.takes.station h.takes.turn h.takes.steps_so))

-- the program says whether the answerer is busy
pub answerer_told : StationsKnown → (is : Bool) (j new : Joined) (w : World) → Follows j w → AnswererTakes (busy is) j new → Reaches new w
answerer_told known is j new w f h =
    subst (λ (x : Joined). Reaches x w) (sym (took (busy is) j new h))
    (given_or_cut known j w.to_answerer w f.caller_gone f.answerer_gone h.takes.station (is_busy is) h.takes.turn f.caller f.answerer
    (λ full. record { events = (Busy _, Done) ∷ []; come = λ s. refl; skip = []; skipped = refl })
    (by_cut j.answerer.station.cut j.answerer.station (busy is) h.takes.station h.takes.turn h.takes.steps_so))

after_item : (cg : Bool) (j : Joined) (w : World) (item : PlainItem) (others : List PlainItem) → j.to_answerer ≡ item ∷ others →
    CallerSide cg j w →
    IsWithin (item ∷ (others ++ caller_left j.caller_clear j.caller.taken j.caller.turn (caller_as cg w.caller))) w.to_answerer
after_item cg j w item others e c =
    subst (λ l. IsWithin (l ++ caller_left j.caller_clear j.caller.taken j.caller.turn (caller_as cg w.caller)) w.to_answerer) e c.out

-- a DCN comes
heard_dcn : (j : Joined) (w : World) (cg gone : Bool) (station : LimitedFields) (turn : Turn) → CallerSide cg j w → AnswererSide gone j w →
    GivenOrCut j.answerer.station (Some (listens dcn)) station turn → Follows (answerer_spoke j station turn) w
heard_dcn j w cg gone station turn c a (inr h) =
    answerer_quiet cg gone j w station turn c a (ap (λ (x : LimitedFields). x.station) h.0) h.1
heard_dcn j w cg gone station turn c a (inl steps) = at gone a j.answerer.station.station.ending refl
  where
    at : (g : Bool) → AnswererSide g j w → (ending : Option End) → j.answerer.station.station.ending ≡ ending →
        Follows (answerer_spoke j station turn) w
    at g side (Some why) has_ended = given_ended j w cg g station (listens dcn) turn c side steps why has_ended
    at true side None runs =
        let no : Some (leaves w.answerer.accepted) ≡ None = ap (λ (x : Answerer). x.ending) (sym side.is) ∙ runs in cc
    at false side None runs =
        let same = limited_leaves j.answerer.station.limits j.answerer.station.station runs in
        subst (λ t. Follows (answerer_spoke j station t) w) (sym (steps.1 ∙ ap (λ (x : AnswererAnswer). x.turn) same))
        (record {
          caller_gone = cg;
          answerer_gone = true;
          caller = record { represents = c.represents; out = c.out };
          answerer = record {
            is = ap (with_front j.pages) (steps.0 ∙ ap (λ (x : AnswererAnswer). x.next) same) ∙
                ap (λ (x : Answerer). record x { ending = Some (leaves x.accepted) }) side.is;
            out = side.out;
          };
        })

-- a signal that is no DCN comes
heard_other : StationsKnown → (signal : PlainSignal) (others : List PlainItem) (j : Joined) (w : World) (cg gone : Bool)
    (station : LimitedFields) (turn : Turn) → CallerSide cg j w → AnswererSide gone j w →
    IsWithin (framed signal ∷ (others ++ caller_left j.caller_clear j.caller.taken j.caller.turn (caller_as cg w.caller))) w.to_answerer →
    GivenOrCut j.answerer.station (Some (listens signal)) station turn → framed signal ≢ framed dcn →
    Reaches (answerer_spoke (record j { to_answerer = others }) station turn) w
heard_other known signal others j w cg gone station turn c a within h not =
    let r = reaches_answerer not within w refl in
    after_known r.steps (answerer_spoke (record j { to_answerer = others }) station turn) w
    (record w { to_answerer = framed signal ∷ r.more }) r.there
    (given_or_cut known (record j { to_answerer = others }) (framed signal ∷ r.more) (record w { to_answerer = r.more }) cg gone station
    (listens signal) turn (record { represents = c.represents; out = r.within }) (record { is = a.is; out = a.out })
    (λ full.
    record {
      events = (DeliverToAnswerer, Done) ∷ [];
      come = λ s. refl;
      skip = (LoseToAnswerer, Done) ∷ [];
      skipped = refl;
    }) h)

heard : StationsKnown → (signal : PlainSignal) (others : List PlainItem) (j : Joined) (w : World) (cg gone : Bool)
    (station : LimitedFields) (turn : Turn) → CallerSide cg j w → AnswererSide gone j w →
    IsWithin (framed signal ∷ (others ++ caller_left j.caller_clear j.caller.taken j.caller.turn (caller_as cg w.caller))) w.to_answerer →
    GivenOrCut j.answerer.station (Some (listens signal)) station turn →
    (framed signal ≡ framed dcn) ⊎ (framed signal ≢ framed dcn) →
    Reaches (answerer_spoke (record j { to_answerer = others }) station turn) w
heard known signal others j w cg gone station turn c a within h (inr not) =
    heard_other known signal others j w cg gone station turn c a within h not
heard known signal others j w cg gone station turn c a within h (inl is) =
    let leaving : signal ≡ dcn = cc in
    stays (heard_dcn (record j { to_answerer = others }) w cg gone station turn
    (record { represents = c.represents; out = without_first within }) (record { is = a.is; out = a.out })
    (subst (λ s. GivenOrCut j.answerer.station (Some (listens s)) station turn) leaving h))

-- checks that are both good or both bad are taken alike
checks_alike : (old : LimitedFields) (a b : List ℕ) (new : LimitedFields) (turn : Turn) →
    is_good_training a old.station.params ≡ is_good_training b old.station.params → GivenOrCut old (Some (trains a)) new turn →
    GivenOrCut old (Some (trains b)) new turn
checks_alike old a b new turn e (inl steps) =
    let same = limited_alike old.limits old.station a b e in
    inl (steps.0 ∙ ap (λ (x : AnswererAnswer). x.next) same, steps.1 ∙ ap (λ (x : AnswererAnswer). x.turn) same)
checks_alike old a b new turn e (inr h) = inr h

-- a training check comes
trained : StationsKnown → (sent octets : List ℕ) → Arrives sent octets → (others : List PlainItem) (j : Joined) (w : World) (cg gone : Bool)
    (station : LimitedFields) (turn : Turn) → CallerSide cg j w → AnswererSide gone j w →
    IsWithin (checked sent ∷ (others ++ caller_left j.caller_clear j.caller.taken j.caller.turn (caller_as cg w.caller))) w.to_answerer →
    GivenOrCut j.answerer.station (Some (trains octets)) station turn →
    Reaches (answerer_spoke (record j { to_answerer = others }) station turn) w
trained known sent octets arrives others j w cg gone station turn c a within h =
    let not : checked sent ≢ framed dcn = λ e. cc in
    let r = reaches_answerer not within w refl in
    after_known r.steps (answerer_spoke (record j { to_answerer = others }) station turn) w
    (record w { to_answerer = checked sent ∷ r.more }) r.there
    (at (is_good_training octets j.answerer.station.station.params) refl r.more (record { represents = c.represents; out = r.within }) (record { is = a.is; out = a.out }))
  where
    at : (good : Bool) → is_good_training octets j.answerer.station.station.params ≡ good → (more : List PlainItem) →
        CallerSide cg (record j { to_answerer = others }) (record w { to_answerer = more }) →
        AnswererSide gone (record j { to_answerer = others }) (record w { to_answerer = more }) →
        Reaches (answerer_spoke (record j { to_answerer = others }) station turn) (record w { to_answerer = checked sent ∷ more })
    at true e more c a =
        given_or_cut known (record j { to_answerer = others }) (checked sent ∷ more) (record w { to_answerer = more }) cg gone station
        (trains sent) turn c a
        (λ full.
        record {
          events = (DeliverToAnswerer, Done) ∷ [];
          come = λ s. refl;
          skip = (LoseToAnswerer, Done) ∷ [];
          skipped = refl;
        })
        (checks_alike j.answerer.station octets sent station turn
        (e ∙ sym (good_as_sent sent octets j.answerer.station.station.params arrives e)) h)
    at false e more c a =
        given_or_cut known (record j { to_answerer = others }) (checked sent ∷ more) (record w { to_answerer = more }) cg gone station
        (trains (spoilt sent)) turn c a
        (λ full.
        record {
          events = (Spoil, Done) ∷ (DeliverToAnswerer, Done) ∷ [];
          come = λ s. refl;
          skip = (LoseToAnswerer, Done) ∷ [];
          skipped = refl;
        })
        (checks_alike j.answerer.station octets (spoilt sent) station turn
        (e ∙ sym (spoilt_is_bad sent j.answerer.station.station.params)) h)

-- the first item on its way to the answerer comes
pub answerer_heard : StationsKnown → (j new : Joined) (w : World) → Follows j w → ComesToAnswerer j new → Reaches new w
answerer_heard known j new w f h = by_first j.to_answerer refl h.first
  where
    steps : GivenOrCut j.answerer.station (answerer_takes h.input) h.takes.takes.station h.takes.takes.turn
    steps = by_cut j.answerer.station.cut j.answerer.station h.input h.takes.takes.station h.takes.takes.turn h.takes.takes.steps_so

    is : new ≡ answerer_spoke (record j { to_answerer = h.others }) h.takes.takes.station h.takes.takes.turn
    is = took h.input (record j { to_answerer = h.others }) new h.takes

    by_first : (items : List PlainItem) → j.to_answerer ≡ items → FirstComes items h.input h.others → Reaches new w
    by_first [] e first = absurd first
    by_first (framed signal ∷ items) e first =
        let all : j.to_answerer ≡ framed signal ∷ h.others = e ∙ ap (λ l. framed signal ∷ l) (sym first.1) in
        subst (λ (x : Joined). Reaches x w) (sym is)
        (heard known signal h.others j w f.caller_gone f.answerer_gone h.takes.takes.station h.takes.takes.turn f.caller f.answerer
        (after_item f.caller_gone j w (framed signal) h.others all f.caller)
        (subst (λ input. GivenOrCut j.answerer.station (answerer_takes input) h.takes.takes.station h.takes.takes.turn) first.0 steps)
        (dcn_or_not (framed signal)))
    by_first (checked sent ∷ items) e first =
        let all : j.to_answerer ≡ checked sent ∷ h.others = e ∙ ap (λ l. checked sent ∷ l) (sym first.1) in
        subst (λ (x : Joined). Reaches x w) (sym is)
        (trained known sent first.0.0 first.0.1 h.others j w f.caller_gone f.answerer_gone h.takes.takes.station h.takes.takes.turn f.caller
        f.answerer (after_item f.caller_gone j w (checked sent) h.others all f.caller)
        (subst (λ input. GivenOrCut j.answerer.station (answerer_takes input) h.takes.takes.station h.takes.takes.turn) first.0.2 steps))

-- the answerer's next burst goes onto the line
pub answerer_sent : (j new : Joined) (w : World) → Follows j w → AnswererSends j new → Reaches new w
answerer_sent j new w f h =
    let s : Answerer = j.answerer.station.station in
    let caps : s.caps ≡ w.answerer.caps = ap (λ (x : Answerer). x.caps) f.answerer.is ∙ same f.answerer_gone in
    let now : IsWithin (j.to_caller ++ answerer_left j.answerer_clear j.answerer.taken j.answerer.turn s.caps) w.to_caller =
    subst (λ k. IsWithin (j.to_caller ++ answerer_left j.answerer_clear j.answerer.taken j.answerer.turn k) w.to_caller) (sym caps)
    f.answerer.out in
    let later : IsWithin (new_line ++ answerer_left j.answerer_clear (j.answerer.taken + 1) j.answerer.turn s.caps) w.to_caller =
    subst (λ l. IsWithin l w.to_caller)
    (sym (reply_taken s j.answerer.turn j.answerer.taken h.bursts h.burst h.later h.lent h.next j.answerer_clear j.to_caller)) now in
    subst (λ (x : Joined). Reaches x w) (sym h.is)
    (stays (record {
      caller_gone = f.caller_gone;
      answerer_gone = f.answerer_gone;
      caller = record { represents = f.caller.represents; out = f.caller.out };
      answerer = record {
        is = f.answerer.is;
        out = subst (λ k. IsWithin (new_line ++ answerer_left j.answerer_clear (j.answerer.taken + 1) j.answerer.turn k) w.to_caller) caps later;
      };
    }))
  where
    new_line : List PlainItem
    new_line = j.to_caller ++ cond j.answerer_clear h.burst.items []

    same : (gone : Bool) → (answerer_as gone w.answerer).caps ≡ w.answerer.caps
    same true = refl
    same false = refl

-- DCN takes the place of the answerer's turn
pub answerer_says_dcn : (j : Joined) (w : World) (station : LimitedFields) → Follows j w →
    station.station ≡ j.answerer.station.station →
    Follows
    (record j { answerer = record { station = station; turn = Dcn; taken = 0 }; to_answerer = []; answerer_clear = true; caller_clear = false })
    w
answerer_says_dcn j w station f same =
    record {
      caller_gone = f.caller_gone;
      answerer_gone = f.answerer_gone;
      caller = record { represents = f.caller.represents; out = no_more };
      answerer = record {
        is = ap (with_front j.pages) same ∙ f.answerer.is;
        out = dcn_within j.to_caller w.to_caller
            (front_within j.to_caller (answerer_left j.answerer_clear j.answerer.taken j.answerer.turn w.answerer.caps) w.to_caller
            f.answerer.out);
      };
    }

-- the program stops the answerer's call
pub answerer_stopped : (j : Joined) (w : World) → Follows j w →
    Follows (answerer_spoke j (limited_cut_off Stop j.answerer.station) (limited_stop_says j.answerer.station)) w
answerer_stopped j w f = at j.answerer.station.station.ending j.answerer.station.cut
  where
    at : (ending : Option End) (before : Option Cut) →
        Follows (answerer_spoke j (limited_cut_off Stop j.answerer.station) (stop_turn ending before)) w
    at (Some why) before =
        answerer_quiet f.caller_gone f.answerer_gone j w (limited_cut_off Stop j.answerer.station) Silent f.caller f.answerer refl refl
    at None (Some before) =
        answerer_quiet f.caller_gone f.answerer_gone j w (limited_cut_off Stop j.answerer.station) Silent f.caller f.answerer refl refl
    at None None = answerer_says_dcn j w (limited_cut_off Stop j.answerer.station) f refl

nothing_left : (clear : Bool) (caps : _) → answerer_left clear 0 Silent caps ≡ []
nothing_left true caps = refl
nothing_left false caps = refl

-- the answerer's line is gone
pub answerer_silenced : (j : Joined) (w : World) → Follows j w →
    Follows (record j { answerer = record { station = limited_cut_off Loss j.answerer.station; turn = Silent; taken = 0 } }) w
answerer_silenced j w f =
    record {
      caller_gone = f.caller_gone;
      answerer_gone = f.answerer_gone;
      caller = record { represents = f.caller.represents; out = f.caller.out };
      answerer = record {
        is = f.answerer.is;
        out = less_within j.to_caller (answerer_left j.answerer_clear j.answerer.taken j.answerer.turn w.answerer.caps)
            (answerer_left j.answerer_clear 0 Silent w.answerer.caps) w.to_caller (inr (nothing_left j.answerer_clear w.answerer.caps))
            f.answerer.out;
      };
    }

-- the pages of the answerer are taken out
pub pages_taken : (j : Joined) (w : World) → Follows j w →
    Reaches (record j { answerer = with_pages_taken j.answerer; pages = j.pages ++ j.answerer.station.station.pages }) w
pages_taken j w f = at f.answerer_gone f.answerer j.answerer.station.station.ending refl
  where
    s : Answerer
    s = j.answerer.station.station

    freed_to : (ending : Option End) → Joined
    freed_to ending =
        record j {
          answerer = record j.answerer {
            station = record j.answerer.station { station = freed ending j.answerer.station.told j.answerer.station.station };
          };
          pages = j.pages ++ j.answerer.station.station.pages;
        }

    emptied : with_front (j.pages ++ j.answerer.station.station.pages) (record j.answerer.station.station { pages = [] }) ≡
        with_front j.pages j.answerer.station.station
    emptied = ap (λ (l : List PagePixels). record j.answerer.station.station { pages = l })
        (append-nil (j.pages ++ j.answerer.station.station.pages))

    by_end : (g : Bool) → AnswererSide g j w → (ending : Option End) → j.answerer.station.station.ending ≡ ending → Reaches (freed_to ending) w
    by_end g a (Some why) has_ended =
        stays (record {
          caller_gone = f.caller_gone;
          answerer_gone = g;
          caller = record { represents = f.caller.represents; out = f.caller.out };
          answerer = record { is = emptied ∙ a.is; out = a.out };
        })
    by_end true a None runs =
        let no : Some (leaves w.answerer.accepted) ≡ None = ap (λ (x : Answerer). x.ending) (sym a.is) ∙ runs in cc
    by_end false a None runs =
        let set : Bool = j.answerer.station.told in
        let there : Answerer = record w.answerer { busy = set } in
        let runs_too : w.answerer.ending ≡ None = ap (λ (x : Answerer). x.ending) (sym a.is) ∙ runs in
        let leads : run ((Busy set, Done) ∷ []) w ≡ record w { answerer = there } =
        ap (λ (x : AnswererAnswer). answerer_sends x.turn w x.next (answerer_items x.next x.turn)) (told w.answerer set runs_too) in
        after_known ((Busy set, Done) ∷ []) (freed_to None) w (record w { answerer = there }) leads
        (stays (record {
          caller_gone = f.caller_gone;
          answerer_gone = false;
          caller = record { represents = f.caller.represents; out = f.caller.out };
          answerer = record { is = ap (λ (x : Answerer). record x { busy = set }) (emptied ∙ a.is); out = a.out };
        }))

    at : (g : Bool) → AnswererSide g j w → (ending : Option End) → j.answerer.station.station.ending ≡ ending →
        Reaches (record j { answerer = with_pages_taken j.answerer; pages = j.pages ++ j.answerer.station.station.pages }) w
    at g a ending e = subst (λ x. Reaches (freed_to x) w) (sym e) (by_end g a ending e)
