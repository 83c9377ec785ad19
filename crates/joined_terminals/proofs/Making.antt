-- What a call of a terminal makes of two joined terminals.
use Rattle.std.proofs.Common.{◌≡◌, ◌++◌, Bool, true, false, List, ℕ, Option, Some, None, Result, Ok, Err, OnOk, IfOk, refl, ap, sym}
use Rattle.std.proofs.Common.{subst, ◌∙◌}
use Rattle.std.specs.declared.alloc.AllocError.{AllocError}
use Rattle.hdlc.specs.DeframerState.{DeframerState}
use Rattle.raster.specs.Pages.{PagePixels}
use Rattle.signals.specs.declared.signal.Side.TheVariants.{Caller as CallerSide, Answerer as AnswererSide}
use Rattle.stations.specs.Limiting.{LimitedFields}
use Rattle.stations.specs.Stopping.{StoppableCallerFields}
use Rattle.stations.specs.declared.waiting.Wait.{Wait}
use Rattle.terminals.specs.Hearing.{HasHeard, PlainInput, check, over, busy}
use Rattle.terminals.specs.Runs.{Hears, TerminalFields}
use Rattle.terminals.specs.Saying.{limited_lends, stoppable_lends}
use Rattle.terminals.specs.Sending.{Sends}
use Rattle.terminals.specs.Speaking.{Speaking, Takes, is_silent}
use Rattle.terminals.specs.Stations.{AnswererLends, CallerLends}
use Rattle.terminals.specs.Stopping.{caller_cut_off, caller_stop_says, hung_up, limited_cut_off, limited_stop_says, silenced, stopped}
use Rattle.terminals.specs.Stopping.{with_pages_taken}
use Rattle.terminals.specs.declared.fault.HearFault.{HearFault}
use Rattle.terminals.specs.declared.sending.SentBurst.{SentBurst}
use Rattle.joined_terminals.specs.Calls.{AnswererGives, CallerGives, CheckComes, HappensToAnswerer, HappensToCaller, HappensToHearingAnswerer}
use Rattle.joined_terminals.specs.Calls.{HappensToHearingCaller, TakesOut}
use Rattle.joined_terminals.specs.Happening.{FirstComes}
use Rattle.joined_terminals.specs.Happening.Happening.{answerer_hangs_up, answerer_lost, answerer_sends, answerer_stops, answerer_waits}
use Rattle.joined_terminals.specs.Happening.Happening.{caller_hangs_up, caller_lost, caller_sends, caller_stops, caller_waits, program_says}
use Rattle.joined_terminals.specs.Joining.{AnswererMakes, AnswererTakes, CallerMakes, CallerTakes, Joined, answerer_begins, caller_begins}
use Rattle.joined_terminals.specs.Octets.{HearingTakes, SendingSends}

pub on_ok : {T E P Q : Type 0} (result : Result T E) → (P → Q) → OnOk result P → OnOk result Q
on_ok (Ok value) f h = f h
on_ok (Err refused) f h = h

callers : (silent : Bool) (j : Joined) → (caller_begins silent j).caller ≡ j.caller
callers true j = refl
callers false j = refl

answerers : (silent : Bool) (j : Joined) → (answerer_begins silent j).answerer ≡ j.answerer
answerers true j = refl
answerers false j = refl

caller_given : (input : PlainInput) (before after : Speaking StoppableCallerFields) → Takes StoppableCallerFields CallerMakes before input after →
    (old : Joined) → old.caller ≡ before → (new : Joined) × CallerTakes input old new × (new.caller ≡ after)
caller_given input before after takes old e =
    let t : Takes StoppableCallerFields CallerMakes old.caller input after =
    subst (λ (s : Speaking StoppableCallerFields). Takes StoppableCallerFields CallerMakes s input after) (sym e) takes in (
      caller_begins (is_silent t.turn) (record old { caller = after }),
      record { caller = after; takes = t; is = refl },
      callers (is_silent t.turn) (record old { caller = after }),
    )

answerer_given : (input : PlainInput) (before after : Speaking LimitedFields) → Takes LimitedFields AnswererMakes before input after →
    (old : Joined) → old.answerer ≡ before → (new : Joined) × AnswererTakes input old new × (new.answerer ≡ after)
answerer_given input before after takes old e =
    let t : Takes LimitedFields AnswererMakes old.answerer input after =
    subst (λ (s : Speaking LimitedFields). Takes LimitedFields AnswererMakes s input after) (sym e) takes in (
      answerer_begins (is_silent t.turn) (record old { answerer = after }),
      record { answerer = after; takes = t; is = refl },
      answerers (is_silent t.turn) (record old { answerer = after }),
    )

pub waits_caller : (wait : Wait) (before after : Speaking StoppableCallerFields) →
    Takes StoppableCallerFields CallerMakes before (over wait) after → HappensToCaller (caller_waits wait) before after
waits_caller wait before after takes = caller_given (over wait) before after takes

pub waits_answerer : (wait : Wait) (before after : Speaking LimitedFields) → Takes LimitedFields AnswererMakes before (over wait) after →
    HappensToAnswerer (answerer_waits wait) before after
waits_answerer wait before after takes = answerer_given (over wait) before after takes

pub tells_answerer : (is : Bool) (before after : Speaking LimitedFields) → Takes LimitedFields AnswererMakes before (busy is) after →
    HappensToAnswerer (program_says is) before after
tells_answerer is before after takes = answerer_given (busy is) before after takes

pub check_comes : (octets : List ℕ) (before after : Speaking LimitedFields) → Takes LimitedFields AnswererMakes before (check octets) after →
    CheckComes octets before after
check_comes octets before after takes old sent others e first arrives =
    let given = answerer_given (check octets) before after takes (record old { to_answerer = others }) e in (
      given.0,
      record {
        input = check octets;
        others = others;
        first = subst (λ items. FirstComes items (check octets) others) (sym first) ((octets, arrives, refl), refl);
        takes = given.1;
      },
      given.2,
    )

pub sends_caller : SendingSends → (before after : Speaking StoppableCallerFields) (sent : SentBurst) →
    Sends {E = AllocError} CallerSide (λ v turn bursts. CallerLends v.station turn bursts) before after (Ok (Some sent)) →
    HappensToCaller caller_sends before after
sends_caller law before after sent sends old e =
    let made = law.caller old after sent
    (subst
    (λ (s : Speaking StoppableCallerFields).
    Sends {E = AllocError} CallerSide (λ v turn bursts. CallerLends v.station turn bursts) s after (Ok (Some sent))) (sym e) sends) in
    (made.0, made.1, made.2)

pub sends_answerer : SendingSends → (before after : Speaking LimitedFields) (sent : SentBurst) →
    Sends {E = AllocError} AnswererSide (λ v turn bursts. AnswererLends v.station turn bursts) before after (Ok (Some sent)) →
    HappensToAnswerer answerer_sends before after
sends_answerer law before after sent sends old e =
    let made = law.answerer old after sent
    (subst
    (λ (s : Speaking LimitedFields).
    Sends {E = AllocError} AnswererSide (λ v turn bursts. AnswererLends v.station turn bursts) s after (Ok (Some sent))) (sym e) sends) in
    (made.0, made.1, made.2)

pub gives_caller : SendingSends → (before after : Speaking StoppableCallerFields) (result : Result (Option SentBurst) AllocError) →
    Sends CallerSide (λ v turn bursts. CallerLends v.station turn bursts) before after result →
    IfOk result (λ sent. CallerGives before after sent)
gives_caller law before after (Ok None) h = h.2.1
gives_caller law before after (Ok (Some sent)) h = sends_caller law before after sent h
gives_caller law before after (Err refused) h = tt

pub gives_answerer : SendingSends → (before after : Speaking LimitedFields) (result : Result (Option SentBurst) AllocError) →
    Sends AnswererSide (λ v turn bursts. AnswererLends v.station turn bursts) before after result →
    IfOk result (λ sent. AnswererGives before after sent)
gives_answerer law before after (Ok None) h = h.2.1
gives_answerer law before after (Ok (Some sent)) h = sends_answerer law before after sent h
gives_answerer law before after (Err refused) h = tt

pub takes_out : (before after : Speaking LimitedFields) (taken : List PagePixels) → taken ≡ before.station.station.pages →
    after ≡ with_pages_taken before → TakesOut before after taken
takes_out before after taken pages is old e = (
  record old { answerer = with_pages_taken old.answerer; pages = old.pages ++ old.answerer.station.station.pages },
  refl,
  ap with_pages_taken e ∙ sym is,
  ap (λ l. old.pages ++ l) (ap (λ (s : Speaking LimitedFields). s.station.station.pages) e ∙ sym pages),
)

pub stops_caller : (before after : Speaking StoppableCallerFields) → after ≡ stopped caller_cut_off caller_stop_says before →
    HappensToCaller caller_stops before after
stops_caller before after is old e = (
  caller_begins (is_silent (caller_stop_says old.caller.station)) (record old { caller = stopped caller_cut_off caller_stop_says old.caller }),
  refl,
  callers (is_silent (caller_stop_says old.caller.station)) (record old { caller = stopped caller_cut_off caller_stop_says old.caller }) ∙
      (ap (stopped caller_cut_off caller_stop_says) e ∙ sym is),
)

pub stops_answerer : (before after : Speaking LimitedFields) → after ≡ stopped limited_cut_off limited_stop_says before →
    HappensToAnswerer answerer_stops before after
stops_answerer before after is old e = (
  answerer_begins (is_silent (limited_stop_says old.answerer.station))
      (record old { answerer = stopped limited_cut_off limited_stop_says old.answerer }),
  refl,
  answerers (is_silent (limited_stop_says old.answerer.station))
      (record old { answerer = stopped limited_cut_off limited_stop_says old.answerer }) ∙
      (ap (stopped limited_cut_off limited_stop_says) e ∙ sym is),
)

pub hangs_up_caller : (before after : Speaking StoppableCallerFields) → after ≡ hung_up caller_cut_off before →
    HappensToCaller caller_hangs_up before after
hangs_up_caller before after is old e =
    (caller_begins false (record old { caller = hung_up caller_cut_off old.caller }), refl, ap (hung_up caller_cut_off) e ∙ sym is)

pub hangs_up_answerer : (before after : Speaking LimitedFields) → after ≡ hung_up limited_cut_off before →
    HappensToAnswerer answerer_hangs_up before after
hangs_up_answerer before after is old e =
    (answerer_begins false (record old { answerer = hung_up limited_cut_off old.answerer }), refl, ap (hung_up limited_cut_off) e ∙ sym is)

pub loses_caller : (before after : Speaking StoppableCallerFields) → after ≡ silenced caller_cut_off before →
    HappensToCaller caller_lost before after
loses_caller before after is old e =
    (record old { caller = silenced caller_cut_off old.caller }, refl, ap (silenced caller_cut_off) e ∙ sym is)

pub loses_answerer : (before after : Speaking LimitedFields) → after ≡ silenced limited_cut_off before →
    HappensToAnswerer answerer_lost before after
loses_answerer before after is old e =
    (record old { answerer = silenced limited_cut_off old.answerer }, refl, ap (silenced limited_cut_off) e ∙ sym is)

pub hearing_caller : HearingTakes → (before : TerminalFields StoppableCallerFields) (octets : List ℕ)
    (after : TerminalFields StoppableCallerFields) (result : Result (Unit {0}) HearFault) → Hears CallerMakes stoppable_lends before octets after result →
    HappensToHearingCaller before octets after result
hearing_caller law before octets after result hears old earlier others caller framing heard comes one =
    let fields : TerminalFields StoppableCallerFields = record { framing = old.caller_framing; speaking = old.joined.caller } in
    let is : before ≡ fields =
    ap (λ (f : DeframerState). record { framing = f; speaking = before.speaking }) (sym framing) ∙
    ap (λ (s : Speaking StoppableCallerFields). record { framing = old.caller_framing; speaking = s }) (sym caller) in
    let now : Hears CallerMakes stoppable_lends fields octets after result = subst (λ (b : TerminalFields StoppableCallerFields). Hears CallerMakes stoppable_lends b octets after result) is hears in
    let heard_now : HasHeard old.caller_framing earlier = subst (λ f. HasHeard f earlier) (sym framing) heard in
    let taken = law.caller fields after octets earlier result now heard_now in (
      record old {
        joined = caller_begins taken.0 (record old.joined { caller = after.speaking; to_caller = others });
        caller_framing = after.framing;
      },
      record {
        octets = octets;
        before = earlier;
        heard_before = heard_now;
        caller = after;
        result = result;
        hears = now;
        others = others;
        comes = comes;
        one = one;
        silent = taken.0;
        taken = taken.1;
        is = refl;
      },
      callers taken.0 (record old.joined { caller = after.speaking; to_caller = others }),
      refl,
    )

pub hearing_answerer : HearingTakes → (before : TerminalFields LimitedFields) (octets : List ℕ) (after : TerminalFields LimitedFields)
    (result : Result (Unit {0}) HearFault) → Hears AnswererMakes limited_lends before octets after result →
    HappensToHearingAnswerer before octets after result
hearing_answerer law before octets after result hears old earlier others answerer framing heard comes =
    let fields : TerminalFields LimitedFields = record { framing = old.answerer_framing; speaking = old.joined.answerer } in
    let is : before ≡ fields =
    ap (λ (f : DeframerState). record { framing = f; speaking = before.speaking }) (sym framing) ∙
    ap (λ (s : Speaking LimitedFields). record { framing = old.answerer_framing; speaking = s }) (sym answerer) in
    let now : Hears AnswererMakes limited_lends fields octets after result = subst (λ (b : TerminalFields LimitedFields). Hears AnswererMakes limited_lends b octets after result) is hears in
    let heard_now : HasHeard old.answerer_framing earlier = subst (λ f. HasHeard f earlier) (sym framing) heard in
    let taken = law.answerer fields after octets earlier result now heard_now in (
      record old {
        joined = answerer_begins taken.0 (record old.joined { answerer = after.speaking; to_answerer = others });
        answerer_framing = after.framing;
      },
      record {
        octets = octets;
        before = earlier;
        heard_before = heard_now;
        answerer = after;
        result = result;
        hears = now;
        others = others;
        comes = comes;
        silent = taken.0;
        taken = taken.1;
        is = refl;
      },
      answerers taken.0 (record old.joined { answerer = after.speaking; to_answerer = others }),
      refl,
    )
