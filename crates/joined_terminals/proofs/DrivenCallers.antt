-- What happens to the caller's conversation happens to its terminal.
use Rattle.std.proofs.Common.{◌≡◌, ◌++◌, ◌+◌, List, Bool, true, false, Option, Some, None, Ok, Err, inl, inr, ◌⊎◌, refl, ap, sym, subst, ◌∙◌}
use Rattle.std.specs.Prelude.{◌&&◌}
use Rattle.conversations.specs.Conversations.{ConversationFields, Gives, LosesFrames, PlainGiven, SendsIfBegun, gives, silenced_so, stopped_for}
use Rattle.conversations.specs.Conversations.{stopped_so}
use Rattle.conversations.specs.Conversations.{nothing, stopping, losing, frames, input}
use Rattle.conversations.specs.Led.{caller_behaviour}
use Rattle.conversations.specs.Refusing.{stop_in}
use Rattle.conversations.specs.declared.line.TimedLine.{TimedLine}
use Rattle.hdlc.specs.DeframerState.{DeframerState}
use Rattle.signals.specs.declared.signal.Side.{Side}
use Rattle.signals.specs.declared.signal.Side.TheVariants.{Caller as CallerSide}
use Rattle.stations.specs.CallerFields.{Represents}
use Rattle.stations.specs.Inputs.{PlainItem}
use Rattle.stations.specs.Stopping.{StoppableCallerFields}
use Rattle.stations.specs.Waits.{caller_wait, unless_over}
use Rattle.stations.specs.declared.stopping.Cut.{Cut}
use Rattle.stations.specs.declared.turn.Turn.{Turn}
use Rattle.stations.specs.declared.waiting.Wait.{Wait}
use Rattle.stations.specs.declared.waiting.Wait.TheVariants.{T1, T2, T4, T5}
use Rattle.terminals.specs.Hearing.{PlainInput, said, check, over, busy}
use Rattle.terminals.specs.Runs.{TerminalFields}
use Rattle.terminals.specs.Speaking.{BurstsOf, Speaking, Takes, is_silent}
use Rattle.terminals.specs.Stations.{CallerLends, caller_takes, caller_answers}
use Rattle.terminals.specs.Stopping.{CallerStepsUnlessCut, caller_cut_off, caller_stop_says, silenced, stopped}
use Rattle.terminals.specs.declared.fault.HearFault.TheVariants.{FrameLost}
use Rattle.terminals.specs.declared.sending.SentBurst.{SentBurst}
use Rattle.conversations.specs.declared.refusing.StopCause.{StopCause}
use Rattle.conversations.specs.declared.refusing.StopCause.TheVariants.{Refused, TooLong, NeverQuiet}
use Rattle.joined_terminals.specs.Happening.Happening.{comes_to_caller, caller_lost, caller_stops, caller_waits, lines_lose}
use Rattle.joined_terminals.specs.Happening.Happening.{caller_sends}
use Rattle.joined_terminals.specs.Joining.{CallerMakes, caller_begins, if_clear}
use Rattle.joined_terminals.specs.Octets.{Terminals}
use Rattle.joined_terminals.specs.Octets.LineHappening.{caller_hears, other}
use Rattle.joined_terminals.specs.Driven.{Driven, caller_speaks, joined, terminals}
use Rattle.joined_terminals.specs.Steps.{CallerGives, CallerIsGiven, CallerRefusesLine, CallerTakesLine, Comes, IsOneAtMost, TurnsSo}
use Rattle.joined_terminals.specs.Steps.{silent_unless}
use Rattle.joined_terminals.proofs.DrivenWays.{Way, all_left, both, by, some_left, stays}

-- both terminals after the caller's is this, with these items left, by whether its turns are silence
abbrev pub after_caller : Driven → DeframerState → Speaking StoppableCallerFields → List PlainItem → Bool → Terminals
after_caller d framing speaking others silent =
    record (terminals d) {
      joined = caller_begins silent (record (joined d) { caller = speaking; to_caller = others });
      caller_framing = framing;
    }

spoke : (silent : Bool) (d : Driven) (caller : ConversationFields StoppableCallerFields) (others : List PlainItem) →
    terminals (caller_speaks silent (record d { caller = caller; to_caller = others })) ≡
    after_caller d caller.terminal.framing caller.terminal.speaking others silent
spoke true d caller others = refl
spoke false d caller others = refl

-- a caller ignores whether the program is busy, as it ignores the end of T2
ignored : (wait : Option Wait) (is : Bool) → caller_takes wait (busy is) ≡ caller_takes wait (over T2)
ignored None is = refl
ignored (Some T1) is = refl
ignored (Some T2) is = refl
ignored (Some T4) is = refl
ignored (Some T5) is = refl

busy_steps : (cut : Option Cut) (old : StoppableCallerFields) (is : Bool) (new : StoppableCallerFields) (turn : Turn) →
    CallerStepsUnlessCut cut old (busy is) new turn → CallerStepsUnlessCut cut old (over T2) new turn
busy_steps None old is new turn h = (
  λ t r. subst (λ taken. Represents new.station (caller_answers t taken).next × (turn ≡ (caller_answers t taken).turn))
      (ignored (unless_over t.ending (Some (caller_wait t.state))) is) (h.0 t r),
  h.1,
)
busy_steps (Some why) old is new turn h = h

-- what is given of a turn is counted
pub record IsNext {S : Type 0} (old new : ConversationFields S) : Type 0 where
  pub framing : new.terminal.framing ≡ old.terminal.framing
  pub speaking : new.terminal.speaking ≡ record old.terminal.speaking { taken = old.terminal.speaking.taken + 1 }
  pub begun : new.begun ≡ old.begun

pub given_next : {S : Type 0} (side : Side) (lends : BurstsOf S) (old new : ConversationFields S) (sent : SentBurst) (begun : Bool) →
    SendsIfBegun {E = Unit {0}} side lends begun old new (Ok (Some sent)) → IsNext old new
given_next side lends old new sent false h = absurd (cc)
given_next {S} side lends old new sent true h =
    record { framing = h.1; speaking = h.0.2.4; begun = ap (λ (c : ConversationFields S). c.begun) h.2 }

-- what a caller's terminal was given leads there
module _ (d : Driven) where
  same : (framing : DeframerState) (one two : Speaking StoppableCallerFields) (xs ys : List PlainItem) (s t : Bool) →
      framing ≡ d.caller.terminal.framing → one ≡ two → xs ≡ ys → s ≡ t →
      after_caller d framing one xs s ≡ after_caller d d.caller.terminal.framing two ys t
  same framing one two xs ys s t e f g h =
      ap (λ x. after_caller d x one xs s) e ∙
      (ap (λ x. after_caller d d.caller.terminal.framing x xs s) f ∙
      (ap (λ x. after_caller d d.caller.terminal.framing two x s) g ∙ ap (λ x. after_caller d d.caller.terminal.framing two ys x) h))

  framed_so : (framing : DeframerState) (speaking : Speaking StoppableCallerFields) (others : List PlainItem) (silent : Bool) →
      framing ≡ d.caller.terminal.framing →
      Way (terminals d) (after_caller d d.caller.terminal.framing speaking others silent) →
      Way (terminals d) (after_caller d framing speaking others silent)
  framed_so framing speaking others silent e way =
      subst (λ f. Way (terminals d) (after_caller d f speaking others silent)) (sym e) way

  takes_input : (new : TerminalFields StoppableCallerFields) (x : PlainInput) (others : List PlainItem) (silent : Bool) →
      Comes IsOneAtMost d.caller.terminal.framing d.to_caller (input x) others →
      (takes : Takes StoppableCallerFields CallerMakes d.caller.terminal.speaking x new.speaking) → silent ≡ is_silent takes.turn →
      Way (terminals d) (after_caller d d.caller.terminal.framing new.speaking others silent)
  takes_input new (said signal) others silent comes takes e =
      by (other comes_to_caller) (terminals d) (after_caller d d.caller.terminal.framing new.speaking others silent) (
        record {
          input = said signal;
          others = others;
          first = comes;
          takes = record {
            caller = new.speaking;
            takes = takes;
            is = ap (λ s. caller_begins s (record (joined d) { caller = new.speaking; to_caller = others })) e;
          };
        },
        refl,
        refl,
      )
  takes_input new (check octets) others silent comes takes e =
      by (other comes_to_caller) (terminals d) (after_caller d d.caller.terminal.framing new.speaking others silent) (
        record {
          input = check octets;
          others = others;
          first = comes;
          takes = record {
            caller = new.speaking;
            takes = takes;
            is = ap (λ s. caller_begins s (record (joined d) { caller = new.speaking; to_caller = others })) e;
          };
        },
        refl,
        refl,
      )
  takes_input new (over wait) others silent comes takes e =
      by (other (caller_waits wait)) (terminals d) (after_caller d d.caller.terminal.framing new.speaking others silent) (
        record {
          caller = new.speaking;
          takes = takes;
          is = ap (λ (t : Terminals). t.joined)
              (same d.caller.terminal.framing new.speaking new.speaking others d.to_caller silent (is_silent takes.turn) refl refl comes e);
        },
        refl,
        refl,
      )
  takes_input new (busy is) others silent comes takes e =
      by (other (caller_waits T2)) (terminals d) (after_caller d d.caller.terminal.framing new.speaking others silent) (
        record {
          caller = new.speaking;
          takes = record {
            station = takes.station;
            turn = takes.turn;
            steps_so = busy_steps d.caller.terminal.speaking.station.cut d.caller.terminal.speaking.station is takes.station takes.turn takes.steps_so;
            is = takes.is;
          };
          is = ap (λ (t : Terminals). t.joined)
              (same d.caller.terminal.framing new.speaking new.speaking others d.to_caller silent (is_silent takes.turn) refl refl comes e);
        },
        refl,
        refl,
      )

  given_so : (new : TerminalFields StoppableCallerFields) (given : PlainGiven) (brought : Bool) (others : List PlainItem) (silent : Bool) →
      Gives caller_behaviour d.caller.terminal given new brought →
      (comes : Comes IsOneAtMost d.caller.terminal.framing d.to_caller given others) →
      TurnsSo caller_behaviour IsOneAtMost d.caller.terminal d.to_caller others given comes new silent →
      Way (terminals d) (after_caller d new.framing new.speaking others silent)
  given_so new nothing brought others silent gives comes turns =
      stays (terminals d) (after_caller d new.framing new.speaking others silent)
      (same new.framing new.speaking d.caller.terminal.speaking others d.to_caller silent true
      (ap (λ (t : TerminalFields StoppableCallerFields). t.framing) gives.0)
      (ap (λ (t : TerminalFields StoppableCallerFields). t.speaking) gives.0) comes turns)
  given_so new stopping brought others silent gives comes turns =
      framed_so new.framing new.speaking others silent gives.0
      (by (other caller_stops) (terminals d) (after_caller d d.caller.terminal.framing new.speaking others silent) (
        ap (λ (t : Terminals). t.joined)
            (same d.caller.terminal.framing new.speaking (stopped caller_cut_off caller_stop_says d.caller.terminal.speaking) others d.to_caller silent
            (is_silent (caller_stop_says d.caller.terminal.speaking.station)) refl gives.1 comes turns),
        refl,
        refl,
      ))
  given_so new losing brought others silent gives comes turns =
      framed_so new.framing new.speaking others silent gives.0
      (by (other caller_lost) (terminals d) (after_caller d d.caller.terminal.framing new.speaking others silent) (
        ap (λ (t : Terminals). t.joined)
            (same d.caller.terminal.framing new.speaking (silenced caller_cut_off d.caller.terminal.speaking) others d.to_caller silent true refl
            gives.1 comes turns),
        refl,
        refl,
      ))
  given_so new (frames octets) brought others silent gives comes turns =
      by caller_hears (terminals d) (after_caller d new.framing new.speaking others silent)
      (record {
        octets = octets;
        before = comes.0;
        heard_before = comes.1;
        caller = new;
        result = Ok tt;
        hears = gives.0;
        others = others;
        comes = comes.2;
        one = comes.3;
        silent = silent;
        taken = turns;
        is = refl;
      })
  given_so new (input x) brought others silent gives comes turns =
      framed_so new.framing new.speaking others silent gives.0 (takes_input new x others silent comes turns.0 turns.1)

  lost_so : (new : TerminalFields StoppableCallerFields) (given : PlainGiven) (others : List PlainItem) (silent : Bool) →
      LosesFrames caller_behaviour d.caller.terminal given new →
      (comes : Comes IsOneAtMost d.caller.terminal.framing d.to_caller given others) →
      TurnsSo caller_behaviour IsOneAtMost d.caller.terminal d.to_caller others given comes new silent →
      Way (terminals d) (after_caller d new.framing new.speaking others silent)
  lost_so new (frames octets) others silent loses comes turns =
      by caller_hears (terminals d) (after_caller d new.framing new.speaking others silent)
      (record {
        octets = octets;
        before = comes.0;
        heard_before = comes.1;
        caller = new;
        result = Err FrameLost;
        hears = loses;
        others = others;
        comes = comes.2;
        one = comes.3;
        silent = silent;
        taken = turns;
        is = refl;
      })
  lost_so new nothing others silent loses comes turns = absurd loses
  lost_so new stopping others silent loses comes turns = absurd loses
  lost_so new losing others silent loses comes turns = absurd loses
  lost_so new (input x) others silent loses comes turns = absurd loses

  pub is_given : (new : Driven) (given : PlainGiven) (brought : Bool) (caller : ConversationFields StoppableCallerFields) →
      Gives caller_behaviour d.caller.terminal given caller.terminal brought → CallerIsGiven given d caller new → Way (terminals d) (terminals new)
  is_given new given brought caller gives h =
      subst (λ (x : Driven). Way (terminals d) (terminals x)) (sym h.is)
      (subst (λ t. Way (terminals d) t) (sym (spoke h.silent d caller h.others))
      (given_so caller.terminal given brought h.others h.silent gives h.comes h.turns))

  pub takes_line : (new : Driven) (line : TimedLine) → CallerTakesLine line d new → Way (terminals d) (terminals new)
  takes_line new line h = is_given new (gives caller_behaviour d.caller h.takes.shown line) h.takes.brought h.caller h.takes.given h.given

  pub refuses_line : (new : Driven) (line : TimedLine) → CallerRefusesLine line d new → Way (terminals d) (terminals new)
  refuses_line new line h = at h.given
    where
      at : ((h.caller.terminal ≡ d.caller.terminal) × (new ≡ record d { caller = h.caller })) ⊎
          (LosesFrames caller_behaviour d.caller.terminal (gives caller_behaviour d.caller h.refuses.shown line) h.caller.terminal ×
          CallerIsGiven (gives caller_behaviour d.caller h.refuses.shown line) d h.caller new) → Way (terminals d) (terminals new)
      at (inl e) =
          stays (terminals d) (terminals new)
          (ap terminals e.1 ∙
          same h.caller.terminal.framing h.caller.terminal.speaking d.caller.terminal.speaking d.to_caller d.to_caller true true
          (ap (λ (t : TerminalFields StoppableCallerFields). t.framing) e.0)
          (ap (λ (t : TerminalFields StoppableCallerFields). t.speaking) e.0) refl refl)
      at (inr p) =
          subst (λ (x : Driven). Way (terminals d) (terminals x)) (sym p.1.is)
          (subst (λ t. Way (terminals d) t) (sym (spoke p.1.silent d h.caller p.1.others))
          (lost_so h.caller.terminal (gives caller_behaviour d.caller h.refuses.shown line) p.1.others p.1.silent p.0 p.1.comes p.1.turns))

  -- the call is stopped
  stops_so : Way (terminals d)
      (terminals
      (caller_speaks (is_silent (caller_behaviour.stop_says d.caller.terminal.speaking.station))
      (record d { caller = stopped_so caller_behaviour d.caller })))
  stops_so =
      let silent : Bool = is_silent (caller_stop_says d.caller.terminal.speaking.station) in
      subst (λ t. Way (terminals d) t) (sym (spoke silent d (stopped_so caller_behaviour d.caller) d.to_caller))
      (by (other caller_stops) (terminals d)
      (after_caller d d.caller.terminal.framing (stopped caller_cut_off caller_stop_says d.caller.terminal.speaking) d.to_caller silent)
      (refl, refl, refl))

  -- the call is given up in silence
  gives_up_so : Way (terminals d) (terminals (record d { caller = silenced_so caller_behaviour d.caller }))
  gives_up_so =
      subst (λ t. Way (terminals d) t) (sym (spoke true d (silenced_so caller_behaviour d.caller) d.to_caller))
      (by (other caller_lost) (terminals d)
      (after_caller d d.caller.terminal.framing (silenced caller_cut_off d.caller.terminal.speaking) d.to_caller true)
      (refl, refl, refl))

  -- the call is stopped if it is refused, or has lasted as long as it may
  watched_so : (why : Option StopCause) → Way (terminals d)
      (terminals
      (caller_speaks (silent_unless why (is_silent (caller_behaviour.stop_says d.caller.terminal.speaking.station)))
      (record d { caller = stopped_for caller_behaviour why d.caller })))
  watched_so None = stays (terminals d) (terminals d) refl
  watched_so (Some (Refused why)) = stops_so
  watched_so (Some TooLong) = stops_so
  watched_so (Some NeverQuiet) = gives_up_so

  pub watches : (new : Driven) →
      new ≡
      caller_speaks (silent_unless (stop_in d.caller.watch) (is_silent (caller_behaviour.stop_says d.caller.terminal.speaking.station)))
      (record d { caller = stopped_for caller_behaviour (stop_in d.caller.watch) d.caller }) → Way (terminals d) (terminals new)
  watches new e = subst (λ (x : Driven). Way (terminals d) (terminals x)) (sym e) (watched_so (stop_in d.caller.watch))

  -- a burst is given, and what of it goes onto the line
  pub gives_burst : (new : Driven) (sent : SentBurst) (sends : Bool) → CallerGives sent sends d new → Way (terminals d) (terminals new)
  gives_burst new sent sends h =
      let is = given_next CallerSide (λ v turn bursts. CallerLends v.station turn bursts) d.caller h.caller sent d.caller.begun h.gives in
      let mid : Terminals =
      record (terminals d) {
        joined = record (joined d) {
          caller = record d.caller.terminal.speaking { taken = d.caller.terminal.speaking.taken + 1 };
          to_answerer = d.to_answerer ++ if_clear d.caller_clear h.burst.items;
        };
      } in
      both (terminals d) mid (terminals new)
      (by (other caller_sends) (terminals d) mid
      (record { bursts = h.bursts; lent = h.lent; burst = h.burst; later = h.later; next = h.next; is = refl }, refl, refl))
      (by (other lines_lose) mid (terminals new) (
        record {
          to_answerer = d.to_answerer ++ if_clear (sends && d.caller_clear) h.burst.items;
          to_caller = d.to_caller;
          answerers = some_left sends d.caller_clear d.to_answerer h.burst.items;
          callers = all_left d.to_caller;
          is = ap joined h.is ∙ ap (λ (s : Speaking StoppableCallerFields). record (joined d) {
            caller = s;
            to_answerer = d.to_answerer ++ if_clear (sends && d.caller_clear) h.burst.items;
          }) is.speaking;
        },
        ap (λ (x : Driven). x.caller.terminal.framing) h.is ∙ is.framing,
        ap (λ (x : Driven). x.answerer.terminal.framing) h.is,
      ))
