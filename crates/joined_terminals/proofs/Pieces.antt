-- A piece of the line that a terminal hears is some frames that come one after the other.
use Rattle.std.proofs.Common.{◌≡◌, ◌≢◌, ◌⊎◌, inl, inr, Bool, true, false, cond, Option, Some, None, List, [], ◌∷◌, ◌++◌, map, refl, ap, sym, subst}
use Rattle.std.proofs.Common.{◌∙◌, Ok, Err}
use Rattle.std.specs.Prelude.{◌&&◌}
use Rattle.signals.specs.Signals.{PlainSignal, fcd, rcp}
use Rattle.stations.specs.AnswererStep.{Answerer, AnswererAnswer, answerer_silent, answerer_step, answerer_table, unless_answerer_ended}
use Rattle.stations.specs.Inputs.{PlainItem, framed, listens}
use Rattle.stations.specs.Limiting.{LimitedFields, busy_answer, is_full, is_kept_out, limited_step}
use Rattle.stations.specs.Stopping.{StoppableCallerFields}
use Rattle.stations.specs.declared.limiting.Limits.{Limits}
use Rattle.stations.specs.declared.stopping.Cut.{Cut}
use Rattle.stations.specs.declared.turn.AnswererState.{AnswererState}
use Rattle.stations.specs.declared.turn.AnswererState.TheVariants.{PhaseB, WaitTraining, Message}
use Rattle.stations.specs.declared.turn.End.{End}
use Rattle.stations.specs.declared.turn.Turn.{Turn}
use Rattle.stations.specs.declared.turn.Turn.TheVariants.{Silent}
use Rattle.partial_page.specs.Assembling.{within_frame_size}
use Rattle.terminals.specs.Hearing.{PlainInput, heard_of, said}
use Rattle.terminals.specs.Runs.{HearsOne, TakesAll, TakesSome, TakesUnless, TerminalFields, is_passed}
use Rattle.terminals.specs.Saying.{limited_lends, stoppable_lends}
use Rattle.terminals.specs.Speaking.{BurstsOf, Speaking, StepOf, Takes, is_silent}
use Rattle.terminals.specs.Stopping.{LimitedStepsUnlessCut}
use Rattle.terminals.specs.declared.fault.HearFault.TheVariants.{NothingTaken, FrameLost}
use Rattle.joined_terminals.specs.Happening.{AreLeft, FirstComes, Happening, Leads, LinesLose, none, kept, lost}
use Rattle.joined_terminals.specs.Happening.Happening.{comes_to_answerer, comes_to_caller, lines_lose}
use Rattle.joined_terminals.specs.Joining.{AnswererMakes, CallerMakes, Joined, answerer_begins, caller_begins}
use Rattle.joined_terminals.specs.Octets.{AnswererHears, CallerHears, HearingTakes, IsOfPage, IsPiece, LeadsTerminals, LineHappening}
use Rattle.joined_terminals.specs.Octets.{HearingTakesBy, TakesSo, Terminals, TerminalsMake}
use Rattle.joined_terminals.specs.Octets.LineHappening.{caller_hears, answerer_hears, other}
use Rattle.joined_terminals.specs.Safety.{JoinedAreSafe, TerminalsAreSafe}

-- hearing takes the inputs, passes over them, or loses them
module _ {S : Type 0} (steps : StepOf S) (lends : BurstsOf S) where
  taken_so : (old : Speaking S) (input : PlainInput) (mid : Speaking S) (sending : Bool) → TakesUnless sending steps old input mid →
      Takes S steps old input mid ⊎ (mid ≡ old)
  taken_so old input mid true h = inr h
  taken_so old input mid false h = inl h

  heard_so : (old : Speaking S) (input : PlainInput) (mid : Speaking S) → HearsOne S steps lends old input mid ⊎ (mid ≡ old) →
      Takes S steps old input mid ⊎ (mid ≡ old)
  heard_so old input mid (inl h) = taken_so old input mid (is_passed h.sending input) h.takes
  heard_so old input mid (inr same) = inr same

  one_so : (old : Speaking S) (input : PlainInput) (inputs : List PlainInput) (mid new : Speaking S) → Takes S steps old input mid ⊎ (mid ≡ old) →
      (silent : Bool) × TakesSo steps mid inputs new silent → (silent : Bool) × TakesSo steps old (input ∷ inputs) new silent
  one_so old input inputs mid new (inl takes) rest = (is_silent takes.turn && rest.0, (mid, rest.0, inl (takes, refl), rest.1))
  one_so old input inputs mid new (inr same) rest = (rest.0, (mid, rest.0, inr (same, refl), rest.1))

  all_so : (old : Speaking S) (inputs : List PlainInput) (new : Speaking S) → TakesAll steps lends old inputs new →
      (silent : Bool) × TakesSo steps old inputs new silent
  all_so old [] new h = (true, (h, refl))
  all_so old (input ∷ inputs) new h =
      one_so old input inputs h.0 new (heard_so old input h.0 (inl h.1)) (all_so h.0 inputs new h.2)

  some_so : (old : Speaking S) (inputs : List PlainInput) (new : Speaking S) → TakesSome steps lends old inputs new →
      (silent : Bool) × TakesSo steps old inputs new silent
  some_so old [] new h = (true, (h, refl))
  some_so old (input ∷ inputs) new h = one_so old input inputs h.0 new (heard_so old input h.0 h.1) (some_so h.0 inputs new h.2)

  hearing_takes_by : HearingTakesBy steps lends
  hearing_takes_by old new octets before (Ok done) hears heard = all_so old.speaking (heard_of before octets) new.speaking (hears before heard).1
  hearing_takes_by old new octets before (Err FrameLost) hears heard =
      some_so old.speaking (heard_of before octets) new.speaking (hears before heard).1
  hearing_takes_by old new octets before (Err NothingTaken) hears heard = (true, (ap (λ (t : TerminalFields S). t.speaking) hears, refl))

pub hearing_takes : HearingTakes
hearing_takes = record { caller = hearing_takes_by CallerMakes stoppable_lends; answerer = hearing_takes_by AnswererMakes limited_lends }

-- some happenings lead from one to another
pub record Led (old new : Joined) : Type 0 where
  pub happens : List Happening
  pub leads : Leads happens old new

led_none : (j : Joined) → Led j j
led_none j = record { happens = []; leads = refl }

leads_both : (some more : List Happening) (a b c : Joined) → Leads some a b → Leads more b c → Leads (some ++ more) a c
leads_both [] more a b c p q = subst (λ (x : Joined). Leads more x c) p q
leads_both (happening ∷ some) more a b c p q = (p.0, p.1, leads_both some more p.0 b c p.2 q)

led_both : (a b c : Joined) → Led a b → Led b c → Led a c
led_both a b c p q = record { happens = p.happens ++ q.happens; leads = leads_both p.happens q.happens a b c p.leads q.leads }

all_left : (items : List PlainItem) → AreLeft items items
all_left [] = none
all_left (item ∷ items) = kept (all_left items)

left_front : {some all : List PlainItem} → AreLeft some all → (others : List PlainItem) → AreLeft (some ++ others) (all ++ others)
left_front none others = all_left others
left_front (kept h) others = kept (left_front h others)
left_front (lost h) others = lost (left_front h others)

-- some items on their way to the answerer are lost
lose_answerers : (j : Joined) (items all : List PlainItem) → j.to_answerer ≡ all → AreLeft items all → Led j (record j { to_answerer = items })
lose_answerers j items all e left =
    let loses : LinesLose j (record j { to_answerer = items }) =
    record {
      to_answerer = items;
      to_caller = j.to_caller;
      answerers = subst (AreLeft items) (sym e) left;
      callers = all_left j.to_caller;
      is = refl;
    } in
    record { happens = lines_lose ∷ []; leads = (record j { to_answerer = items }, loses, refl) }

lose_callers : (j : Joined) (items all : List PlainItem) → j.to_caller ≡ all → AreLeft items all → Led j (record j { to_caller = items })
lose_callers j items all e left =
    let loses : LinesLose j (record j { to_caller = items }) =
    record {
      to_answerer = j.to_answerer;
      to_caller = items;
      answerers = all_left j.to_answerer;
      callers = subst (AreLeft items) (sym e) left;
      is = refl;
    } in
    record { happens = lines_lose ∷ []; leads = (record j { to_caller = items }, loses, refl) }

-- a frame of a page is answered by silence
silent_either : (P : Turn → Type 0) (b : Bool) (x y : AnswererAnswer) → P x.turn → P y.turn → P (cond b x y).turn
silent_either P true x y p q = p
silent_either P false x y p q = q

page_in : (state : AnswererState) (s : Answerer) (signal : PlainSignal) → IsOfPage signal → (answerer_table state (listens signal) s).turn ≡ Silent
page_in PhaseB s (fcd number octets) is = refl
page_in WaitTraining s (fcd number octets) is = refl
page_in Message s (fcd number octets) is = silent_either (λ t. t ≡ Silent) (within_frame_size s.params octets) _ _ refl refl
page_in PhaseB s rcp is = refl
page_in WaitTraining s rcp is = refl
page_in Message s rcp is = refl
page_in state s _ is = absurd is

page_silent : (s : Answerer) (signal : PlainSignal) → IsOfPage signal → (answerer_step s (listens signal)).turn ≡ Silent
page_silent s signal is = at s.ending
  where
    at : (ending : Option End) → (unless_answerer_ended ending (listens signal) s).turn ≡ Silent
    at (Some why) = refl
    at None = page_in s.state s signal is

busy_silent : (answer : AnswererAnswer) → answer.turn ≡ Silent → (busy_answer answer).turn ≡ Silent
busy_silent answer e = rw e refl

limited_silent : (limits : Limits) (s : Answerer) (signal : PlainSignal) → IsOfPage signal → (limited_step limits s (listens signal)).turn ≡ Silent
limited_silent limits s signal is =
    silent_either (λ t. t ≡ Silent) (is_full limits s.pages && is_kept_out s (listens signal)) (answerer_silent s) _ refl
    (silent_either (λ t. t ≡ Silent) _ (busy_answer (answerer_step s (listens signal))) (answerer_step s (listens signal))
    (busy_silent (answerer_step s (listens signal)) (page_silent s signal is)) (page_silent s signal is))

page_turn : (cut : Option Cut) (old : LimitedFields) (signal : PlainSignal) (new : LimitedFields) (turn : Turn) → IsOfPage signal →
    LimitedStepsUnlessCut cut old (said signal) new turn → turn ≡ Silent
page_turn None old signal new turn is h = h.0.1 ∙ limited_silent old.limits old.station signal is
page_turn (Some why) old signal new turn is h = h.1

and_true : (b : Bool) → (b && true) ≡ b
and_true true = refl
and_true false = refl

true_and : (a b : Bool) → a ≡ true → (a && b) ≡ b
true_and true b e = refl
true_and false b e = cc

-- the frames of a piece come to the answerer one after the other
module _ (others : List PlainItem) (speaking : Speaking LimitedFields) where
  last_comes : (signal : PlainSignal) (j : Joined) (mid : Speaking LimitedFields) (silent later : Bool) → j.to_answerer ≡ framed signal ∷ others →
      ((takes : Takes LimitedFields AnswererMakes j.answerer (said signal) mid) × (silent ≡ (is_silent takes.turn && later))) ⊎
      ((mid ≡ j.answerer) × (silent ≡ later)) →
      speaking ≡ mid → later ≡ true → Led j (answerer_begins silent (record j { answerer = speaking; to_answerer = others }))
  last_comes signal j mid silent later e (inl h) same all =
      let quiet : silent ≡ is_silent h.0.turn = h.1 ∙ (ap (λ b. is_silent h.0.turn && b) all ∙ and_true (is_silent h.0.turn)) in
      let after : Joined = answerer_begins (is_silent h.0.turn) (record j { answerer = mid; to_answerer = others }) in
      let comes : Led j after = record {
        happens = comes_to_answerer ∷ [];
        leads = (
          after,
          record {
            input = said signal;
            others = others;
            first = subst (λ items. FirstComes items (said signal) others) (sym e) (refl, refl);
            takes = record { answerer = mid; takes = h.0; is = refl };
          },
          refl,
        );
      } in
      subst (λ b. Led j (answerer_begins b (record j { answerer = speaking; to_answerer = others }))) (sym quiet)
      (subst (λ (s : Speaking LimitedFields). Led j (answerer_begins (is_silent h.0.turn) (record j { answerer = s; to_answerer = others })))
      (sym same) comes)
  last_comes signal j mid silent later e (inr h) same all =
      subst (λ b. Led j (answerer_begins b (record j { answerer = speaking; to_answerer = others }))) (sym (h.1 ∙ all))
      (subst (λ (s : Speaking LimitedFields). Led j (record j { answerer = s; to_answerer = others })) (sym (same ∙ h.0))
      (lose_answerers j others (framed signal ∷ others) e (lost (all_left others))))

  page_comes : (signal : PlainSignal) (items : List PlainItem) (j : Joined) (mid : Speaking LimitedFields) (silent later : Bool) →
      j.to_answerer ≡ framed signal ∷ items → IsOfPage signal →
      ((takes : Takes LimitedFields AnswererMakes j.answerer (said signal) mid) × (silent ≡ (is_silent takes.turn && later))) ⊎
      ((mid ≡ j.answerer) × (silent ≡ later)) →
      (silent ≡ later) × Led j (record j { answerer = mid; to_answerer = items })
  page_comes signal items j mid silent later e page (inl h) =
      let quiet : is_silent h.0.turn ≡ true =
      ap is_silent (page_turn j.answerer.station.cut j.answerer.station signal h.0.station h.0.turn page h.0.steps_so) in (
        h.1 ∙ true_and (is_silent h.0.turn) later quiet,
        record {
          happens = comes_to_answerer ∷ [];
          leads = (
            record j { answerer = mid; to_answerer = items },
            record {
              input = said signal;
              others = items;
              first = subst (λ all. FirstComes all (said signal) items) (sym e) (refl, refl);
              takes = record {
                answerer = mid;
                takes = h.0;
                is = sym (ap (λ b. answerer_begins b (record j { answerer = mid; to_answerer = items })) quiet);
              };
            },
            refl,
          );
        },
      )
  page_comes signal items j mid silent later e page (inr h) = (
    h.1,
    subst (λ (s : Speaking LimitedFields). Led j (record j { answerer = s; to_answerer = items })) (sym h.0)
        (lose_answerers j items (framed signal ∷ items) e (lost (all_left items))),
  )

  frames_come : (signals : List PlainSignal) (j : Joined) (silent : Bool) → j.to_answerer ≡ map framed signals ++ others → IsPiece signals →
      TakesSo AnswererMakes j.answerer (map said signals) speaking silent →
      Led j (answerer_begins silent (record j { answerer = speaking; to_answerer = others }))
  frames_come [] j silent e piece h =
      subst (λ b. Led j (answerer_begins b (record j { answerer = speaking; to_answerer = others }))) (sym h.1)
      (subst (λ (x : Joined). Led j x)
      (ap (λ (items : List PlainItem). record j { to_answerer = items }) e ∙
      ap (λ (s : Speaking LimitedFields). record j { answerer = s; to_answerer = others }) (sym h.0)) (led_none j))
  frames_come (signal ∷ []) j silent e piece h = last_comes signal j h.0 silent h.1 e h.2 h.3.0 h.3.1
  frames_come (signal ∷ next ∷ more) j silent e piece h =
      let items : List PlainItem = map framed (next ∷ more) ++ others in
      let first = page_comes signal items j h.0 silent h.1 e piece.0 h.2 in
      let later = frames_come (next ∷ more) (record j { answerer = h.0; to_answerer = items }) h.1 refl piece.1 h.3 in
      subst (λ b. Led j (answerer_begins b (record j { answerer = speaking; to_answerer = others }))) (sym first.0)
      (led_both j (record j { answerer = h.0; to_answerer = items })
      (answerer_begins h.1 (record j { answerer = speaking; to_answerer = others })) first.1 later)

-- the one frame of a piece comes to the caller
module _ (others : List PlainItem) (speaking : Speaking StoppableCallerFields) where
  one_comes : (signal : PlainSignal) (j : Joined) (mid : Speaking StoppableCallerFields) (silent later : Bool) →
      j.to_caller ≡ framed signal ∷ others →
      ((takes : Takes StoppableCallerFields CallerMakes j.caller (said signal) mid) × (silent ≡ (is_silent takes.turn && later))) ⊎
      ((mid ≡ j.caller) × (silent ≡ later)) →
      speaking ≡ mid → later ≡ true → Led j (caller_begins silent (record j { caller = speaking; to_caller = others }))
  one_comes signal j mid silent later e (inl h) same all =
      let quiet : silent ≡ is_silent h.0.turn = h.1 ∙ (ap (λ b. is_silent h.0.turn && b) all ∙ and_true (is_silent h.0.turn)) in
      let after : Joined = caller_begins (is_silent h.0.turn) (record j { caller = mid; to_caller = others }) in
      let comes : Led j after = record {
        happens = comes_to_caller ∷ [];
        leads = (
          after,
          record {
            input = said signal;
            others = others;
            first = subst (λ items. FirstComes items (said signal) others) (sym e) (refl, refl);
            takes = record { caller = mid; takes = h.0; is = refl };
          },
          refl,
        );
      } in
      subst (λ b. Led j (caller_begins b (record j { caller = speaking; to_caller = others }))) (sym quiet)
      (subst (λ (s : Speaking StoppableCallerFields). Led j (caller_begins (is_silent h.0.turn) (record j { caller = s; to_caller = others })))
      (sym same) comes)
  one_comes signal j mid silent later e (inr h) same all =
      subst (λ b. Led j (caller_begins b (record j { caller = speaking; to_caller = others }))) (sym (h.1 ∙ all))
      (subst (λ (s : Speaking StoppableCallerFields). Led j (record j { caller = s; to_caller = others })) (sym (same ∙ h.0))
      (lose_callers j others (framed signal ∷ others) e (lost (all_left others))))

  frame_comes : (signals : List PlainSignal) (j : Joined) (silent : Bool) → j.to_caller ≡ map framed signals ++ others →
      ((first next : PlainSignal) (more : List PlainSignal) → signals ≢ first ∷ next ∷ more) →
      TakesSo CallerMakes j.caller (map said signals) speaking silent →
      Led j (caller_begins silent (record j { caller = speaking; to_caller = others }))
  frame_comes [] j silent e one h =
      subst (λ b. Led j (caller_begins b (record j { caller = speaking; to_caller = others }))) (sym h.1)
      (subst (λ (x : Joined). Led j x)
      (ap (λ (items : List PlainItem). record j { to_caller = items }) e ∙
      ap (λ (s : Speaking StoppableCallerFields). record j { caller = s; to_caller = others }) (sym h.0)) (led_none j))
  frame_comes (signal ∷ []) j silent e one h = one_comes signal j h.0 silent h.1 e h.2 h.3.0 h.3.1
  frame_comes (signal ∷ next ∷ more) j silent e one h = absurd (one signal next more refl)

answerer_led : (old new : Terminals) → AnswererHears old new → Led old.joined new.joined
answerer_led old new h =
    let items : List PlainItem = map framed h.comes.signals ++ h.others in
    let losing : Led old.joined (record old.joined { to_answerer = items }) =
    lose_answerers old.joined items (h.comes.front ++ h.others) h.comes.first (left_front h.comes.left h.others) in
    let taken : TakesSo AnswererMakes old.joined.answerer (map said h.comes.signals) h.answerer.speaking h.silent =
    subst (λ is. TakesSo AnswererMakes old.joined.answerer is h.answerer.speaking h.silent) h.comes.are h.taken in
    subst (λ (x : Joined). Led old.joined x) (sym (ap (λ (t : Terminals). t.joined) h.is))
    (led_both old.joined (record old.joined { to_answerer = items })
    (answerer_begins h.silent (record old.joined { answerer = h.answerer.speaking; to_answerer = h.others })) losing
    (frames_come h.others h.answerer.speaking h.comes.signals (record old.joined { to_answerer = items }) h.silent refl h.comes.piece taken))

caller_led : (old new : Terminals) → CallerHears old new → Led old.joined new.joined
caller_led old new h =
    let items : List PlainItem = map framed h.comes.signals ++ h.others in
    let losing : Led old.joined (record old.joined { to_caller = items }) =
    lose_callers old.joined items (h.comes.front ++ h.others) h.comes.first (left_front h.comes.left h.others) in
    let taken : TakesSo CallerMakes old.joined.caller (map said h.comes.signals) h.caller.speaking h.silent =
    subst (λ is. TakesSo CallerMakes old.joined.caller is h.caller.speaking h.silent) h.comes.are h.taken in
    subst (λ (x : Joined). Led old.joined x) (sym (ap (λ (t : Terminals). t.joined) h.is))
    (led_both old.joined (record old.joined { to_caller = items })
    (caller_begins h.silent (record old.joined { caller = h.caller.speaking; to_caller = h.others })) losing
    (frame_comes h.others h.caller.speaking h.comes.signals (record old.joined { to_caller = items }) h.silent refl h.one taken))

one_led : (happening : LineHappening) (old new : Terminals) → TerminalsMake happening old new → Led old.joined new.joined
one_led caller_hears old new h = caller_led old new h
one_led answerer_hears old new h = answerer_led old new h
one_led (other happening) old new h = record { happens = happening ∷ []; leads = (new.joined, h.0, refl) }

all_led : (happens : List LineHappening) (old new : Terminals) → LeadsTerminals happens old new → Led old.joined new.joined
all_led [] old new h = subst (λ (t : Terminals). Led old.joined t.joined) (sym h) (led_none old.joined)
all_led (happening ∷ more) old new h =
    led_both old.joined h.0.joined new.joined (one_led happening old h.0 h.1) (all_led more h.0 new h.2)

pub terminals_are_safe : JoinedAreSafe → TerminalsAreSafe
terminals_are_safe safe document wish caps limits happens first last full begins leads =
    let led = all_led happens first last leads in
    safe document wish caps limits led.happens first.joined last.joined full begins led.leads
