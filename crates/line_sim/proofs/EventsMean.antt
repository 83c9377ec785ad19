-- What each event changes.
use Rattle.std.proofs.Common.{◌≡◌, ℕ, inl, inr, ◌⊎◌, Bool, List, [], ◌∷◌, ◌++◌, length, replicate, map, refl, sym, ap, ◌∙◌}
use Rattle.signals.specs.Signals.{PlainSignal}
use Rattle.stations.specs.Inputs.{PlainItem, framed, checked, CallerInput, AnswererInput, hears, timeout, t5, listens, trains, t1, t2, is_busy}
use Rattle.stations.specs.CallerStep.{Caller, caller_step, caller_items}
use Rattle.stations.specs.AnswererStep.{Answerer, answerer_step, answerer_items}
use Rattle.stations.specs.declared.turn.Turn.{Turn}
use Rattle.stations.specs.declared.turn.Turn.TheVariants.{Silent, Dis, Training, Cfr, Ftt, Burst, Pps, Mcf, Ppr, Rnr, Rr, Dcn}
use Rattle.line_sim.specs.EventsMean.{IsForCaller, IsForAnswerer, Touches, EventsTouch, EventsMake, EventsRefuse}
use Rattle.line_sim.specs.Line.{World, Outcome, acts, caller_sends, answerer_sends, caller_acts, answerer_acts, sent, spoiled}
use Rattle.line_sim.specs.Line.{comes_to_answerer, comes_to_caller, delivers_to_answerer, delivers_to_caller, after_first, caller_timer, answerer_timer}
use Rattle.line_sim.specs.Line.Outcome.{Done, Nothing, InputLost, Cut}
use Rattle.line_sim.specs.declared.event.Event.{Event}
use Rattle.line_sim.specs.declared.event.Event.TheVariants.{DeliverToAnswerer, DeliverToCaller, LoseToAnswerer, LoseToCaller, Spoil}
use Rattle.line_sim.specs.declared.event.Event.TheVariants.{CallerTimeout, CallerT5, AnswererT1, AnswererT2, Busy}

-- a list and nothing after it
none_after : (xs : List PlainItem) → xs ≡ xs ++ []
none_after [] = refl
none_after (x ∷ xs) = ap (λ ys. x ∷ ys) (none_after xs)

-- ---- the caller

-- what the caller hears of leaves the answerer, and changes the lists so
record ByCaller (w next : World) : Type 0 where
  answerer : next.answerer ≡ w.answerer
  to_answerer : (items : List PlainItem) × (next.to_answerer ≡ w.to_answerer ++ items)
  sends : (next.to_answerer ≡ w.to_answerer) ⊎ (next.to_caller ≡ [])

silent_caller : (w next : World) → next.answerer ≡ w.answerer → next.to_answerer ≡ w.to_answerer → ByCaller w next
silent_caller w next same list = record { answerer = same; to_answerer = ([], list ∙ none_after w.to_answerer); sends = inl list }

by_turn_of_caller : (turn : Turn) (w : World) (next : Caller) (items : List PlainItem) → ByCaller w (caller_sends turn w next items)
by_turn_of_caller Silent w next items = silent_caller w (caller_sends Silent w next items) refl refl
by_turn_of_caller Dis w next items = record { answerer = refl; to_answerer = (items, refl); sends = inr refl }
by_turn_of_caller Training w next items = record { answerer = refl; to_answerer = (items, refl); sends = inr refl }
by_turn_of_caller Cfr w next items = record { answerer = refl; to_answerer = (items, refl); sends = inr refl }
by_turn_of_caller Ftt w next items = record { answerer = refl; to_answerer = (items, refl); sends = inr refl }
by_turn_of_caller (Burst map) w next items = record { answerer = refl; to_answerer = (items, refl); sends = inr refl }
by_turn_of_caller Pps w next items = record { answerer = refl; to_answerer = (items, refl); sends = inr refl }
by_turn_of_caller Mcf w next items = record { answerer = refl; to_answerer = (items, refl); sends = inr refl }
by_turn_of_caller (Ppr map) w next items = record { answerer = refl; to_answerer = (items, refl); sends = inr refl }
by_turn_of_caller Rnr w next items = record { answerer = refl; to_answerer = (items, refl); sends = inr refl }
by_turn_of_caller Rr w next items = record { answerer = refl; to_answerer = (items, refl); sends = inr refl }
by_turn_of_caller Dcn w next items = record { answerer = refl; to_answerer = (items, refl); sends = inr refl }

by_input_of_caller : (w : World) (outcome : Outcome) (input : CallerInput) → ByCaller w (caller_acts w outcome input)
by_input_of_caller w outcome input =
    by_turn_of_caller (caller_step w.caller input).turn w (caller_step w.caller input).next
    (sent outcome (caller_items (caller_step w.caller input).next (caller_step w.caller input).turn))

-- the list to the caller has lost its first item before it hears
after_its_first : (w : World) (items : List PlainItem) (next : World) → ByCaller (record w { to_caller = items }) next → ByCaller w next
after_its_first w items next by = record { answerer = by.answerer; to_answerer = by.to_answerer; sends = by.sends }

by_item_to_caller : (w : World) (outcome : Outcome) (item : PlainItem) → ByCaller w (comes_to_caller w outcome item)
by_item_to_caller w outcome (framed signal) = by_input_of_caller w outcome (hears signal)
by_item_to_caller w outcome (checked octets) = silent_caller w w refl refl

by_delivery_to_caller : (w : World) (outcome : Outcome) (list : List PlainItem) → ByCaller w (delivers_to_caller w outcome list)
by_delivery_to_caller w outcome [] = silent_caller w w refl refl
by_delivery_to_caller w Done (item ∷ items) = after_its_first w items _ (by_item_to_caller (record w { to_caller = items }) Done item)
by_delivery_to_caller w Nothing (item ∷ items) = after_its_first w items _ (by_item_to_caller (record w { to_caller = items }) Nothing item)
by_delivery_to_caller w InputLost (item ∷ items) = silent_caller w (record w { to_caller = items }) refl refl
by_delivery_to_caller w (Cut made) (item ∷ items) =
    after_its_first w items _ (by_item_to_caller (record w { to_caller = items }) (Cut made) item)

by_timer_of_caller : (w : World) (outcome : Outcome) (input : CallerInput) → ByCaller w (caller_timer w outcome input)
by_timer_of_caller w InputLost input = silent_caller w w refl refl
by_timer_of_caller w Done input = by_input_of_caller w Done input
by_timer_of_caller w Nothing input = by_input_of_caller w Nothing input
by_timer_of_caller w (Cut made) input = by_input_of_caller w (Cut made) input

touched_by_caller : (w : World) (event : Event) (next : World) → IsForCaller event → (IsForAnswerer event → ⊥) → ByCaller w next → Touches w event next
touched_by_caller w event next hears_it not_other by = record {
  caller = λ n. absurd (n hears_it);
  answerer = λ n. by.answerer;
  to_answerer = λ y. by.to_answerer;
  to_caller = λ y. absurd (not_other y);
  caller_sends = λ y. by.sends;
  answerer_sends = λ y. absurd (not_other y);
}

-- ---- the answerer

-- what the answerer hears of leaves the caller, and changes the lists so
record ByAnswerer (w next : World) : Type 0 where
  caller : next.caller ≡ w.caller
  to_caller : (items : List PlainItem) × (next.to_caller ≡ w.to_caller ++ items)
  sends : (next.to_caller ≡ w.to_caller) ⊎ (next.to_answerer ≡ [])

silent_answerer : (w next : World) → next.caller ≡ w.caller → next.to_caller ≡ w.to_caller → ByAnswerer w next
silent_answerer w next same list = record { caller = same; to_caller = ([], list ∙ none_after w.to_caller); sends = inl list }

by_turn_of_answerer : (turn : Turn) (w : World) (next : Answerer) (items : List PlainItem) → ByAnswerer w (answerer_sends turn w next items)
by_turn_of_answerer Silent w next items = silent_answerer w (answerer_sends Silent w next items) refl refl
by_turn_of_answerer Dis w next items = record { caller = refl; to_caller = (items, refl); sends = inr refl }
by_turn_of_answerer Training w next items = record { caller = refl; to_caller = (items, refl); sends = inr refl }
by_turn_of_answerer Cfr w next items = record { caller = refl; to_caller = (items, refl); sends = inr refl }
by_turn_of_answerer Ftt w next items = record { caller = refl; to_caller = (items, refl); sends = inr refl }
by_turn_of_answerer (Burst map) w next items = record { caller = refl; to_caller = (items, refl); sends = inr refl }
by_turn_of_answerer Pps w next items = record { caller = refl; to_caller = (items, refl); sends = inr refl }
by_turn_of_answerer Mcf w next items = record { caller = refl; to_caller = (items, refl); sends = inr refl }
by_turn_of_answerer (Ppr map) w next items = record { caller = refl; to_caller = (items, refl); sends = inr refl }
by_turn_of_answerer Rnr w next items = record { caller = refl; to_caller = (items, refl); sends = inr refl }
by_turn_of_answerer Rr w next items = record { caller = refl; to_caller = (items, refl); sends = inr refl }
by_turn_of_answerer Dcn w next items = record { caller = refl; to_caller = (items, refl); sends = inr refl }

by_input_of_answerer : (w : World) (outcome : Outcome) (input : AnswererInput) → ByAnswerer w (answerer_acts w outcome input)
by_input_of_answerer w outcome input =
    by_turn_of_answerer (answerer_step w.answerer input).turn w (answerer_step w.answerer input).next
    (sent outcome (answerer_items (answerer_step w.answerer input).next (answerer_step w.answerer input).turn))

after_their_first : (w : World) (items : List PlainItem) (next : World) → ByAnswerer (record w { to_answerer = items }) next → ByAnswerer w next
after_their_first w items next by = record { caller = by.caller; to_caller = by.to_caller; sends = by.sends }

by_item_to_answerer : (w : World) (outcome : Outcome) (item : PlainItem) → ByAnswerer w (comes_to_answerer w outcome item)
by_item_to_answerer w outcome (framed signal) = by_input_of_answerer w outcome (listens signal)
by_item_to_answerer w outcome (checked octets) = by_input_of_answerer w outcome (trains octets)

by_delivery_to_answerer : (w : World) (outcome : Outcome) (list : List PlainItem) → ByAnswerer w (delivers_to_answerer w outcome list)
by_delivery_to_answerer w outcome [] = silent_answerer w w refl refl
by_delivery_to_answerer w Done (item ∷ items) =
    after_their_first w items _ (by_item_to_answerer (record w { to_answerer = items }) Done item)
by_delivery_to_answerer w Nothing (item ∷ items) =
    after_their_first w items _ (by_item_to_answerer (record w { to_answerer = items }) Nothing item)
by_delivery_to_answerer w InputLost (item ∷ items) = silent_answerer w (record w { to_answerer = items }) refl refl
by_delivery_to_answerer w (Cut made) (item ∷ items) =
    after_their_first w items _ (by_item_to_answerer (record w { to_answerer = items }) (Cut made) item)

by_timer_of_answerer : (w : World) (outcome : Outcome) (input : AnswererInput) → ByAnswerer w (answerer_timer w outcome input)
by_timer_of_answerer w InputLost input = silent_answerer w w refl refl
by_timer_of_answerer w Done input = by_input_of_answerer w Done input
by_timer_of_answerer w Nothing input = by_input_of_answerer w Nothing input
by_timer_of_answerer w (Cut made) input = by_input_of_answerer w (Cut made) input

touched_by_answerer : (w : World) (event : Event) (next : World) → IsForAnswerer event → (IsForCaller event → ⊥) → ByAnswerer w next → Touches w event next
touched_by_answerer w event next hears_it not_other by = record {
  caller = λ n. by.caller;
  answerer = λ n. absurd (n hears_it);
  to_answerer = λ y. absurd (not_other y);
  to_caller = λ y. by.to_caller;
  caller_sends = λ y. absurd (not_other y);
  answerer_sends = λ y. by.sends;
}

-- nobody hears of it
touched_by_nobody : (w : World) (event : Event) (next : World) → (IsForCaller event → ⊥) → (IsForAnswerer event → ⊥) → next.caller ≡ w.caller → next.answerer ≡ w.answerer → Touches w event next
touched_by_nobody w event next not_caller not_answerer caller answerer = record {
  caller = λ n. caller;
  answerer = λ n. answerer;
  to_answerer = λ y. absurd (not_caller y);
  to_caller = λ y. absurd (not_answerer y);
  caller_sends = λ y. absurd (not_caller y);
  answerer_sends = λ y. absurd (not_answerer y);
}

-- nothing has changed
untouched : (w : World) (event : Event) → Touches w event w
untouched w event = record {
  caller = λ n. refl;
  answerer = λ n. refl;
  to_answerer = λ y. ([], none_after w.to_answerer);
  to_caller = λ y. ([], none_after w.to_caller);
  caller_sends = λ y. inl refl;
  answerer_sends = λ y. inl refl;
}

-- ---- which events are whose

not_answerers_deliver_to_caller : IsForAnswerer DeliverToCaller → ⊥
not_answerers_deliver_to_caller (inl e) = cc
not_answerers_deliver_to_caller (inr (inl e)) = cc
not_answerers_deliver_to_caller (inr (inr (inl e))) = cc
not_answerers_deliver_to_caller (inr (inr (inr (busy, e)))) = cc

not_answerers_caller_timeout : IsForAnswerer CallerTimeout → ⊥
not_answerers_caller_timeout (inl e) = cc
not_answerers_caller_timeout (inr (inl e)) = cc
not_answerers_caller_timeout (inr (inr (inl e))) = cc
not_answerers_caller_timeout (inr (inr (inr (busy, e)))) = cc

not_answerers_caller_t5 : IsForAnswerer CallerT5 → ⊥
not_answerers_caller_t5 (inl e) = cc
not_answerers_caller_t5 (inr (inl e)) = cc
not_answerers_caller_t5 (inr (inr (inl e))) = cc
not_answerers_caller_t5 (inr (inr (inr (busy, e)))) = cc

not_answerers_lose_to_answerer : IsForAnswerer LoseToAnswerer → ⊥
not_answerers_lose_to_answerer (inl e) = cc
not_answerers_lose_to_answerer (inr (inl e)) = cc
not_answerers_lose_to_answerer (inr (inr (inl e))) = cc
not_answerers_lose_to_answerer (inr (inr (inr (busy, e)))) = cc

not_answerers_lose_to_caller : IsForAnswerer LoseToCaller → ⊥
not_answerers_lose_to_caller (inl e) = cc
not_answerers_lose_to_caller (inr (inl e)) = cc
not_answerers_lose_to_caller (inr (inr (inl e))) = cc
not_answerers_lose_to_caller (inr (inr (inr (busy, e)))) = cc

not_answerers_spoil : IsForAnswerer Spoil → ⊥
not_answerers_spoil (inl e) = cc
not_answerers_spoil (inr (inl e)) = cc
not_answerers_spoil (inr (inr (inl e))) = cc
not_answerers_spoil (inr (inr (inr (busy, e)))) = cc

not_callers_deliver_to_answerer : IsForCaller DeliverToAnswerer → ⊥
not_callers_deliver_to_answerer (inl e) = cc
not_callers_deliver_to_answerer (inr (inl e)) = cc
not_callers_deliver_to_answerer (inr (inr e)) = cc

not_callers_answerer_t1 : IsForCaller AnswererT1 → ⊥
not_callers_answerer_t1 (inl e) = cc
not_callers_answerer_t1 (inr (inl e)) = cc
not_callers_answerer_t1 (inr (inr e)) = cc

not_callers_answerer_t2 : IsForCaller AnswererT2 → ⊥
not_callers_answerer_t2 (inl e) = cc
not_callers_answerer_t2 (inr (inl e)) = cc
not_callers_answerer_t2 (inr (inr e)) = cc

not_callers_lose_to_answerer : IsForCaller LoseToAnswerer → ⊥
not_callers_lose_to_answerer (inl e) = cc
not_callers_lose_to_answerer (inr (inl e)) = cc
not_callers_lose_to_answerer (inr (inr e)) = cc

not_callers_lose_to_caller : IsForCaller LoseToCaller → ⊥
not_callers_lose_to_caller (inl e) = cc
not_callers_lose_to_caller (inr (inl e)) = cc
not_callers_lose_to_caller (inr (inr e)) = cc

not_callers_spoil : IsForCaller Spoil → ⊥
not_callers_spoil (inl e) = cc
not_callers_spoil (inr (inl e)) = cc
not_callers_spoil (inr (inr e)) = cc

not_callers_busy : (busy : Bool) → IsForCaller (Busy busy) → ⊥
not_callers_busy busy (inl e) = cc
not_callers_busy busy (inr (inl e)) = cc
not_callers_busy busy (inr (inr e)) = cc

-- ---- the laws

acts_touch : (w : World) (event : Event) (outcome : Outcome) → Touches w event (acts w event outcome)
acts_touch w DeliverToAnswerer outcome =
    touched_by_answerer w DeliverToAnswerer _ (inl refl) not_callers_deliver_to_answerer (by_delivery_to_answerer w outcome w.to_answerer)
acts_touch w DeliverToCaller outcome =
    touched_by_caller w DeliverToCaller _ (inl refl) not_answerers_deliver_to_caller (by_delivery_to_caller w outcome w.to_caller)
acts_touch w LoseToAnswerer outcome =
    touched_by_nobody w LoseToAnswerer _ not_callers_lose_to_answerer not_answerers_lose_to_answerer refl refl
acts_touch w LoseToCaller outcome = touched_by_nobody w LoseToCaller _ not_callers_lose_to_caller not_answerers_lose_to_caller refl refl
acts_touch w Spoil outcome = touched_by_nobody w Spoil _ not_callers_spoil not_answerers_spoil refl refl
acts_touch w CallerTimeout outcome =
    touched_by_caller w CallerTimeout _ (inr (inl refl)) not_answerers_caller_timeout (by_timer_of_caller w outcome timeout)
acts_touch w CallerT5 outcome = touched_by_caller w CallerT5 _ (inr (inr refl)) not_answerers_caller_t5 (by_timer_of_caller w outcome t5)
acts_touch w AnswererT1 outcome =
    touched_by_answerer w AnswererT1 _ (inr (inl refl)) not_callers_answerer_t1 (by_timer_of_answerer w outcome t1)
acts_touch w AnswererT2 outcome =
    touched_by_answerer w AnswererT2 _ (inr (inr (inl refl))) not_callers_answerer_t2 (by_timer_of_answerer w outcome t2)
acts_touch w (Busy busy) outcome =
    touched_by_answerer w (Busy busy) _ (inr (inr (inr (busy, refl)))) (not_callers_busy busy)
    (by_timer_of_answerer w outcome (is_busy busy))

pub events_touch : EventsTouch
events_touch w event Nothing = untouched w event
events_touch w event Done = acts_touch w event Done
events_touch w event InputLost = acts_touch w event InputLost
events_touch w event (Cut made) = acts_touch w event (Cut made)

-- who answers an input is the station after it, whatever is sent
next_of_caller : (turn : Turn) (w : World) (next : Caller) (items : List PlainItem) → (caller_sends turn w next items).caller ≡ next
next_of_caller Silent w next items = refl
next_of_caller Dis w next items = refl
next_of_caller Training w next items = refl
next_of_caller Cfr w next items = refl
next_of_caller Ftt w next items = refl
next_of_caller (Burst map) w next items = refl
next_of_caller Pps w next items = refl
next_of_caller Mcf w next items = refl
next_of_caller (Ppr map) w next items = refl
next_of_caller Rnr w next items = refl
next_of_caller Rr w next items = refl
next_of_caller Dcn w next items = refl

next_of_answerer : (turn : Turn) (w : World) (next : Answerer) (items : List PlainItem) → (answerer_sends turn w next items).answerer ≡ next
next_of_answerer Silent w next items = refl
next_of_answerer Dis w next items = refl
next_of_answerer Training w next items = refl
next_of_answerer Cfr w next items = refl
next_of_answerer Ftt w next items = refl
next_of_answerer (Burst map) w next items = refl
next_of_answerer Pps w next items = refl
next_of_answerer Mcf w next items = refl
next_of_answerer (Ppr map) w next items = refl
next_of_answerer Rnr w next items = refl
next_of_answerer Rr w next items = refl
next_of_answerer Dcn w next items = refl

caller_next : (w : World) (input : CallerInput) → (caller_acts w Done input).caller ≡ (caller_step w.caller input).next
caller_next w input =
    next_of_caller (caller_step w.caller input).turn w (caller_step w.caller input).next
    (caller_items (caller_step w.caller input).next (caller_step w.caller input).turn)

answerer_next : (w : World) (input : AnswererInput) → (answerer_acts w Done input).answerer ≡ (answerer_step w.answerer input).next
answerer_next w input =
    next_of_answerer (answerer_step w.answerer input).turn w (answerer_step w.answerer input).next
    (answerer_items (answerer_step w.answerer input).next (answerer_step w.answerer input).turn)

all_ff : (octets : List ℕ) → map {B = ℕ} (λ octet. 255) octets ≡ replicate (length octets) 255
all_ff [] = refl
all_ff (octet ∷ octets) = ap (λ xs. 255 ∷ xs) (all_ff octets)

hears_first : (w : World) (list : List PlainItem) (signal : PlainSignal) (items : List PlainItem) → list ≡ framed signal ∷ items →
    (delivers_to_caller w Done list).caller ≡ (caller_step w.caller (hears signal)).next
hears_first w list signal items is =
    ap (λ l. (delivers_to_caller w Done l).caller) is ∙ caller_next (record w { to_caller = items }) (hears signal)

listens_first : (w : World) (list : List PlainItem) (signal : PlainSignal) (items : List PlainItem) → list ≡ framed signal ∷ items →
    (delivers_to_answerer w Done list).answerer ≡ (answerer_step w.answerer (listens signal)).next
listens_first w list signal items is =
    ap (λ l. (delivers_to_answerer w Done l).answerer) is ∙ answerer_next (record w { to_answerer = items }) (listens signal)

trains_first : (w : World) (list : List PlainItem) (octets : List ℕ) (items : List PlainItem) → list ≡ checked octets ∷ items →
    (delivers_to_answerer w Done list).answerer ≡ (answerer_step w.answerer (trains octets)).next
trains_first w list octets items is =
    ap (λ l. (delivers_to_answerer w Done l).answerer) is ∙ answerer_next (record w { to_answerer = items }) (trains octets)

lost_to_answerer : (w : World) (list : List PlainItem) →
    ((delivers_to_answerer w InputLost list).caller ≡ w.caller) × ((delivers_to_answerer w InputLost list).answerer ≡ w.answerer)
lost_to_answerer w [] = (refl, refl)
lost_to_answerer w (item ∷ items) = (refl, refl)

lost_to_caller : (w : World) (list : List PlainItem) →
    ((delivers_to_caller w InputLost list).caller ≡ w.caller) × ((delivers_to_caller w InputLost list).answerer ≡ w.answerer)
lost_to_caller w [] = (refl, refl)
lost_to_caller w (item ∷ items) = (refl, refl)

-- what is said of one event alone holds of every other
pub events_make : EventsMake
events_make w DeliverToAnswerer = record {
  hears = λ signal items e is. let no : ⊥ = cc in absurd no;
  listens = λ signal items e is. listens_first w w.to_answerer signal items is;
  trains = λ octets items e is. trains_first w w.to_answerer octets items is;
  loses_to_caller = λ item items e is. let no : ⊥ = cc in absurd no;
  loses_to_answerer = λ item items e is. let no : ⊥ = cc in absurd no;
  spoils = λ octets items e is. let no : ⊥ = cc in absurd no;
  spares = λ signal items e is. let no : ⊥ = cc in absurd no;
  timeout = λ e. let no : ⊥ = cc in absurd no;
  t5 = λ e. let no : ⊥ = cc in absurd no;
  t1 = λ e. let no : ⊥ = cc in absurd no;
  t2 = λ e. let no : ⊥ = cc in absurd no;
  busy = λ busy e. let no : ⊥ = cc in absurd no;
}
events_make w DeliverToCaller = record {
  hears = λ signal items e is. hears_first w w.to_caller signal items is;
  listens = λ signal items e is. let no : ⊥ = cc in absurd no;
  trains = λ octets items e is. let no : ⊥ = cc in absurd no;
  loses_to_caller = λ item items e is. let no : ⊥ = cc in absurd no;
  loses_to_answerer = λ item items e is. let no : ⊥ = cc in absurd no;
  spoils = λ octets items e is. let no : ⊥ = cc in absurd no;
  spares = λ signal items e is. let no : ⊥ = cc in absurd no;
  timeout = λ e. let no : ⊥ = cc in absurd no;
  t5 = λ e. let no : ⊥ = cc in absurd no;
  t1 = λ e. let no : ⊥ = cc in absurd no;
  t2 = λ e. let no : ⊥ = cc in absurd no;
  busy = λ busy e. let no : ⊥ = cc in absurd no;
}
events_make w LoseToAnswerer = record {
  hears = λ signal items e is. let no : ⊥ = cc in absurd no;
  listens = λ signal items e is. let no : ⊥ = cc in absurd no;
  trains = λ octets items e is. let no : ⊥ = cc in absurd no;
  loses_to_caller = λ item items e is. let no : ⊥ = cc in absurd no;
  loses_to_answerer = λ item items e is. (ap after_first is, refl);
  spoils = λ octets items e is. let no : ⊥ = cc in absurd no;
  spares = λ signal items e is. let no : ⊥ = cc in absurd no;
  timeout = λ e. let no : ⊥ = cc in absurd no;
  t5 = λ e. let no : ⊥ = cc in absurd no;
  t1 = λ e. let no : ⊥ = cc in absurd no;
  t2 = λ e. let no : ⊥ = cc in absurd no;
  busy = λ busy e. let no : ⊥ = cc in absurd no;
}
events_make w LoseToCaller = record {
  hears = λ signal items e is. let no : ⊥ = cc in absurd no;
  listens = λ signal items e is. let no : ⊥ = cc in absurd no;
  trains = λ octets items e is. let no : ⊥ = cc in absurd no;
  loses_to_caller = λ item items e is. (ap after_first is, refl);
  loses_to_answerer = λ item items e is. let no : ⊥ = cc in absurd no;
  spoils = λ octets items e is. let no : ⊥ = cc in absurd no;
  spares = λ signal items e is. let no : ⊥ = cc in absurd no;
  timeout = λ e. let no : ⊥ = cc in absurd no;
  t5 = λ e. let no : ⊥ = cc in absurd no;
  t1 = λ e. let no : ⊥ = cc in absurd no;
  t2 = λ e. let no : ⊥ = cc in absurd no;
  busy = λ busy e. let no : ⊥ = cc in absurd no;
}
events_make w Spoil = record {
  hears = λ signal items e is. let no : ⊥ = cc in absurd no;
  listens = λ signal items e is. let no : ⊥ = cc in absurd no;
  trains = λ octets items e is. let no : ⊥ = cc in absurd no;
  loses_to_caller = λ item items e is. let no : ⊥ = cc in absurd no;
  loses_to_answerer = λ item items e is. let no : ⊥ = cc in absurd no;
  spoils = λ octets items e is. (ap spoiled is ∙ ap (λ xs. checked xs ∷ items) (all_ff octets), refl);
  spares = λ signal items e is. ap (λ l. record w { to_answerer = l }) (ap spoiled is ∙ sym is);
  timeout = λ e. let no : ⊥ = cc in absurd no;
  t5 = λ e. let no : ⊥ = cc in absurd no;
  t1 = λ e. let no : ⊥ = cc in absurd no;
  t2 = λ e. let no : ⊥ = cc in absurd no;
  busy = λ busy e. let no : ⊥ = cc in absurd no;
}
events_make w CallerTimeout = record {
  hears = λ signal items e is. let no : ⊥ = cc in absurd no;
  listens = λ signal items e is. let no : ⊥ = cc in absurd no;
  trains = λ octets items e is. let no : ⊥ = cc in absurd no;
  loses_to_caller = λ item items e is. let no : ⊥ = cc in absurd no;
  loses_to_answerer = λ item items e is. let no : ⊥ = cc in absurd no;
  spoils = λ octets items e is. let no : ⊥ = cc in absurd no;
  spares = λ signal items e is. let no : ⊥ = cc in absurd no;
  timeout = λ e. caller_next w timeout;
  t5 = λ e. let no : ⊥ = cc in absurd no;
  t1 = λ e. let no : ⊥ = cc in absurd no;
  t2 = λ e. let no : ⊥ = cc in absurd no;
  busy = λ busy e. let no : ⊥ = cc in absurd no;
}
events_make w CallerT5 = record {
  hears = λ signal items e is. let no : ⊥ = cc in absurd no;
  listens = λ signal items e is. let no : ⊥ = cc in absurd no;
  trains = λ octets items e is. let no : ⊥ = cc in absurd no;
  loses_to_caller = λ item items e is. let no : ⊥ = cc in absurd no;
  loses_to_answerer = λ item items e is. let no : ⊥ = cc in absurd no;
  spoils = λ octets items e is. let no : ⊥ = cc in absurd no;
  spares = λ signal items e is. let no : ⊥ = cc in absurd no;
  timeout = λ e. let no : ⊥ = cc in absurd no;
  t5 = λ e. caller_next w t5;
  t1 = λ e. let no : ⊥ = cc in absurd no;
  t2 = λ e. let no : ⊥ = cc in absurd no;
  busy = λ busy e. let no : ⊥ = cc in absurd no;
}
events_make w AnswererT1 = record {
  hears = λ signal items e is. let no : ⊥ = cc in absurd no;
  listens = λ signal items e is. let no : ⊥ = cc in absurd no;
  trains = λ octets items e is. let no : ⊥ = cc in absurd no;
  loses_to_caller = λ item items e is. let no : ⊥ = cc in absurd no;
  loses_to_answerer = λ item items e is. let no : ⊥ = cc in absurd no;
  spoils = λ octets items e is. let no : ⊥ = cc in absurd no;
  spares = λ signal items e is. let no : ⊥ = cc in absurd no;
  timeout = λ e. let no : ⊥ = cc in absurd no;
  t5 = λ e. let no : ⊥ = cc in absurd no;
  t1 = λ e. answerer_next w t1;
  t2 = λ e. let no : ⊥ = cc in absurd no;
  busy = λ busy e. let no : ⊥ = cc in absurd no;
}
events_make w AnswererT2 = record {
  hears = λ signal items e is. let no : ⊥ = cc in absurd no;
  listens = λ signal items e is. let no : ⊥ = cc in absurd no;
  trains = λ octets items e is. let no : ⊥ = cc in absurd no;
  loses_to_caller = λ item items e is. let no : ⊥ = cc in absurd no;
  loses_to_answerer = λ item items e is. let no : ⊥ = cc in absurd no;
  spoils = λ octets items e is. let no : ⊥ = cc in absurd no;
  spares = λ signal items e is. let no : ⊥ = cc in absurd no;
  timeout = λ e. let no : ⊥ = cc in absurd no;
  t5 = λ e. let no : ⊥ = cc in absurd no;
  t1 = λ e. let no : ⊥ = cc in absurd no;
  t2 = λ e. answerer_next w t2;
  busy = λ busy e. let no : ⊥ = cc in absurd no;
}
events_make w (Busy b) = record {
  hears = λ signal items e is. let no : ⊥ = cc in absurd no;
  listens = λ signal items e is. let no : ⊥ = cc in absurd no;
  trains = λ octets items e is. let no : ⊥ = cc in absurd no;
  loses_to_caller = λ item items e is. let no : ⊥ = cc in absurd no;
  loses_to_answerer = λ item items e is. let no : ⊥ = cc in absurd no;
  spoils = λ octets items e is. let no : ⊥ = cc in absurd no;
  spares = λ signal items e is. let no : ⊥ = cc in absurd no;
  timeout = λ e. let no : ⊥ = cc in absurd no;
  t5 = λ e. let no : ⊥ = cc in absurd no;
  t1 = λ e. let no : ⊥ = cc in absurd no;
  t2 = λ e. let no : ⊥ = cc in absurd no;
  busy = λ busy e. answerer_next w (is_busy b) ∙ ap (λ x. (answerer_step w.answerer (is_busy x)).next) cc;
}

pub events_refuse : EventsRefuse
events_refuse w DeliverToAnswerer = record { nothing = refl; caller = (lost_to_answerer w w.to_answerer).0; answerer = (lost_to_answerer w w.to_answerer).1 }
events_refuse w DeliverToCaller = record { nothing = refl; caller = (lost_to_caller w w.to_caller).0; answerer = (lost_to_caller w w.to_caller).1 }
events_refuse w LoseToAnswerer = record { nothing = refl; caller = refl; answerer = refl }
events_refuse w LoseToCaller = record { nothing = refl; caller = refl; answerer = refl }
events_refuse w Spoil = record { nothing = refl; caller = refl; answerer = refl }
events_refuse w CallerTimeout = record { nothing = refl; caller = refl; answerer = refl }
events_refuse w CallerT5 = record { nothing = refl; caller = refl; answerer = refl }
events_refuse w AnswererT1 = record { nothing = refl; caller = refl; answerer = refl }
events_refuse w AnswererT2 = record { nothing = refl; caller = refl; answerer = refl }
events_refuse w (Busy b) = record { nothing = refl; caller = refl; answerer = refl }
