-- What an event puts under way.
use Rattle.std.proofs.Common.{◌≡◌, ℕ, zero, suc, Bool, true, List, [], ◌∷◌, length, drop, take, Option, Some, None, refl, sym, ap, subst}
use Rattle.std.proofs.Common.{◌∙◌, arith}
use Rattle.std.proofs.lemmas.List.{drop_all, drop_at}
use Rattle.signals.specs.declared.signal.Side.{Side}
use Rattle.signals.specs.declared.signal.Side.TheVariants.{Caller as TheCaller, Answerer as TheAnswerer}
use Rattle.stations.specs.Inputs.{PlainItem, framed, checked, CallerInput, AnswererInput, hears, timeout, t5, listens, trains, t1, t2}
use Rattle.stations.specs.Inputs.{is_busy}
use Rattle.stations.specs.CallerStep.{Caller, caller_step, caller_items}
use Rattle.stations.specs.AnswererStep.{Answerer, answerer_step, answerer_items}
use Rattle.stations.specs.declared.turn.Turn.{Turn}
use Rattle.stations.specs.declared.turn.Turn.TheVariants.{Silent, Dis, Training, Cfr, Ftt, Burst, Pps, Mcf, Ppr, Rnr, Rr, Dcn}
use Rattle.line_sim.specs.Entries.{entry_of, input_to_answerer, input_to_caller, is_refused}
use Rattle.line_sim.specs.Line.{World, Outcome, happens, caller_sends, answerer_sends, caller_acts, answerer_acts, sent, spoiled}
use Rattle.line_sim.specs.Line.{after_first}
use Rattle.line_sim.specs.Line.Outcome.{Done, Nothing, InputLost, Cut}
use Rattle.line_sim.specs.Putting.{caller_puts, answerer_puts, puts_to, put_to, IsPut, Puts}
use Rattle.line_sim.specs.Represents.{Acts, Shows}
use Rattle.line_sim.specs.declared.call.Call.{Call}
use Rattle.line_sim.specs.declared.event.Entry.{Entry}
use Rattle.line_sim.specs.declared.event.Event.{Event}
use Rattle.line_sim.specs.declared.event.Event.TheVariants.{DeliverToAnswerer, DeliverToCaller, LoseToAnswerer, LoseToCaller, Spoil}
use Rattle.line_sim.specs.declared.event.Event.TheVariants.{CallerTimeout, CallerT5, AnswererT1, AnswererT2, Busy}

-- of the items of a turn those that an outcome lets be sent
abbrev made_of : Outcome → List PlainItem → List PlainItem
made_of Done items = items
made_of Nothing items = []
made_of InputLost items = []
made_of (Cut made) items = take made items

-- the outcome is one of an input that was heard
abbrev IsHeard : Outcome → Type 0
IsHeard Done = Unit {0}
IsHeard Nothing = ⊥
IsHeard InputLost = ⊥
IsHeard (Cut made) = Unit {0}

sent_is : (outcome : Outcome) (items : List PlainItem) → IsHeard outcome → sent outcome items ≡ made_of outcome items
sent_is Done items h = refl
sent_is Nothing items h = absurd h
sent_is InputLost items h = absurd h
sent_is (Cut made) items h = refl

take_none : (made : ℕ) → take {A = PlainItem} made [] ≡ []
take_none zero = refl
take_none (suc made) = refl

made_none : (outcome : Outcome) → made_of outcome [] ≡ []
made_none Done = refl
made_none Nothing = refl
made_none InputLost = refl
made_none (Cut made) = take_none made

-- nothing comes after a whole list
none_new : (xs : List PlainItem) → drop (length xs) xs ≡ []
none_new xs = drop_all (length xs) xs (let n : ℕ = length xs in omega arith)

none_new_of : (x : PlainItem) (xs : List PlainItem) → drop (length (x ∷ xs)) xs ≡ []
none_new_of x xs = drop_all (length (x ∷ xs)) xs (let n : ℕ = length xs in omega arith)

none_of_none : (n : ℕ) → drop {A = PlainItem} n [] ≡ []
none_of_none zero = refl
none_of_none (suc n) = refl

-- nothing comes after more items than there are
one_more : (n : ℕ) (xs : List PlainItem) → drop n xs ≡ [] → drop (suc n) xs ≡ []
one_more zero [] e = refl
one_more zero (x ∷ xs) e = let no : ⊥ = cc in absurd no
one_more (suc n) [] e = refl
one_more (suc n) (x ∷ xs) e = one_more n xs e

-- what is new in both lists
record News (w next : World) (callers answerers : List PlainItem) : Type 0 where
  to_answerer : drop (length w.to_answerer) next.to_answerer ≡ callers
  to_caller : drop (length w.to_caller) next.to_caller ≡ answerers

-- both stations and what is under way to each
abbrev world : Caller → Answerer → List PlainItem → List PlainItem → World
world c s xs ys = record { caller = c; answerer = s; to_answerer = xs; to_caller = ys }

-- what is new where nothing was put, whatever the outcome
none_put :
    (w next : World) (outcome : Outcome) → drop (length w.to_answerer) next.to_answerer ≡ [] →
    drop (length w.to_caller) next.to_caller ≡ [] → News w next (made_of outcome []) (made_of outcome [])
none_put w next outcome one other = record { to_answerer = one ∙ sym (made_none outcome); to_caller = other ∙ sym (made_none outcome) }

no_news : (w : World) (outcome : Outcome) → News w w (made_of outcome []) (made_of outcome [])
no_news w outcome = none_put w w outcome (none_new w.to_answerer) (none_new w.to_caller)

-- ---- the caller

turn_of_caller :
    (turn : Turn) (w : World) (next : Caller) (outcome : Outcome) → IsHeard outcome →
    News w (caller_sends turn w next (sent outcome (caller_items next turn))) (made_of outcome (caller_items next turn))
    (made_of outcome [])
turn_of_caller Silent w next outcome h = none_put w _ outcome (none_new w.to_answerer) (none_new w.to_caller)
turn_of_caller Dis w next outcome h = record {
  to_answerer = drop_at w.to_answerer (sent outcome (caller_items next Dis)) (length w.to_answerer) refl ∙
      sent_is outcome (caller_items next Dis) h;
  to_caller = none_of_none (length w.to_caller) ∙ sym (made_none outcome);
}
turn_of_caller Training w next outcome h = record {
  to_answerer = drop_at w.to_answerer (sent outcome (caller_items next Training)) (length w.to_answerer) refl ∙
      sent_is outcome (caller_items next Training) h;
  to_caller = none_of_none (length w.to_caller) ∙ sym (made_none outcome);
}
turn_of_caller Cfr w next outcome h = record {
  to_answerer = drop_at w.to_answerer (sent outcome (caller_items next Cfr)) (length w.to_answerer) refl ∙
      sent_is outcome (caller_items next Cfr) h;
  to_caller = none_of_none (length w.to_caller) ∙ sym (made_none outcome);
}
turn_of_caller Ftt w next outcome h = record {
  to_answerer = drop_at w.to_answerer (sent outcome (caller_items next Ftt)) (length w.to_answerer) refl ∙
      sent_is outcome (caller_items next Ftt) h;
  to_caller = none_of_none (length w.to_caller) ∙ sym (made_none outcome);
}
turn_of_caller (Burst marks) w next outcome h = record {
  to_answerer = drop_at w.to_answerer (sent outcome (caller_items next (Burst marks))) (length w.to_answerer) refl ∙
      sent_is outcome (caller_items next (Burst marks)) h;
  to_caller = none_of_none (length w.to_caller) ∙ sym (made_none outcome);
}
turn_of_caller Pps w next outcome h = record {
  to_answerer = drop_at w.to_answerer (sent outcome (caller_items next Pps)) (length w.to_answerer) refl ∙
      sent_is outcome (caller_items next Pps) h;
  to_caller = none_of_none (length w.to_caller) ∙ sym (made_none outcome);
}
turn_of_caller Mcf w next outcome h = record {
  to_answerer = drop_at w.to_answerer (sent outcome (caller_items next Mcf)) (length w.to_answerer) refl ∙
      sent_is outcome (caller_items next Mcf) h;
  to_caller = none_of_none (length w.to_caller) ∙ sym (made_none outcome);
}
turn_of_caller (Ppr marks) w next outcome h = record {
  to_answerer = drop_at w.to_answerer (sent outcome (caller_items next (Ppr marks))) (length w.to_answerer) refl ∙
      sent_is outcome (caller_items next (Ppr marks)) h;
  to_caller = none_of_none (length w.to_caller) ∙ sym (made_none outcome);
}
turn_of_caller Rnr w next outcome h = record {
  to_answerer = drop_at w.to_answerer (sent outcome (caller_items next Rnr)) (length w.to_answerer) refl ∙
      sent_is outcome (caller_items next Rnr) h;
  to_caller = none_of_none (length w.to_caller) ∙ sym (made_none outcome);
}
turn_of_caller Rr w next outcome h = record {
  to_answerer = drop_at w.to_answerer (sent outcome (caller_items next Rr)) (length w.to_answerer) refl ∙
      sent_is outcome (caller_items next Rr) h;
  to_caller = none_of_none (length w.to_caller) ∙ sym (made_none outcome);
}
turn_of_caller Dcn w next outcome h = record {
  to_answerer = drop_at w.to_answerer (sent outcome (caller_items next Dcn)) (length w.to_answerer) refl ∙
      sent_is outcome (caller_items next Dcn) h;
  to_caller = none_of_none (length w.to_caller) ∙ sym (made_none outcome);
}

input_of_caller :
    (w : World) (outcome : Outcome) (input : CallerInput) → IsHeard outcome →
    News w (caller_acts w outcome input) (made_of outcome (caller_puts w.caller (Some input))) (made_of outcome [])
input_of_caller w outcome input h = turn_of_caller (caller_step w.caller input).turn w (caller_step w.caller input).next outcome h

-- the first item has left the list to the caller before
after_its_first :
    (c : Caller) (s : Answerer) (xs : List PlainItem) (y : PlainItem) (ys : List PlainItem) (next : World) (outcome : Outcome)
    (items : List PlainItem) →
    News (world c s xs ys) next items (made_of outcome []) → News (world c s xs (y ∷ ys)) next items (made_of outcome [])
after_its_first c s xs y ys next outcome items news = record {
  to_answerer = news.to_answerer;
  to_caller = one_more (length ys) next.to_caller (news.to_caller ∙ made_none outcome) ∙ sym (made_none outcome);
}

-- an item is taken that no station hears
taken_to_caller :
    (c : Caller) (s : Answerer) (xs : List PlainItem) (y : PlainItem) (ys : List PlainItem) (outcome : Outcome) →
    News (world c s xs (y ∷ ys)) (world c s xs ys) (made_of outcome []) (made_of outcome [])
taken_to_caller c s xs y ys outcome = record {
  to_answerer = none_new xs ∙ sym (made_none outcome);
  to_caller = none_new_of y ys ∙ sym (made_none outcome);
}

delivered_to_caller :
    (c : Caller) (s : Answerer) (xs ys : List PlainItem) (outcome : Outcome) → let w = world c s xs ys in
    News w (happens w DeliverToCaller outcome) (made_of outcome (caller_puts c (input_to_caller w DeliverToCaller))) (made_of outcome [])
delivered_to_caller c s xs ys Nothing = no_news (world c s xs ys) Nothing
delivered_to_caller c s xs [] Done = no_news (world c s xs []) Done
delivered_to_caller c s xs [] InputLost = no_news (world c s xs []) InputLost
delivered_to_caller c s xs [] (Cut made) = no_news (world c s xs []) (Cut made)
delivered_to_caller c s xs (y ∷ ys) InputLost = taken_to_caller c s xs y ys InputLost
delivered_to_caller c s xs (framed signal ∷ ys) Done =
    after_its_first c s xs (framed signal) ys _ Done _ (input_of_caller (world c s xs ys) Done (hears signal) tt)
delivered_to_caller c s xs (framed signal ∷ ys) (Cut made) =
    after_its_first c s xs (framed signal) ys _ (Cut made) _ (input_of_caller (world c s xs ys) (Cut made) (hears signal) tt)
delivered_to_caller c s xs (checked octets ∷ ys) Done = taken_to_caller c s xs (checked octets) ys Done
delivered_to_caller c s xs (checked octets ∷ ys) (Cut made) = taken_to_caller c s xs (checked octets) ys (Cut made)

-- ---- the answerer

turn_of_answerer :
    (turn : Turn) (w : World) (next : Answerer) (outcome : Outcome) → IsHeard outcome →
    News w (answerer_sends turn w next (sent outcome (answerer_items next turn))) (made_of outcome [])
    (made_of outcome (answerer_items next turn))
turn_of_answerer Silent w next outcome h = none_put w _ outcome (none_new w.to_answerer) (none_new w.to_caller)
turn_of_answerer Dis w next outcome h = record {
  to_answerer = none_of_none (length w.to_answerer) ∙ sym (made_none outcome);
  to_caller = drop_at w.to_caller (sent outcome (answerer_items next Dis)) (length w.to_caller) refl ∙
      sent_is outcome (answerer_items next Dis) h;
}
turn_of_answerer Training w next outcome h = record {
  to_answerer = none_of_none (length w.to_answerer) ∙ sym (made_none outcome);
  to_caller = drop_at w.to_caller (sent outcome (answerer_items next Training)) (length w.to_caller) refl ∙
      sent_is outcome (answerer_items next Training) h;
}
turn_of_answerer Cfr w next outcome h = record {
  to_answerer = none_of_none (length w.to_answerer) ∙ sym (made_none outcome);
  to_caller = drop_at w.to_caller (sent outcome (answerer_items next Cfr)) (length w.to_caller) refl ∙
      sent_is outcome (answerer_items next Cfr) h;
}
turn_of_answerer Ftt w next outcome h = record {
  to_answerer = none_of_none (length w.to_answerer) ∙ sym (made_none outcome);
  to_caller = drop_at w.to_caller (sent outcome (answerer_items next Ftt)) (length w.to_caller) refl ∙
      sent_is outcome (answerer_items next Ftt) h;
}
turn_of_answerer (Burst marks) w next outcome h = record {
  to_answerer = none_of_none (length w.to_answerer) ∙ sym (made_none outcome);
  to_caller = drop_at w.to_caller (sent outcome (answerer_items next (Burst marks))) (length w.to_caller) refl ∙
      sent_is outcome (answerer_items next (Burst marks)) h;
}
turn_of_answerer Pps w next outcome h = record {
  to_answerer = none_of_none (length w.to_answerer) ∙ sym (made_none outcome);
  to_caller = drop_at w.to_caller (sent outcome (answerer_items next Pps)) (length w.to_caller) refl ∙
      sent_is outcome (answerer_items next Pps) h;
}
turn_of_answerer Mcf w next outcome h = record {
  to_answerer = none_of_none (length w.to_answerer) ∙ sym (made_none outcome);
  to_caller = drop_at w.to_caller (sent outcome (answerer_items next Mcf)) (length w.to_caller) refl ∙
      sent_is outcome (answerer_items next Mcf) h;
}
turn_of_answerer (Ppr marks) w next outcome h = record {
  to_answerer = none_of_none (length w.to_answerer) ∙ sym (made_none outcome);
  to_caller = drop_at w.to_caller (sent outcome (answerer_items next (Ppr marks))) (length w.to_caller) refl ∙
      sent_is outcome (answerer_items next (Ppr marks)) h;
}
turn_of_answerer Rnr w next outcome h = record {
  to_answerer = none_of_none (length w.to_answerer) ∙ sym (made_none outcome);
  to_caller = drop_at w.to_caller (sent outcome (answerer_items next Rnr)) (length w.to_caller) refl ∙
      sent_is outcome (answerer_items next Rnr) h;
}
turn_of_answerer Rr w next outcome h = record {
  to_answerer = none_of_none (length w.to_answerer) ∙ sym (made_none outcome);
  to_caller = drop_at w.to_caller (sent outcome (answerer_items next Rr)) (length w.to_caller) refl ∙
      sent_is outcome (answerer_items next Rr) h;
}
turn_of_answerer Dcn w next outcome h = record {
  to_answerer = none_of_none (length w.to_answerer) ∙ sym (made_none outcome);
  to_caller = drop_at w.to_caller (sent outcome (answerer_items next Dcn)) (length w.to_caller) refl ∙
      sent_is outcome (answerer_items next Dcn) h;
}

input_of_answerer :
    (w : World) (outcome : Outcome) (input : AnswererInput) → IsHeard outcome →
    News w (answerer_acts w outcome input) (made_of outcome []) (made_of outcome (answerer_puts w.answerer (Some input)))
input_of_answerer w outcome input h =
    turn_of_answerer (answerer_step w.answerer input).turn w (answerer_step w.answerer input).next outcome h

after_their_first :
    (c : Caller) (s : Answerer) (x : PlainItem) (xs ys : List PlainItem) (next : World) (outcome : Outcome) (items : List PlainItem) →
    News (world c s xs ys) next (made_of outcome []) items → News (world c s (x ∷ xs) ys) next (made_of outcome []) items
after_their_first c s x xs ys next outcome items news = record {
  to_answerer = one_more (length xs) next.to_answerer (news.to_answerer ∙ made_none outcome) ∙ sym (made_none outcome);
  to_caller = news.to_caller;
}

taken_to_answerer :
    (c : Caller) (s : Answerer) (x : PlainItem) (xs ys : List PlainItem) (outcome : Outcome) →
    News (world c s (x ∷ xs) ys) (world c s xs ys) (made_of outcome []) (made_of outcome [])
taken_to_answerer c s x xs ys outcome = record {
  to_answerer = none_new_of x xs ∙ sym (made_none outcome);
  to_caller = none_new ys ∙ sym (made_none outcome);
}

delivered_to_answerer :
    (c : Caller) (s : Answerer) (xs ys : List PlainItem) (outcome : Outcome) → let w = world c s xs ys in
    News w (happens w DeliverToAnswerer outcome) (made_of outcome [])
    (made_of outcome (answerer_puts s (input_to_answerer w DeliverToAnswerer)))
delivered_to_answerer c s xs ys Nothing = no_news (world c s xs ys) Nothing
delivered_to_answerer c s [] ys Done = no_news (world c s [] ys) Done
delivered_to_answerer c s [] ys InputLost = no_news (world c s [] ys) InputLost
delivered_to_answerer c s [] ys (Cut made) = no_news (world c s [] ys) (Cut made)
delivered_to_answerer c s (x ∷ xs) ys InputLost = taken_to_answerer c s x xs ys InputLost
delivered_to_answerer c s (framed signal ∷ xs) ys Done =
    after_their_first c s (framed signal) xs ys _ Done _ (input_of_answerer (world c s xs ys) Done (listens signal) tt)
delivered_to_answerer c s (framed signal ∷ xs) ys (Cut made) =
    after_their_first c s (framed signal) xs ys _ (Cut made) _ (input_of_answerer (world c s xs ys) (Cut made) (listens signal) tt)
delivered_to_answerer c s (checked octets ∷ xs) ys Done =
    after_their_first c s (checked octets) xs ys _ Done _ (input_of_answerer (world c s xs ys) Done (trains octets) tt)
delivered_to_answerer c s (checked octets ∷ xs) ys (Cut made) =
    after_their_first c s (checked octets) xs ys _ (Cut made) _ (input_of_answerer (world c s xs ys) (Cut made) (trains octets) tt)

-- ---- what nobody hears of

lost_from : (xs : List PlainItem) → drop (length xs) (after_first xs) ≡ []
lost_from [] = refl
lost_from (x ∷ xs) = none_new_of x xs

spoiled_in : (xs : List PlainItem) → drop (length xs) (spoiled xs) ≡ []
spoiled_in [] = refl
spoiled_in (framed signal ∷ xs) = none_new (framed signal ∷ xs)
spoiled_in (checked octets ∷ xs) = none_new xs

losing_to_answerer :
    (w : World) (outcome : Outcome) →
    News w (record w { to_answerer = after_first w.to_answerer }) (made_of outcome []) (made_of outcome [])
losing_to_answerer w outcome = none_put w _ outcome (lost_from w.to_answerer) (none_new w.to_caller)

losing_to_caller :
    (w : World) (outcome : Outcome) → News w (record w { to_caller = after_first w.to_caller }) (made_of outcome []) (made_of outcome [])
losing_to_caller w outcome = none_put w _ outcome (none_new w.to_answerer) (lost_from w.to_caller)

spoiling :
    (w : World) (outcome : Outcome) →
    News w (record w { to_answerer = spoiled w.to_answerer }) (made_of outcome []) (made_of outcome [])
spoiling w outcome = none_put w _ outcome (spoiled_in w.to_answerer) (none_new w.to_caller)

-- ---- every event

news :
    (w : World) (event : Event) (outcome : Outcome) →
    News w (happens w event outcome) (made_of outcome (puts_to TheAnswerer w event)) (made_of outcome (puts_to TheCaller w event))
news w DeliverToAnswerer outcome = delivered_to_answerer w.caller w.answerer w.to_answerer w.to_caller outcome
news w DeliverToCaller outcome = delivered_to_caller w.caller w.answerer w.to_answerer w.to_caller outcome
news w LoseToAnswerer Nothing = no_news w Nothing
news w LoseToAnswerer Done = losing_to_answerer w Done
news w LoseToAnswerer InputLost = losing_to_answerer w InputLost
news w LoseToAnswerer (Cut made) = losing_to_answerer w (Cut made)
news w LoseToCaller Nothing = no_news w Nothing
news w LoseToCaller Done = losing_to_caller w Done
news w LoseToCaller InputLost = losing_to_caller w InputLost
news w LoseToCaller (Cut made) = losing_to_caller w (Cut made)
news w Spoil Nothing = no_news w Nothing
news w Spoil Done = spoiling w Done
news w Spoil InputLost = spoiling w InputLost
news w Spoil (Cut made) = spoiling w (Cut made)
news w CallerTimeout Nothing = no_news w Nothing
news w CallerTimeout Done = input_of_caller w Done timeout tt
news w CallerTimeout InputLost = no_news w InputLost
news w CallerTimeout (Cut made) = input_of_caller w (Cut made) timeout tt
news w CallerT5 Nothing = no_news w Nothing
news w CallerT5 Done = input_of_caller w Done t5 tt
news w CallerT5 InputLost = no_news w InputLost
news w CallerT5 (Cut made) = input_of_caller w (Cut made) t5 tt
news w AnswererT1 Nothing = no_news w Nothing
news w AnswererT1 Done = input_of_answerer w Done t1 tt
news w AnswererT1 InputLost = no_news w InputLost
news w AnswererT1 (Cut made) = input_of_answerer w (Cut made) t1 tt
news w AnswererT2 Nothing = no_news w Nothing
news w AnswererT2 Done = input_of_answerer w Done t2 tt
news w AnswererT2 InputLost = no_news w InputLost
news w AnswererT2 (Cut made) = input_of_answerer w (Cut made) t2 tt
news w (Busy busy) Nothing = no_news w Nothing
news w (Busy busy) Done = input_of_answerer w Done (is_busy busy) tt
news w (Busy busy) InputLost = no_news w InputLost
news w (Busy busy) (Cut made) = input_of_answerer w (Cut made) (is_busy busy) tt

is_put : (outcome : Outcome) (put items : List PlainItem) → put ≡ made_of outcome items → IsPut (is_refused outcome) put items
is_put Done put items e = e
is_put Nothing put items e = (0, e)
is_put InputLost put items e = (0, e)
is_put (Cut made) put items e = (made, e)

-- whether an entry, if there is one, is marked
abbrev marked : Option Entry → Bool
marked None = true
marked (Some entry) = entry.refused

entry_refused :
    (w : World) (event : Event) (outcome : Outcome) (entry : Entry) → entry_of w event outcome ≡ Some entry →
    is_refused outcome ≡ entry.refused
entry_refused w event Done entry e = ap marked e
entry_refused w event Nothing entry e = ap marked e
entry_refused w event InputLost entry e = ap marked e
entry_refused w event (Cut made) entry e = ap marked e

-- the lists that the fields have are those of the world
new_in : (olds news was is items : List PlainItem) → was ≡ olds → is ≡ news → drop (length was) is ≡ items → drop (length olds) news ≡ items
new_in olds news was is items same on e = rw (← same, ← on) e

new_to :
    (to : Side) (old new : Call) (w : World) (event : Event) (outcome : Outcome) → Shows old w → Shows new (happens w event outcome) →
    put_to to old new ≡ made_of outcome (puts_to to w event)
new_to TheCaller old new w event outcome shown shows =
    new_in old.to_caller new.to_caller w.to_caller _ _ shown.to_caller shows.to_caller (news w event outcome).to_caller
new_to TheAnswerer old new w event outcome shown shows =
    new_in old.to_answerer new.to_answerer w.to_answerer _ _ shown.to_answerer shows.to_answerer (news w event outcome).to_answerer

pub puts : (old new : Call) (event : Event) (entry : Entry) → Acts old new event entry → Puts old new event entry.refused
puts old new event entry (outcome, acts) to w shown =
    let a = acts w shown in
    subst (λ r. IsPut r (put_to to old new) (puts_to to w event)) (entry_refused w event outcome entry a.1)
    (is_put outcome (put_to to old new) (puts_to to w event) (new_to to old new w event outcome shown a.0))
