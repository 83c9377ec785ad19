-- What an event makes of the fields is what it makes of the worlds that they represent.
use Rattle.std.proofs.Common.{◌≡◌, ℕ, Bool, true, false, List, [], ◌∷◌, take, Some, Result, Ok, Err, refl, ap, sym, subst}
use Rattle.std.proofs.Common.{◌∙◌}
use Rattle.stations.specs.AnswererStep.{Answerer, AnswererAnswer, answerer_silent, answerer_step, answerer_items, StepsOrRefuses}
use Rattle.stations.specs.CallerStep.{Caller, CallerAnswer, caller_silent, caller_step, caller_items}
use Rattle.stations.specs.Inputs.{PlainItem, framed, checked, CallerInput, hears, timeout, t5, AnswererInput, listens, trains, t1, t2}
use Rattle.stations.specs.Inputs.{is_busy}
use Rattle.stations.specs.Laws.{Each}
use Rattle.stations.specs.CallerFields.{CallerFields, Represents, AnswersOrRefuses}
use Rattle.stations.specs.declared.turn.Turn.{Turn}
use Rattle.stations.specs.declared.turn.Turn.TheVariants.{Silent}
use Rattle.line_sim.specs.Entries.{Said, says, caller_said, event_says, entry_of, is_refused}
use Rattle.line_sim.specs.Headline.{CanBeWritten}
use Rattle.line_sim.specs.Hearing.{CallerHears, AnswererHears, HearsFirst}
use Rattle.line_sim.specs.Line.{World, Outcome, Done, Nothing, InputLost, Cut, sent, caller_sends, answerer_sends, after_first, happens}
use Rattle.line_sim.specs.Represents.{Shows, IsSent, CallerMayAnswer, AnswererMayAnswer, entry_with, CallerAnswers, AnswererAnswers}
use Rattle.line_sim.specs.Represents.{CallerTimer, AnswererTimer, EventWrites, Acts, head_shown, none_shown, shown_of}
use Rattle.line_sim.specs.declared.call.Call.{Call}
use Rattle.line_sim.specs.declared.event.Entry.{Entry}
use Rattle.line_sim.specs.declared.event.Event.{Event}
use Rattle.line_sim.specs.declared.event.Event.TheVariants.{DeliverToAnswerer, DeliverToCaller, LoseToAnswerer, LoseToCaller, Spoil}
use Rattle.line_sim.specs.declared.event.Event.TheVariants.{CallerTimeout, CallerT5, AnswererT1, AnswererT2, Busy}
use Rattle.line_sim.specs.declared.event.Shown.{Shown}
use Rattle.line_sim.proofs.Sent.{caller_replaced, answerer_replaced, caller_wrote, answerer_wrote}

-- how the caller answers an event that isn't lost: from this tuple by this answer, with these lists
pub record CallerTurns (w : World) (event : Event) (answer : CallerAnswer) (to_caller : List PlainItem) : Type 0 where
  pub done : happens w event Done ≡ caller_sends answer.turn
      (record { caller = answer.next; answerer = w.answerer; to_answerer = w.to_answerer; to_caller = to_caller }) answer.next
      (caller_items answer.next answer.turn)
  pub cut : (made : ℕ) →
      happens w event (Cut made) ≡ caller_sends answer.turn
      (record { caller = answer.next; answerer = w.answerer; to_answerer = w.to_answerer; to_caller = to_caller }) answer.next
      (take made (caller_items answer.next answer.turn))
  pub lost : happens w event InputLost ≡ record {
    caller = w.caller;
    answerer = w.answerer;
    to_answerer = w.to_answerer;
    to_caller = to_caller;
  }
  pub said_done : event_says w event Done ≡ caller_said answer.turn (caller_items answer.next answer.turn)
  pub said_cut : (made : ℕ) → event_says w event (Cut made) ≡ caller_said answer.turn (caller_items answer.next answer.turn)
  pub said_lost : event_says w event InputLost ≡ says Silent

pub record AnswererTurns (w : World) (event : Event) (answer : AnswererAnswer) (to_answerer : List PlainItem) : Type 0 where
  pub done : happens w event Done ≡ answerer_sends answer.turn
      (record { caller = w.caller; answerer = answer.next; to_answerer = to_answerer; to_caller = w.to_caller }) answer.next
      (answerer_items answer.next answer.turn)
  pub cut : (made : ℕ) →
      happens w event (Cut made) ≡ answerer_sends answer.turn
      (record { caller = w.caller; answerer = answer.next; to_answerer = to_answerer; to_caller = w.to_caller }) answer.next
      (take made (answerer_items answer.next answer.turn))
  pub lost : happens w event InputLost ≡ record {
    caller = w.caller;
    answerer = w.answerer;
    to_answerer = to_answerer;
    to_caller = w.to_caller;
  }
  pub said_done : event_says w event Done ≡ says answer.turn
  pub said_cut : (made : ℕ) → event_says w event (Cut made) ≡ says answer.turn
  pub said_lost : event_says w event InputLost ≡ says Silent

-- the caller's answer to the first item
abbrev pub caller_to_first : List PlainItem → Caller → CallerAnswer
caller_to_first [] t = caller_silent t
caller_to_first (framed signal ∷ items) t = caller_step t (hears signal)
caller_to_first (checked octets ∷ items) t = caller_silent t

abbrev pub answerer_to_first : List PlainItem → Answerer → AnswererAnswer
answerer_to_first [] s = answerer_silent s
answerer_to_first (framed signal ∷ items) s = answerer_step s (listens signal)
answerer_to_first (checked octets ∷ items) s = answerer_step s (trains octets)

first_to_caller : (t : Caller) (s : Answerer) (others items : List PlainItem) →
    CallerTurns (record { caller = t; answerer = s; to_answerer = others; to_caller = items }) DeliverToCaller (caller_to_first items t)
    (after_first items)
first_to_caller t s others [] =
    record { done = refl; cut = λ made. refl; lost = refl; said_done = refl; said_cut = λ made. refl; said_lost = refl }
first_to_caller t s others (checked octets ∷ items) =
    record { done = refl; cut = λ made. refl; lost = refl; said_done = refl; said_cut = λ made. refl; said_lost = refl }
first_to_caller t s others (framed signal ∷ items) =
    let answer : CallerAnswer = caller_step t (hears signal) in
    let w : World = record { caller = t; answerer = s; to_answerer = others; to_caller = items } in
    record {
      done = caller_replaced answer.turn w answer.next answer.next (caller_items answer.next answer.turn);
      cut = λ made. caller_replaced answer.turn w answer.next answer.next (take made (caller_items answer.next answer.turn));
      lost = refl;
      said_done = refl;
      said_cut = λ made. refl;
      said_lost = refl;
    }

first_to_answerer : (t : Caller) (s : Answerer) (items others : List PlainItem) →
    AnswererTurns (record { caller = t; answerer = s; to_answerer = items; to_caller = others }) DeliverToAnswerer
    (answerer_to_first items s) (after_first items)
first_to_answerer t s [] others =
    record { done = refl; cut = λ made. refl; lost = refl; said_done = refl; said_cut = λ made. refl; said_lost = refl }
first_to_answerer t s (checked octets ∷ items) others =
    let answer : AnswererAnswer = answerer_step s (trains octets) in
    let w : World = record { caller = t; answerer = s; to_answerer = items; to_caller = others } in
    record {
      done = answerer_replaced answer.turn w answer.next answer.next (answerer_items answer.next answer.turn);
      cut = λ made. answerer_replaced answer.turn w answer.next answer.next (take made (answerer_items answer.next answer.turn));
      lost = refl;
      said_done = refl;
      said_cut = λ made. refl;
      said_lost = refl;
    }
first_to_answerer t s (framed signal ∷ items) others =
    let answer : AnswererAnswer = answerer_step s (listens signal) in
    let w : World = record { caller = t; answerer = s; to_answerer = items; to_caller = others } in
    record {
      done = answerer_replaced answer.turn w answer.next answer.next (answerer_items answer.next answer.turn);
      cut = λ made. answerer_replaced answer.turn w answer.next answer.next (take made (answerer_items answer.next answer.turn));
      lost = refl;
      said_done = refl;
      said_cut = λ made. refl;
      said_lost = refl;
    }

-- the caller's fields after the first item
caller_heard : (E : Type 0) (items : List PlainItem) (old new : CallerFields) (turn : Turn) →
    HearsFirst {E = E} CallerHears items old new (Ok turn) → (t : Caller) → Represents old t →
    Represents new (caller_to_first items t).next × (turn ≡ (caller_to_first items t).turn)
caller_heard E [] old new turn h t fits = (subst (λ v. Represents v t) (sym h.0) fits, h.1)
caller_heard E (framed signal ∷ items) old new turn h t fits = h t fits
caller_heard E (checked octets ∷ items) old new turn h t fits = (subst (λ v. Represents v t) (sym h.0) fits, h.1)

caller_deaf : {E : Type 0} (items : List PlainItem) (old new : CallerFields) (refusal : E) →
    HearsFirst CallerHears items old new (Err refusal) → new ≡ old
caller_deaf [] old new refusal h = h
caller_deaf (framed signal ∷ items) old new refusal h = h
caller_deaf (checked octets ∷ items) old new refusal h = h

answerer_heard : (E : Type 0) (items : List PlainItem) (old new : Answerer) (turn : Turn) →
    HearsFirst {E = E} AnswererHears items old new (Ok turn) →
    (new ≡ (answerer_to_first items old).next) × (turn ≡ (answerer_to_first items old).turn)
answerer_heard E [] old new turn h = h
answerer_heard E (framed signal ∷ items) old new turn h = h
answerer_heard E (checked octets ∷ items) old new turn h = h

answerer_deaf : {E : Type 0} (items : List PlainItem) (old new : Answerer) (refusal : E) →
    HearsFirst AnswererHears items old new (Err refusal) → new ≡ old
answerer_deaf [] old new refusal h = h
answerer_deaf (framed signal ∷ items) old new refusal h = h
answerer_deaf (checked octets ∷ items) old new refusal h = h

-- the entry of an event with an outcome
entry_is : (w : World) (event : Event) (said : Said) (shown : Shown) (entry : Entry) (outcome : Outcome) →
    entry_of w event outcome ≡ Some (entry_with event (shown_of w event) (event_says w event outcome) (is_refused outcome)) →
    shown ≡ shown_of w event → event_says w event outcome ≡ said →
    entry ≡ entry_with event shown said (is_refused outcome) → entry_of w event outcome ≡ Some entry
entry_is w event said shown entry outcome by is says_so e =
    by ∙ (ap (λ x. Some (entry_with event (shown_of w event) x (is_refused outcome))) says_so ∙
    (ap (λ k. Some (entry_with event k said (is_refused outcome))) (sym is) ∙ ap (λ x. Some x) (sym e)))

-- the caller has answered with a turn
caller_did : (mid new : Call) (event : Event) (shown : Shown) (turn : Turn) (entry : Entry) (refused : Bool) (w : World)
    (answer : CallerAnswer) → entry.refused ≡ refused →
    Represents mid.caller answer.next → turn ≡ answer.turn → w.answerer ≡ mid.answerer → w.to_answerer ≡ mid.to_answerer →
    CallerTurns w event answer mid.to_caller → shown ≡ shown_of w event →
    (outcome : Outcome) → IsSent refused outcome →
    ((v : World) → Shows mid v → Shows new (caller_sends turn v v.caller (sent outcome (caller_items v.caller turn)))) →
    entry ≡ entry_with event shown (caller_said turn (caller_items answer.next turn)) entry.refused →
    Shows new (happens w event outcome) × (entry_of w event outcome ≡ Some entry)
caller_did mid new event shown turn entry false w answer marked fits is s o turns named Done sent_so sends noted =
    let v : World = record { caller = answer.next; answerer = w.answerer; to_answerer = w.to_answerer; to_caller = mid.to_caller } in
    let meets : Shows new (caller_sends turn v answer.next (caller_items answer.next turn)) =
    sends v (record { caller = fits; answerer = s; to_answerer = o; to_caller = refl }) in (
      subst (Shows new) (ap (λ x. caller_sends x v answer.next (caller_items answer.next x)) is ∙ sym turns.done) meets,
      entry_is w event (caller_said answer.turn (caller_items answer.next answer.turn)) shown entry Done refl named turns.said_done
          (noted ∙ (ap (λ x. entry_with event shown (caller_said x (caller_items answer.next x)) entry.refused) is ∙
          ap (entry_with event shown (caller_said answer.turn (caller_items answer.next answer.turn))) marked)),
    )
caller_did mid new event shown turn entry true w answer marked fits is s o turns named (Cut made) sent_so sends noted =
    let v : World = record { caller = answer.next; answerer = w.answerer; to_answerer = w.to_answerer; to_caller = mid.to_caller } in
    let meets : Shows new (caller_sends turn v answer.next (take made (caller_items answer.next turn))) =
    sends v (record { caller = fits; answerer = s; to_answerer = o; to_caller = refl }) in (
      subst (Shows new) (ap (λ x. caller_sends x v answer.next (take made (caller_items answer.next x))) is ∙ sym (turns.cut made)) meets,
      entry_is w event (caller_said answer.turn (caller_items answer.next answer.turn)) shown entry (Cut made) refl named
          (turns.said_cut made)
          (noted ∙ (ap (λ x. entry_with event shown (caller_said x (caller_items answer.next x)) entry.refused) is ∙
          ap (entry_with event shown (caller_said answer.turn (caller_items answer.next answer.turn))) marked)),
    )
caller_did mid new event shown turn entry false w answer marked fits is s o turns named Nothing sent_so sends noted = absurd sent_so
caller_did mid new event shown turn entry false w answer marked fits is s o turns named InputLost sent_so sends noted = absurd sent_so
caller_did mid new event shown turn entry false w answer marked fits is s o turns named (Cut made) sent_so sends noted = absurd sent_so
caller_did mid new event shown turn entry true w answer marked fits is s o turns named Done sent_so sends noted = absurd sent_so
caller_did mid new event shown turn entry true w answer marked fits is s o turns named Nothing sent_so sends noted = absurd sent_so
caller_did mid new event shown turn entry true w answer marked fits is s o turns named InputLost sent_so sends noted = absurd sent_so

answerer_did : (mid new : Call) (event : Event) (shown : Shown) (turn : Turn) (entry : Entry) (refused : Bool) (w : World)
    (answer : AnswererAnswer) → entry.refused ≡ refused →
    Represents mid.caller w.caller → mid.answerer ≡ answer.next → turn ≡ answer.turn → w.to_caller ≡ mid.to_caller →
    AnswererTurns w event answer mid.to_answerer → shown ≡ shown_of w event →
    (outcome : Outcome) → IsSent refused outcome →
    ((v : World) → Shows mid v → Shows new (answerer_sends turn v v.answerer (sent outcome (answerer_items v.answerer turn)))) →
    entry ≡ entry_with event shown (says turn) entry.refused →
    Shows new (happens w event outcome) × (entry_of w event outcome ≡ Some entry)
answerer_did mid new event shown turn entry false w answer marked fits s is o turns named Done sent_so sends noted =
    let v : World = record { caller = w.caller; answerer = answer.next; to_answerer = mid.to_answerer; to_caller = w.to_caller } in
    let meets : Shows new (answerer_sends turn v answer.next (answerer_items answer.next turn)) =
    sends v (record { caller = fits; answerer = sym s; to_answerer = refl; to_caller = o }) in (
      subst (Shows new) (ap (λ x. answerer_sends x v answer.next (answerer_items answer.next x)) is ∙ sym turns.done) meets,
      entry_is w event (says answer.turn) shown entry Done refl named turns.said_done
          (noted ∙ (ap (λ x. entry_with event shown (says x) entry.refused) is ∙ ap (entry_with event shown (says answer.turn)) marked)),
    )
answerer_did mid new event shown turn entry true w answer marked fits s is o turns named (Cut made) sent_so sends noted =
    let v : World = record { caller = w.caller; answerer = answer.next; to_answerer = mid.to_answerer; to_caller = w.to_caller } in
    let meets : Shows new (answerer_sends turn v answer.next (take made (answerer_items answer.next turn))) =
    sends v (record { caller = fits; answerer = sym s; to_answerer = refl; to_caller = o }) in (
      subst (Shows new) (ap (λ x. answerer_sends x v answer.next (take made (answerer_items answer.next x))) is ∙
          sym (turns.cut made)) meets,
      entry_is w event (says answer.turn) shown entry (Cut made) refl named (turns.said_cut made)
          (noted ∙ (ap (λ x. entry_with event shown (says x) entry.refused) is ∙ ap (entry_with event shown (says answer.turn)) marked)),
    )
answerer_did mid new event shown turn entry false w answer marked fits s is o turns named Nothing sent_so sends noted = absurd sent_so
answerer_did mid new event shown turn entry false w answer marked fits s is o turns named InputLost sent_so sends noted = absurd sent_so
answerer_did mid new event shown turn entry false w answer marked fits s is o turns named (Cut made) sent_so sends noted = absurd sent_so
answerer_did mid new event shown turn entry true w answer marked fits s is o turns named Done sent_so sends noted = absurd sent_so
answerer_did mid new event shown turn entry true w answer marked fits s is o turns named Nothing sent_so sends noted = absurd sent_so
answerer_did mid new event shown turn entry true w answer marked fits s is o turns named InputLost sent_so sends noted = absurd sent_so

-- what the caller takes an event for, and the fields after it before it transmits
pub record CallerTakes {E : Type 0} (old mid : Call) (event : Event) (shown : Shown) (result : Result Turn E) : Type 0 where
  pub answer : World → CallerAnswer
  pub answerer : mid.answerer ≡ old.answerer
  pub to_answerer : mid.to_answerer ≡ old.to_answerer
  pub turns : (w : World) → Shows old w → CallerTurns w event (answer w) mid.to_caller
  pub named : (w : World) → Shows old w → shown ≡ shown_of w event
  pub heard : (turn : Turn) → result ≡ Ok turn → (w : World) → Shows old w → Represents mid.caller (answer w).next ×
      (turn ≡ (answer w).turn)
  pub deaf : (refusal : E) → result ≡ Err refusal → mid.caller ≡ old.caller

pub record AnswererTakes {E : Type 0} (old mid : Call) (event : Event) (shown : Shown) (result : Result Turn E) : Type 0 where
  pub answer : World → AnswererAnswer
  pub caller : mid.caller ≡ old.caller
  pub to_caller : mid.to_caller ≡ old.to_caller
  pub turns : (w : World) → Shows old w → AnswererTurns w event (answer w) mid.to_answerer
  pub named : (w : World) → Shows old w → shown ≡ shown_of w event
  pub heard : (turn : Turn) → result ≡ Ok turn → (w : World) → Shows old w → (mid.answerer ≡ (answer w).next) × (turn ≡ (answer w).turn)
  pub deaf : (refusal : E) → result ≡ Err refusal → mid.answerer ≡ old.answerer

-- the items of its turn can be written
pub caller_may : {E : Type 0} (old mid : Call) (event : Event) (shown : Shown) (result : Result Turn E) →
    CallerTakes old mid event shown result → EventWrites old event → CallerMayAnswer mid result
caller_may old mid event shown (Err refusal) takes writes = tt
caller_may old mid event shown (Ok turn) takes writes =
    let w : World = writes.0 in
    let heard = takes.heard turn refl w writes.1 in
    let answer : CallerAnswer = takes.answer w in
    let turns : CallerTurns w event answer mid.to_caller = takes.turns w writes.1 in
    let v : World = record { caller = answer.next; answerer = w.answerer; to_answerer = w.to_answerer; to_caller = mid.to_caller } in (
      answer.next,
      heard.0,
      subst (λ x. Each CanBeWritten (caller_items answer.next x)) (sym heard.1)
          (caller_wrote answer.turn v answer.next (subst (λ x. Each CanBeWritten x.to_answerer) turns.done writes.2)),
    )

pub answerer_may : {E : Type 0} (old mid : Call) (event : Event) (shown : Shown) (result : Result Turn E) →
    AnswererTakes old mid event shown result → EventWrites old event → AnswererMayAnswer mid result
answerer_may old mid event shown (Err refusal) takes writes = tt
answerer_may old mid event shown (Ok turn) takes writes =
    let w : World = writes.0 in
    let heard = takes.heard turn refl w writes.1 in
    let answer : AnswererAnswer = takes.answer w in
    let turns : AnswererTurns w event answer mid.to_answerer = takes.turns w writes.1 in
    let v : World = record { caller = w.caller; answerer = answer.next; to_answerer = mid.to_answerer; to_caller = w.to_caller } in
    subst (λ s. Each CanBeWritten (answerer_items s turn)) (sym heard.0)
    (subst (λ x. Each CanBeWritten (answerer_items answer.next x)) (sym heard.1)
    (answerer_wrote answer.turn v answer.next (subst (λ x. Each CanBeWritten x.to_caller) turns.done writes.3)))

-- it has answered
pub caller_event : {E : Type 0} (old mid new : Call) (event : Event) (shown : Shown) (result : Result Turn E) (entry : Entry) →
    CallerTakes old mid event shown result → CallerAnswers mid new event shown result entry → Acts old new event entry
caller_event old mid new event shown (Ok turn) entry takes h = (
  h.0.0,
  λ w shows.
      let heard = takes.heard turn refl w shows in
      caller_did mid new event shown turn entry entry.refused w (takes.answer w) refl heard.0 heard.1
      (shows.answerer ∙ sym takes.answerer) (shows.to_answerer ∙ sym takes.to_answerer) (takes.turns w shows)
      (takes.named w shows) h.0.0 h.0.1 h.0.2
      (h.1 (takes.answer w).next heard.0),
)
caller_event old mid new event shown (Err refusal) entry takes h = (
  InputLost,
  λ w shows.
      let turns : CallerTurns w event (takes.answer w) mid.to_caller = takes.turns w shows in (
        subst (λ v. Shows v (happens w event InputLost)) (sym h.0)
            (subst (Shows mid) (sym turns.lost)
            (record {
              caller = subst (λ v. Represents v w.caller) (sym (takes.deaf refusal refl)) shows.caller;
              answerer = shows.answerer ∙ sym takes.answerer;
              to_answerer = shows.to_answerer ∙ sym takes.to_answerer;
              to_caller = refl;
            })),
        entry_is w event (says Silent) shown entry InputLost refl (takes.named w shows) turns.said_lost h.1,
      ),
)

pub answerer_event : {E : Type 0} (old mid new : Call) (event : Event) (shown : Shown) (result : Result Turn E) (entry : Entry) →
    AnswererTakes old mid event shown result → AnswererAnswers mid new event shown result entry → Acts old new event entry
answerer_event old mid new event shown (Ok turn) entry takes h = (
  h.0.0,
  λ w shows.
      let heard = takes.heard turn refl w shows in
      answerer_did mid new event shown turn entry entry.refused w (takes.answer w) refl
      (subst (λ v. Represents v w.caller) (sym takes.caller) shows.caller) heard.0 heard.1 (shows.to_caller ∙ sym takes.to_caller)
      (takes.turns w shows) (takes.named w shows) h.0.0 h.0.1 h.0.2 h.1,
)
answerer_event old mid new event shown (Err refusal) entry takes h = (
  InputLost,
  λ w shows.
      let turns : AnswererTurns w event (takes.answer w) mid.to_answerer = takes.turns w shows in (
        subst (λ v. Shows v (happens w event InputLost)) (sym h.0)
            (subst (Shows mid) (sym turns.lost)
            (record {
              caller = subst (λ v. Represents v w.caller) (sym takes.caller) shows.caller;
              answerer = shows.answerer ∙ sym (takes.deaf refusal refl);
              to_answerer = refl;
              to_caller = shows.to_caller ∙ sym takes.to_caller;
            })),
        entry_is w event (says Silent) shown entry InputLost refl (takes.named w shows) turns.said_lost h.1,
      ),
)

-- a delivery
pub caller_delivered : {E : Type 0} (old : Call) (caller : CallerFields) (left : List PlainItem) (shown : Shown)
    (result : Result Turn E) → left ≡ after_first old.to_caller → shown ≡ head_shown old.to_caller →
    HearsFirst CallerHears old.to_caller old.caller caller result →
    CallerTakes old (record {
      caller = caller;
      answerer = old.answerer;
      to_answerer = old.to_answerer;
      to_caller = left;
    }) DeliverToCaller shown result
caller_delivered {E} old caller left shown result is named h = record {
  answer = λ w. caller_to_first w.to_caller w.caller;
  answerer = refl;
  to_answerer = refl;
  turns = λ w shows.
      subst (CallerTurns w DeliverToCaller (caller_to_first w.to_caller w.caller)) (ap after_first shows.to_caller ∙ sym is)
      (first_to_caller w.caller w.answerer w.to_answerer w.to_caller);
  named = λ w shows. named ∙ ap head_shown (sym shows.to_caller);
  heard = λ turn e w shows.
      caller_heard E w.to_caller old.caller caller turn
      (subst (λ l. HearsFirst {E = E} CallerHears l old.caller caller (Ok turn)) (sym shows.to_caller)
      (subst (HearsFirst CallerHears old.to_caller old.caller caller) e h)) w.caller shows.caller;
  deaf = λ refusal e. caller_deaf old.to_caller old.caller caller refusal
      (subst (HearsFirst CallerHears old.to_caller old.caller caller) e h);
}

pub answerer_delivered : {E : Type 0} (old : Call) (answerer : Answerer) (left : List PlainItem) (shown : Shown)
    (result : Result Turn E) → left ≡ after_first old.to_answerer → shown ≡ head_shown old.to_answerer →
    HearsFirst AnswererHears old.to_answerer old.answerer answerer result →
    AnswererTakes old (record {
      caller = old.caller;
      answerer = answerer;
      to_answerer = left;
      to_caller = old.to_caller;
    }) DeliverToAnswerer shown result
answerer_delivered {E} old answerer left shown result is named h = record {
  answer = λ w. answerer_to_first w.to_answerer w.answerer;
  caller = refl;
  to_caller = refl;
  turns = λ w shows.
      subst (AnswererTurns w DeliverToAnswerer (answerer_to_first w.to_answerer w.answerer)) (ap after_first shows.to_answerer ∙ sym is)
      (first_to_answerer w.caller w.answerer w.to_answerer w.to_caller);
  named = λ w shows. named ∙ ap head_shown (sym shows.to_answerer);
  heard = λ turn e w shows.
      let now : HearsFirst {E = E} AnswererHears old.to_answerer old.answerer answerer (Ok turn) =
      subst (HearsFirst AnswererHears old.to_answerer old.answerer answerer) e h in
      answerer_heard E w.to_answerer w.answerer answerer turn
      (subst (λ l. HearsFirst {E = E} AnswererHears l w.answerer answerer (Ok turn)) (sym shows.to_answerer)
      (subst (λ s. HearsFirst {E = E} AnswererHears old.to_answerer s answerer (Ok turn)) (sym shows.answerer) now));
  deaf = λ refusal e. answerer_deaf old.to_answerer old.answerer answerer refusal
      (subst (HearsFirst AnswererHears old.to_answerer old.answerer answerer) e h);
}

caller_whole : (w : World) (answer : CallerAnswer) → caller_sends answer.turn w answer.next (caller_items answer.next answer.turn) ≡
    caller_sends answer.turn
    (record { caller = answer.next; answerer = w.answerer; to_answerer = w.to_answerer; to_caller = w.to_caller }) answer.next
    (caller_items answer.next answer.turn)
caller_whole w answer = caller_replaced answer.turn w answer.next answer.next (caller_items answer.next answer.turn)

caller_partly : (w : World) (answer : CallerAnswer) (made : ℕ) →
    caller_sends answer.turn w answer.next (take made (caller_items answer.next answer.turn)) ≡
    caller_sends answer.turn
    (record { caller = answer.next; answerer = w.answerer; to_answerer = w.to_answerer; to_caller = w.to_caller }) answer.next
    (take made (caller_items answer.next answer.turn))
caller_partly w answer made = caller_replaced answer.turn w answer.next answer.next (take made (caller_items answer.next answer.turn))

answerer_whole : (w : World) (answer : AnswererAnswer) → answerer_sends answer.turn w answer.next (answerer_items answer.next answer.turn) ≡
    answerer_sends answer.turn
    (record { caller = w.caller; answerer = answer.next; to_answerer = w.to_answerer; to_caller = w.to_caller }) answer.next
    (answerer_items answer.next answer.turn)
answerer_whole w answer = answerer_replaced answer.turn w answer.next answer.next (answerer_items answer.next answer.turn)

answerer_partly : (w : World) (answer : AnswererAnswer) (made : ℕ) →
    answerer_sends answer.turn w answer.next (take made (answerer_items answer.next answer.turn)) ≡
    answerer_sends answer.turn
    (record { caller = w.caller; answerer = answer.next; to_answerer = w.to_answerer; to_caller = w.to_caller }) answer.next
    (take made (answerer_items answer.next answer.turn))
answerer_partly w answer made = answerer_replaced answer.turn w answer.next answer.next (take made (answerer_items answer.next answer.turn))

-- a timer
caller_timed : (event : Event) (input : CallerInput) (w : World) → CallerTimer event input →
    CallerTurns w event (caller_step w.caller input) w.to_caller × (shown_of w event ≡ none_shown)
caller_timed CallerTimeout input w is =
    subst (λ i. CallerTurns w CallerTimeout (caller_step w.caller i) w.to_caller × (shown_of w CallerTimeout ≡ none_shown)) (sym is) (
      record {
        done = caller_whole w (caller_step w.caller timeout);
        cut = caller_partly w (caller_step w.caller timeout);
        lost = refl;
        said_done = refl;
        said_cut = λ made. refl;
        said_lost = refl;
      },
      refl,
    )
caller_timed CallerT5 input w is =
    subst (λ i. CallerTurns w CallerT5 (caller_step w.caller i) w.to_caller × (shown_of w CallerT5 ≡ none_shown)) (sym is) (
      record {
        done = caller_whole w (caller_step w.caller t5);
        cut = caller_partly w (caller_step w.caller t5);
        lost = refl;
        said_done = refl;
        said_cut = λ made. refl;
        said_lost = refl;
      },
      refl,
    )
caller_timed DeliverToAnswerer input w is = absurd is
caller_timed DeliverToCaller input w is = absurd is
caller_timed LoseToAnswerer input w is = absurd is
caller_timed LoseToCaller input w is = absurd is
caller_timed Spoil input w is = absurd is
caller_timed AnswererT1 input w is = absurd is
caller_timed AnswererT2 input w is = absurd is
caller_timed (Busy busy) input w is = absurd is

answerer_timed : (event : Event) (input : AnswererInput) (w : World) → AnswererTimer event input →
    AnswererTurns w event (answerer_step w.answerer input) w.to_answerer × (shown_of w event ≡ none_shown)
answerer_timed AnswererT1 input w is =
    subst (λ i. AnswererTurns w AnswererT1 (answerer_step w.answerer i) w.to_answerer × (shown_of w AnswererT1 ≡ none_shown)) (sym is) (
      record {
        done = answerer_whole w (answerer_step w.answerer t1);
        cut = answerer_partly w (answerer_step w.answerer t1);
        lost = refl;
        said_done = refl;
        said_cut = λ made. refl;
        said_lost = refl;
      },
      refl,
    )
answerer_timed AnswererT2 input w is =
    subst (λ i. AnswererTurns w AnswererT2 (answerer_step w.answerer i) w.to_answerer × (shown_of w AnswererT2 ≡ none_shown)) (sym is) (
      record {
        done = answerer_whole w (answerer_step w.answerer t2);
        cut = answerer_partly w (answerer_step w.answerer t2);
        lost = refl;
        said_done = refl;
        said_cut = λ made. refl;
        said_lost = refl;
      },
      refl,
    )
answerer_timed (Busy busy) input w is =
    subst (λ i. AnswererTurns w (Busy busy) (answerer_step w.answerer i) w.to_answerer × (shown_of w (Busy busy) ≡ none_shown)) (sym is) (
      record {
        done = answerer_whole w (answerer_step w.answerer (is_busy busy));
        cut = answerer_partly w (answerer_step w.answerer (is_busy busy));
        lost = refl;
        said_done = refl;
        said_cut = λ made. refl;
        said_lost = refl;
      },
      refl,
    )
answerer_timed DeliverToAnswerer input w is = absurd is
answerer_timed DeliverToCaller input w is = absurd is
answerer_timed LoseToAnswerer input w is = absurd is
answerer_timed LoseToCaller input w is = absurd is
answerer_timed Spoil input w is = absurd is
answerer_timed CallerTimeout input w is = absurd is
answerer_timed CallerT5 input w is = absurd is

caller_answered : {E : Type 0} (old new : CallerFields) (input : CallerInput) (turn : Turn) (result : Result Turn E) →
    AnswersOrRefuses old new result (λ t. caller_step t input) → result ≡ Ok turn → (t : Caller) → Represents old t →
    Represents new (caller_step t input).next × (turn ≡ (caller_step t input).turn)
caller_answered {E} old new input turn result h e t fits =
    (let now : AnswersOrRefuses {E = E} old new (Ok turn) (λ x. caller_step x input) = subst
    (λ r. AnswersOrRefuses old new r (λ x. caller_step x input)) e h in now) t fits

pub caller_timer : {E : Type 0} (old : Call) (caller : CallerFields) (event : Event) (input : CallerInput) (result : Result Turn E) →
    CallerTimer event input → AnswersOrRefuses old.caller caller result (λ t. caller_step t input) →
    CallerTakes old (record {
      caller = caller;
      answerer = old.answerer;
      to_answerer = old.to_answerer;
      to_caller = old.to_caller;
    }) event none_shown result
caller_timer old caller event input result timer h = record {
  answer = λ w. caller_step w.caller input;
  answerer = refl;
  to_answerer = refl;
  turns = λ w shows. subst (CallerTurns w event (caller_step w.caller input)) shows.to_caller (caller_timed event input w timer).0;
  named = λ w shows. sym (caller_timed event input w timer).1;
  heard = λ turn e w shows. caller_answered old.caller caller input turn result h e w.caller shows.caller;
  deaf = λ refusal e. subst (λ r. AnswersOrRefuses old.caller caller r (λ t. caller_step t input)) e h;
}

pub answerer_timer : {E : Type 0} (old : Call) (answerer : Answerer) (event : Event) (input : AnswererInput) (result : Result Turn E) →
    AnswererTimer event input → StepsOrRefuses old.answerer answerer result (answerer_step old.answerer input) →
    AnswererTakes old (record {
      caller = old.caller;
      answerer = answerer;
      to_answerer = old.to_answerer;
      to_caller = old.to_caller;
    }) event none_shown result
answerer_timer {E} old answerer event input result timer h = record {
  answer = λ w. answerer_step w.answerer input;
  caller = refl;
  to_caller = refl;
  turns = λ w shows. subst (AnswererTurns w event (answerer_step w.answerer input)) shows.to_answerer
      (answerer_timed event input w timer).0;
  named = λ w shows. sym (answerer_timed event input w timer).1;
  heard = λ turn e w shows.
      let now : StepsOrRefuses {E = E} old.answerer answerer (Ok turn) (answerer_step old.answerer input) =
      subst (λ r. StepsOrRefuses old.answerer answerer r (answerer_step old.answerer input)) e h in (
        now.0 ∙ ap (λ s. (answerer_step s input).next) (sym shows.answerer),
        now.1 ∙
            ap (λ s. (answerer_step s input).turn) (sym shows.answerer),
      );
  deaf = λ refusal e. subst (λ r. StepsOrRefuses old.answerer answerer r (answerer_step old.answerer input)) e h;
}
