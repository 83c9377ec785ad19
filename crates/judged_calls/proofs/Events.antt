-- What each part of an event keeps of a world and of what was said in it, each event keeps, and each run.
use Rattle.std.proofs.Common.{◌≡◌, List, [], ◌∷◌, refl, subst}
use Rattle.stations.specs.Inputs.{CallerInput, AnswererInput, PlainItem, framed, checked, timeout, t5, t1, t2, is_busy, hears, listens, trains}
use Rattle.stations.specs.Laws.{Each}
use Rattle.line_sim.specs.Entries.{unless_lost, heard, listened}
use Rattle.line_sim.specs.Line.{World, Outcome, Done, Nothing, InputLost, Cut, happens, run}
use Rattle.line_sim.specs.Line.{caller_acts, answerer_acts, delivers_to_answerer, delivers_to_caller, after_first, spoiled}
use Rattle.line_sim.specs.declared.event.Event.{Event}
use Rattle.line_sim.specs.declared.event.Event.TheVariants as event
use Rattle.referee.specs.History.{PlainSaid}
use Rattle.judged_calls.specs.SaidCalls.{caller_speaks, answerer_speaks, speaks, event_speaks, said_in}
use Rattle.std.specs.Prelude.{None}

-- what is under way to the caller before an input and after it: a signal is taken off the line, a timer takes nothing
abbrev pub ToCaller : CallerInput → List PlainItem → List PlainItem → Type 0
ToCaller (hears signal) items rest = items ≡ framed signal ∷ rest
ToCaller timeout items rest = items ≡ rest
ToCaller t5 items rest = items ≡ rest

-- the same of the answerer
abbrev pub ToAnswerer : AnswererInput → List PlainItem → List PlainItem → Type 0
ToAnswerer (listens signal) items rest = items ≡ framed signal ∷ rest
ToAnswerer (trains octets) items rest = items ≡ checked octets ∷ rest
ToAnswerer t1 items rest = items ≡ rest
ToAnswerer t2 items rest = items ≡ rest
ToAnswerer (is_busy busy) items rest = items ≡ rest

-- what is known of a signal that a caller hears, as an item under way to it; nothing of a timer
abbrev pub KnownToCaller : (PlainItem → Type 0) → CallerInput → Type 0
KnownToCaller P (hears signal) = P (framed signal)
KnownToCaller P timeout = Unit {0}
KnownToCaller P t5 = Unit {0}

-- what is known of items under way is known of the one that is taken, and of the others
pub caller_takes : (P : PlainItem → Type 0) (input : CallerInput) (items rest : List PlainItem) → ToCaller input items rest → Each P items →
    KnownToCaller P input × Each P rest
caller_takes P (hears signal) items rest is h = subst (Each P) is h
caller_takes P timeout items rest is h = (tt, subst (Each P) is h)
caller_takes P t5 items rest is h = (tt, subst (Each P) is h)

-- the same of the answerer
abbrev pub KnownToAnswerer : (PlainItem → Type 0) → AnswererInput → Type 0
KnownToAnswerer P (listens signal) = P (framed signal)
KnownToAnswerer P (trains octets) = P (checked octets)
KnownToAnswerer P t1 = Unit {0}
KnownToAnswerer P t2 = Unit {0}
KnownToAnswerer P (is_busy busy) = Unit {0}

pub answerer_takes : (P : PlainItem → Type 0) (input : AnswererInput) (items rest : List PlainItem) → ToAnswerer input items rest → Each P items →
    KnownToAnswerer P input × Each P rest
answerer_takes P (listens signal) items rest is h = subst (Each P) is h
answerer_takes P (trains octets) items rest is h = subst (Each P) is h
answerer_takes P t1 items rest is h = (tt, subst (Each P) is h)
answerer_takes P t2 items rest is h = (tt, subst (Each P) is h)
answerer_takes P (is_busy busy) items rest is h = (tt, subst (Each P) is h)

-- what is known of all items is known of all but the first one
pub each_rest : (P : PlainItem → Type 0) (item : PlainItem) (items rest : List PlainItem) → items ≡ item ∷ rest → Each P items → Each P rest
each_rest P item items rest is h = (subst (Each P) is h).1

-- The parts of an event keep an invariant of a world and of what was said: a station's step to an input, an item that is lost, and a
-- training check that is spoiled. Facts are given of the world before, and of the world after a step.
-- The steps' outcomes are fine: all are, or those without refused memory.
pub record PartsKeep (Inv : World → List PlainSaid → Type 0) (Fact : World → Type 0) (Fine : Outcome → Type 0) : Type 0 where
  pub caller :
      (w : World) (rest : List PlainItem) (outcome : Outcome) (input : CallerInput) (before : List PlainSaid) →
      Fine outcome → Fact w → Fact (caller_acts (record w { to_caller = rest }) Done input) → ToCaller input w.to_caller rest → Inv w before →
      Inv (caller_acts (record w { to_caller = rest }) outcome input) (caller_speaks w.caller outcome input before)
  pub answerer :
      (w : World) (rest : List PlainItem) (outcome : Outcome) (input : AnswererInput) (before : List PlainSaid) →
      Fine outcome → Fact w → Fact (answerer_acts (record w { to_answerer = rest }) Done input) → ToAnswerer input w.to_answerer rest → Inv w before →
      Inv (answerer_acts (record w { to_answerer = rest }) outcome input) (answerer_speaks w.answerer outcome input before)
  pub lost_to_caller :
      (w : World) (item : PlainItem) (rest : List PlainItem) (before : List PlainSaid) →
      w.to_caller ≡ item ∷ rest → Inv w before → Inv (record w { to_caller = rest }) before
  pub lost_to_answerer :
      (w : World) (item : PlainItem) (rest : List PlainItem) (before : List PlainSaid) →
      w.to_answerer ≡ item ∷ rest → Inv w before → Inv (record w { to_answerer = rest }) before
  pub spoil : (w : World) (before : List PlainSaid) → Inv w before → Inv (record w { to_answerer = spoiled w.to_answerer }) before

module _ (Inv : World → List PlainSaid → Type 0) (Fact : World → Type 0) (Fine : Outcome → Type 0) (keep : PartsKeep Inv Fact Fine) where
  to_answerer :
      (w : World) (outcome : Outcome) (items : List PlainItem) (before : List PlainSaid) → Fine outcome → Fact w →
      Fact (delivers_to_answerer w Done items) → w.to_answerer ≡ items → Inv w before →
      Inv (delivers_to_answerer w outcome items) (speaks w outcome None (unless_lost outcome (listened items)) before)
  to_answerer w Done [] before fine f after is h = h
  to_answerer w Nothing [] before fine f after is h = h
  to_answerer w InputLost [] before fine f after is h = h
  to_answerer w (Cut made) [] before fine f after is h = h
  to_answerer w InputLost (framed signal ∷ items) before fine f after is h = keep.lost_to_answerer w (framed signal) items before is h
  to_answerer w InputLost (checked octets ∷ items) before fine f after is h = keep.lost_to_answerer w (checked octets) items before is h
  to_answerer w Done (framed signal ∷ items) before fine f after is h = keep.answerer w items Done (listens signal) before fine f after is h
  to_answerer w Done (checked octets ∷ items) before fine f after is h = keep.answerer w items Done (trains octets) before fine f after is h
  to_answerer w Nothing (framed signal ∷ items) before fine f after is h = keep.answerer w items Nothing (listens signal) before fine f after is h
  to_answerer w Nothing (checked octets ∷ items) before fine f after is h = keep.answerer w items Nothing (trains octets) before fine f after is h
  to_answerer w (Cut made) (framed signal ∷ items) before fine f after is h =
      keep.answerer w items (Cut made) (listens signal) before fine f after is h
  to_answerer w (Cut made) (checked octets ∷ items) before fine f after is h =
      keep.answerer w items (Cut made) (trains octets) before fine f after is h

  to_caller :
      (w : World) (outcome : Outcome) (items : List PlainItem) (before : List PlainSaid) → Fine outcome → Fact w →
      Fact (delivers_to_caller w Done items) → w.to_caller ≡ items → Inv w before →
      Inv (delivers_to_caller w outcome items) (speaks w outcome (unless_lost outcome (heard items)) (unless_lost outcome None) before)
  to_caller w Done [] before fine f after is h = h
  to_caller w Nothing [] before fine f after is h = h
  to_caller w InputLost [] before fine f after is h = h
  to_caller w (Cut made) [] before fine f after is h = h
  to_caller w InputLost (framed signal ∷ items) before fine f after is h = keep.lost_to_caller w (framed signal) items before is h
  to_caller w InputLost (checked octets ∷ items) before fine f after is h = keep.lost_to_caller w (checked octets) items before is h
  to_caller w Done (framed signal ∷ items) before fine f after is h = keep.caller w items Done (hears signal) before fine f after is h
  to_caller w Done (checked octets ∷ items) before fine f after is h = keep.lost_to_caller w (checked octets) items before is h
  to_caller w Nothing (framed signal ∷ items) before fine f after is h = keep.caller w items Nothing (hears signal) before fine f after is h
  to_caller w Nothing (checked octets ∷ items) before fine f after is h = keep.lost_to_caller w (checked octets) items before is h
  to_caller w (Cut made) (framed signal ∷ items) before fine f after is h = keep.caller w items (Cut made) (hears signal) before fine f after is h
  to_caller w (Cut made) (checked octets ∷ items) before fine f after is h = keep.lost_to_caller w (checked octets) items before is h

  rest_to_answerer :
      (w : World) (items : List PlainItem) (before : List PlainSaid) → w.to_answerer ≡ items → Inv w before →
      Inv (record w { to_answerer = after_first items }) before
  rest_to_answerer w [] before is h = subst (λ items. Inv (record w { to_answerer = items }) before) is h
  rest_to_answerer w (item ∷ items) before is h = keep.lost_to_answerer w item items before is h

  rest_to_caller :
      (w : World) (items : List PlainItem) (before : List PlainSaid) → w.to_caller ≡ items → Inv w before →
      Inv (record w { to_caller = after_first items }) before
  rest_to_caller w [] before is h = subst (λ items. Inv (record w { to_caller = items }) before) is h
  rest_to_caller w (item ∷ items) before is h = keep.lost_to_caller w item items before is h

  event_keeps :
      (w : World) → ((more : List (Event × Outcome)) → Fact (run more w)) → (e : Event) (outcome : Outcome) (before : List PlainSaid) →
      Fine outcome → Inv w before → Inv (happens w e outcome) (event_speaks w e outcome before)
  event_keeps w fact e Nothing before fine h = h
  event_keeps w fact event.DeliverToAnswerer Done before fine h =
      to_answerer w Done w.to_answerer before fine (fact []) (fact ((event.DeliverToAnswerer, Done) ∷ [])) refl h
  event_keeps w fact event.DeliverToCaller Done before fine h = to_caller w Done w.to_caller before fine (fact []) (fact ((event.DeliverToCaller, Done) ∷ [])) refl h
  event_keeps w fact event.LoseToAnswerer Done before fine h = rest_to_answerer w w.to_answerer before refl h
  event_keeps w fact event.LoseToCaller Done before fine h = rest_to_caller w w.to_caller before refl h
  event_keeps w fact event.Spoil Done before fine h = keep.spoil w before h
  event_keeps w fact event.CallerTimeout Done before fine h = keep.caller w w.to_caller Done timeout before fine (fact []) (fact ((event.CallerTimeout, Done) ∷ [])) refl h
  event_keeps w fact event.CallerT5 Done before fine h = keep.caller w w.to_caller Done t5 before fine (fact []) (fact ((event.CallerT5, Done) ∷ [])) refl h
  event_keeps w fact event.AnswererT1 Done before fine h =
      keep.answerer w w.to_answerer Done t1 before fine (fact []) (fact ((event.AnswererT1, Done) ∷ [])) refl h
  event_keeps w fact event.AnswererT2 Done before fine h =
      keep.answerer w w.to_answerer Done t2 before fine (fact []) (fact ((event.AnswererT2, Done) ∷ [])) refl h
  event_keeps w fact (event.Busy busy) Done before fine h =
      keep.answerer w w.to_answerer Done (is_busy busy) before fine (fact []) (fact ((event.Busy busy, Done) ∷ [])) refl h
  event_keeps w fact event.DeliverToAnswerer InputLost before fine h =
      to_answerer w InputLost w.to_answerer before fine (fact []) (fact ((event.DeliverToAnswerer, Done) ∷ [])) refl h
  event_keeps w fact event.DeliverToCaller InputLost before fine h = to_caller w InputLost w.to_caller before fine (fact []) (fact ((event.DeliverToCaller, Done) ∷ [])) refl h
  event_keeps w fact event.LoseToAnswerer InputLost before fine h = rest_to_answerer w w.to_answerer before refl h
  event_keeps w fact event.LoseToCaller InputLost before fine h = rest_to_caller w w.to_caller before refl h
  event_keeps w fact event.Spoil InputLost before fine h = keep.spoil w before h
  event_keeps w fact event.CallerTimeout InputLost before fine h = h
  event_keeps w fact event.CallerT5 InputLost before fine h = h
  event_keeps w fact event.AnswererT1 InputLost before fine h = h
  event_keeps w fact event.AnswererT2 InputLost before fine h = h
  event_keeps w fact (event.Busy busy) InputLost before fine h = h
  event_keeps w fact event.DeliverToAnswerer (Cut made) before fine h =
      to_answerer w (Cut made) w.to_answerer before fine (fact []) (fact ((event.DeliverToAnswerer, Done) ∷ [])) refl h
  event_keeps w fact event.DeliverToCaller (Cut made) before fine h = to_caller w (Cut made) w.to_caller before fine (fact []) (fact ((event.DeliverToCaller, Done) ∷ [])) refl h
  event_keeps w fact event.LoseToAnswerer (Cut made) before fine h = rest_to_answerer w w.to_answerer before refl h
  event_keeps w fact event.LoseToCaller (Cut made) before fine h = rest_to_caller w w.to_caller before refl h
  event_keeps w fact event.Spoil (Cut made) before fine h = keep.spoil w before h
  event_keeps w fact event.CallerTimeout (Cut made) before fine h = keep.caller w w.to_caller (Cut made) timeout before fine (fact []) (fact ((event.CallerTimeout, Done) ∷ [])) refl h
  event_keeps w fact event.CallerT5 (Cut made) before fine h = keep.caller w w.to_caller (Cut made) t5 before fine (fact []) (fact ((event.CallerT5, Done) ∷ [])) refl h
  event_keeps w fact event.AnswererT1 (Cut made) before fine h =
      keep.answerer w w.to_answerer (Cut made) t1 before fine (fact []) (fact ((event.AnswererT1, Done) ∷ [])) refl h
  event_keeps w fact event.AnswererT2 (Cut made) before fine h =
      keep.answerer w w.to_answerer (Cut made) t2 before fine (fact []) (fact ((event.AnswererT2, Done) ∷ [])) refl h
  event_keeps w fact (event.Busy busy) (Cut made) before fine h =
      keep.answerer w w.to_answerer (Cut made) (is_busy busy) before fine (fact []) (fact ((event.Busy busy, Done) ∷ [])) refl h

-- the world after a run, and what was said in it, have the invariant
pub run_keeps :
    (Inv : World → List PlainSaid → Type 0) (Fact : World → Type 0) (Fine : Outcome → Type 0) → PartsKeep Inv Fact Fine →
    (steps : List (Event × Outcome)) (w : World) (before : List PlainSaid) → Each (λ step. Fine step.1) steps →
    ((more : List (Event × Outcome)) → Fact (run more w)) → Inv w before → Inv (run steps w) (said_in steps w before)
run_keeps Inv Fact Fine keep [] w before fine fact h = h
run_keeps Inv Fact Fine keep (step ∷ steps) w before fine fact h =
    run_keeps Inv Fact Fine keep steps (happens w step.0 step.1) (event_speaks w step.0 step.1 before) fine.1 (λ more. fact (step ∷ more))
    (event_keeps Inv Fact Fine keep w fact step.0 step.1 before fine.0 h)

-- any outcome is fine
abbrev pub Any : Outcome → Type 0
Any outcome = Unit {0}

pub all_any : (steps : List (Event × Outcome)) → Each (λ step. Any step.1) steps
all_any [] = tt
all_any (step ∷ steps) = (tt, all_any steps)

-- all was done
abbrev pub AllDone : Outcome → Type 0
AllDone outcome = outcome ≡ Done

-- no fact is asked for
abbrev pub NoFact : World → Type 0
NoFact w = Unit {0}
