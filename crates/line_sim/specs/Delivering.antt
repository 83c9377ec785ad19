-- What deliveries make of the fields of a world.
use Rattle.std.specs.Prelude.{ℕ, ◌≡◌, ◌≢◌, ◌<◌, ◌≤◌, min, length, Bool, true, false, List, [], ◌∷◌, ◌++◌, Result, Ok, Err}
use Rattle.signals.specs.declared.params.Caps.{Caps}
use Rattle.signals.specs.declared.params.Params.{Params}
use Rattle.signals.specs.declared.params.Wish.{Wish}
use Rattle.stations.specs.Layers.{Document}
use Rattle.line_sim.specs.Entries.{entries}
use Rattle.line_sim.specs.Line.{World, Outcome, Done, run, new_world}
use Rattle.line_sim.specs.Polite.{next_steps, polite_steps, count_deliveries, AreAgreed, call_length, IsThrough}
use Rattle.line_sim.specs.Represents.{Shows, WorldFields}
use Rattle.line_sim.specs.declared.event.Event.{Event}

-- all of these steps were made from a world that the old fields showed: the new ones show the world after them, and have their entries
abbrev pub Made : WorldFields → WorldFields → World → List (Event × Outcome) → Type 0
Made old new w steps = Shows new.call (run steps w) × (new.entries ≡ old.entries ++ entries steps w)

-- the steps before a refused event were made, and then that event with another outcome
pub record Stopped (old new : WorldFields) (w : World) (steps : List (Event × Outcome)) : Type 0 where
  pub before : List (Event × Outcome)
  pub event : Event
  pub following : List (Event × Outcome)
  pub outcome : Outcome
  pub refused : outcome ≢ Done
  pub steps_are : steps ≡ before ++ (event, Done) ∷ following
  pub made : Made old new w (before ++ (event, outcome) ∷ [])

-- the next delivery was made, or there is none
abbrev pub NextDone : WorldFields → WorldFields → World → Bool → Type 0
NextDone old new w true = Made old new w (next_steps w w.to_answerer w.to_caller) ×
    (count_deliveries (next_steps w w.to_answerer w.to_caller) ≡ 1)
NextDone old new w false = (new ≡ old) × (next_steps w w.to_answerer w.to_caller ≡ [])

-- the next delivery was made, or there is none; or a growth was refused
abbrev pub DeliversNext : {E : Type 0} → WorldFields → WorldFields → World → Result Bool E → Type 0
DeliversNext old new w (Ok delivered) = NextDone old new w delivered
DeliversNext old new w (Err refusal) = Stopped old new w (next_steps w w.to_answerer w.to_caller)

-- a polite run of at most `most` deliveries was made, and their number is returned; or the events before a refused one were made
abbrev pub DeliversAll : {E : Type 0} → WorldFields → WorldFields → World → ℕ → Result ℕ E → Type 0
DeliversAll old new w most (Ok number) = Made old new w (polite_steps most w) × (number ≡ count_deliveries (polite_steps most w))
DeliversAll old new w most (Err refusal) = Stopped old new w (polite_steps most w)

-- A call from its start that nobody disturbs, of a document with a page (which each `Document` has, but a world's fields don't say). If
-- both stations agree on each page and each page's code is within the limit, the number of deliveries is the lesser of the call's length
-- and of those that may be made; after all of the call's it is through.
abbrev pub GoesThrough : WorldFields → WorldFields → ℕ → ℕ → Type 0
GoesThrough old new most number =
    (document : Document) (wish : Wish) (caps : Caps) (groups : List Params) → Shows old.call (new_world document wish caps) →
    0 < length document → AreAgreed caps wish groups document →
    (number ≡ min (call_length groups document) most) ×
    (call_length groups document ≤ most → (w : World) × Shows new.call w × IsThrough document w)
