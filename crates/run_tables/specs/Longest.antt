-- Where coded bits are refused: after their longest front.
use Rattle.std.specs.Prelude.{ℕ, ◌≡◌, ◌≤◌, Bool, List, length}
use Rattle.run_tables.specs.Fronts.{Look, IsFront, spell}
use Rattle.run_tables.specs.Fronts.Look.{refuse}

-- no front of the bits is longer than this place, and this kind of refusal is seen after it
pub record IsLongest {State Item Answer Kind : Type 0} (word : Item → List Bool) (Step : State → Item → State → Type 0) (look : State
    → List Bool → Look State Item Answer Kind) (start : State) (x : List Bool) (place : ℕ) (kind : Kind) : Type 0 where
  pub items : List Item
  pub front : IsFront word Step start x items
  pub place_is : place ≡ length (spell word items)
  pub kind_is : look front.end front.rest ≡ refuse kind
  pub longest : (others : List Item) → IsFront word Step start x others → length (spell word others) ≤ place
