-- Where what is found in a capture goes.
use Rattle.std.specs.Prelude.{◌≡◌, [], ◌∷◌, List}
use Rattle.captures.specs.Captured.{Capture, Step}
use Rattle.captures.specs.declared.captured.Captured.{Captured}

-- what a store says of something found: the store before, what was found, and the store after
abbrev pub FoundStep : Type 0 → Type 1
FoundStep S = S → Captured → S → Type 0

-- a store takes all that was found, in order: each from the state that the one before it left
abbrev pub TakesEach : {S : Type 0} → FoundStep S → S → List Captured → S → Type 0
TakesEach takes old [] new = new ≡ old
TakesEach {S} takes old (found ∷ rest) new = (mid : S) × takes old found mid × TakesEach takes mid rest new

-- what a step of a capture leaves, and all that it found is taken
pub record GivesOn {S : Type 0} (takes : FoundStep S) (step : Step) (new : Capture) (before after : S) : Type 0 where
  pub is : new ≡ step.then
  pub given : TakesEach takes before step.found after
