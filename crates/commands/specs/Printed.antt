-- What is printed of several files, one after another.
use Rattle.std.specs.Prelude.{ℕ, ◌≡◌, ◌++◌, ◌∷◌, ◌&&◌, [], Bool, true, List, Option}
use Rattle.std.specs.Io.KnownBytes.{Appends}

-- The octets that are printed of these files, one after another, and whether all are done, where it is said what is printed of one and
-- whether that is done.
abbrev pub ArePrinted : (List ℕ → List ℕ → Bool → Type 0) → List (List ℕ) → List ℕ → Bool → Type 0
ArePrinted IsOf [] text all = (text ≡ []) × (all ≡ true)
ArePrinted IsOf (name ∷ names) text all = (first rest : List ℕ) × (is others : Bool) × IsOf name first is × ArePrinted IsOf names rest others
    × (text ≡ first ++ rest) × (all ≡ (is && others))

-- a writer gets what is printed of these files, and nothing else
abbrev pub PrintsAll : (List ℕ → List ℕ → Bool → Type 0) → List (List ℕ) → Option (List ℕ) → Option (List ℕ) → Bool → Type 0
PrintsAll IsOf names before after all = (text : List ℕ) × ArePrinted IsOf names text all × Appends before after text

-- a writer gets what is printed of one file, and nothing else
abbrev pub PrintsOne : (List ℕ → List ℕ → Bool → Type 0) → List ℕ → Option (List ℕ) → Option (List ℕ) → Bool → Type 0
PrintsOne IsOf name before after is = (text : List ℕ) × IsOf name text is × Appends before after text

-- A writer gets what is printed of files whose names aren't known before, none of them in some case; and whether all are done, with those
-- before them.
abbrev pub PrintsMore : (List ℕ → List ℕ → Bool → Type 0) → Type 0 → Bool → Option (List ℕ) → Option (List ℕ) → Bool → Type 0
PrintsMore IsOf IsNone done before after all = (names : List (List ℕ)) × (others : Bool) × PrintsAll IsOf names before after others
    × (IsNone → names ≡ []) × (all ≡ (done && others))
