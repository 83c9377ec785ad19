-- What is given on while the contents of a line come.
use Rattle.std.proofs.Common.{◌≡◌, ℕ, List, [], ◌∷◌, ◌++◌, None, length, arith, subst, refl, sym, ap, ◌∙◌}
use Rattle.std.proofs.lemmas.List.{append_assoc}
use Rattle.raster.specs.Packed.{bits_of}
use Rattle.raster.specs.declared.packed.Order.{Order}
use Rattle.hdlc.specs.Gaps.{good}
use Rattle.signals.specs.Reading.{read_content}
use Rattle.captures.specs.Captured.{Capture, Step, at_end, captured, empty_capture, hears_all, hears_read}
use Rattle.captures.specs.Found.{FoundStep, GivesOn, TakesEach}
use Rattle.captures.specs.declared.captured.Captured.{Captured}

-- ---- one after the other

-- where what is left is taken, all is
abbrev pub IsOnWay : {S : Type 0} → FoundStep S → S → List Captured → S → List Captured → Type 0
IsOnWay {S} takes first all now rest = (after : S) → TakesEach takes now rest after → TakesEach takes first all after

-- the first one that is left is taken
pub goes_on : {S : Type 0} (takes : FoundStep S) (first : S) (all : List Captured) (now : S) (found : Captured) (rest : List Captured)
    (next : S) → IsOnWay takes first all now (found ∷ rest) → takes now found next → IsOnWay takes first all next rest
goes_on takes first all now found rest next way is = λ after each. way after (next, is, each)

-- none is left
pub all_are : {S : Type 0} (takes : FoundStep S) (first : S) (all : List Captured) (now : S) (rest : List Captured)
    → IsOnWay takes first all now rest → length rest ≡ 0 → TakesEach takes first all now
all_are takes first all now [] way none = way now refl
all_are takes first all now (found ∷ rest) way none = absurd (omega arith)

-- what is found after what was found
both_taken : {S : Type 0} (takes : FoundStep S) (first now after : S) (xs ys : List Captured) → TakesEach takes first xs now
    → TakesEach takes now ys after → TakesEach takes first (xs ++ ys) after
both_taken takes first now after [] ys is each = subst (λ s. TakesEach takes s ys after) is each
both_taken takes first now after (x ∷ xs) ys (mid, one, rest) each = (mid, one, both_taken takes mid now after xs ys rest each)

-- ---- contents

-- what is found in contents after a state, and at the end of the line
abbrev pub found_from : Capture → List (List ℕ) → List Captured
found_from s contents = (hears_all contents s).found ++ at_end (hears_all contents s).then

-- what one content finds, and what the later ones do
pub found_with_one : (s : Capture) (content : List ℕ) (later : List (List ℕ)) → found_from s (content ∷ later)
    ≡ (hears_read (read_content content) s).found ++ found_from (hears_read (read_content content) s).then later
unfolding hears_all
found_with_one s content later =
    let first : Step = hears_read (read_content content) s in
    append_assoc first.found (hears_all later first.then).found (at_end (hears_all later first.then).then)

found_at_end : (s : Capture) → found_from s [] ≡ at_end s
unfolding hears_all
found_at_end s = refl

found_in_all : (contents : List (List ℕ)) → captured contents ≡ found_from (empty_capture None) contents
unfolding captured
found_in_all contents = refl

-- where what is found in what is still to come of a line is taken, all is
abbrev pub StoreLeft : {S : Type 0} → FoundStep S → Order → S → S → Capture → List ℕ → List (List ℕ) → Type 0
StoreLeft takes order before now s line coming = IsOnWay takes before (captured (good (bits_of order line))) now (found_from s coming)

pub all_to_store : {S : Type 0} (takes : FoundStep S) (order : Order) (before : S) (s : Capture) (line : List ℕ) → s ≡ empty_capture None
    → StoreLeft takes order before before s line (good (bits_of order line))
all_to_store takes order before s line is =
    subst (λ (l : List Captured). IsOnWay takes before l before (found_from s (good (bits_of order line))))
    (sym (found_in_all (good (bits_of order line)) ∙ ap (λ (c : Capture). found_from c (good (bits_of order line))) (sym is)))
    (λ after each. each)

-- one content more
pub content_stored : {S : Type 0} (takes : FoundStep S) (order : Order) (before now new : S) (s next : Capture) (line content : List ℕ)
    (later : List (List ℕ)) → GivesOn takes (hears_read (read_content content) s) next now new
    → StoreLeft takes order before now s line (content ∷ later) → StoreLeft takes order before new next line later
content_stored takes order before now new s next line content later gives old = λ after each.
    let first : Step = hears_read (read_content content) s in
    old after (subst (λ (l : List Captured). TakesEach takes now l after) (sym (found_with_one s content later))
    (both_taken takes now new after first.found (found_from first.then later) gives.given
    (subst (λ (c : Capture). TakesEach takes new (found_from c later) after) gives.is each)))

-- no content is left
pub all_stored : {S : Type 0} (takes : FoundStep S) (order : Order) (before now after : S) (s : Capture) (line : List ℕ)
    → TakesEach takes now (at_end s) after → StoreLeft takes order before now s line []
    → TakesEach takes before (captured (good (bits_of order line))) after
all_stored takes order before now after s line given left =
    left after (subst (λ (l : List Captured). TakesEach takes now l after) (sym (found_at_end s)) given)

-- ---- a list of what is found

-- what was found, and what is found in what is still to come of a line, is all that is found in it
abbrev pub OutLeft : Order → List Captured → Capture → List ℕ → List (List ℕ) → Type 0
OutLeft order out s line coming = out ++ found_from s coming ≡ captured (good (bits_of order line))

pub all_to_find : (order : Order) (out : List Captured) (s : Capture) (line : List ℕ) → out ≡ [] → s ≡ empty_capture None
    → OutLeft order out s line (good (bits_of order line))
all_to_find order out s line none is = ap (λ (l : List Captured). l ++ found_from s (good (bits_of order line))) none
    ∙ (ap (λ (c : Capture). found_from c (good (bits_of order line))) is ∙ sym (found_in_all (good (bits_of order line))))

-- one content more
pub content_found : (order : Order) (out more : List Captured) (s next : Capture) (line content : List ℕ) (later : List (List ℕ))
    → next ≡ (hears_read (read_content content) s).then → more ≡ out ++ (hears_read (read_content content) s).found
    → OutLeft order out s line (content ∷ later) → OutLeft order more next line later
content_found order out more s next line content later is found old =
    let step : Step = hears_read (read_content content) s in
    ap (λ (l : List Captured). l ++ found_from next later) found
    ∙ (append_assoc out step.found (found_from next later)
    ∙ (ap (λ (c : Capture). out ++ (step.found ++ found_from c later)) is
    ∙ (ap (λ (l : List Captured). out ++ l) (sym (found_with_one s content later)) ∙ old)))

-- no content is left
pub all_found : (order : Order) (out all : List Captured) (s : Capture) (line : List ℕ) → all ≡ out ++ at_end s
    → OutLeft order out s line [] → all ≡ captured (good (bits_of order line))
all_found order out all s line is left = is ∙ (ap (λ (l : List Captured). out ++ l) (sym (found_at_end s)) ∙ left)
