-- One step of reading a text of the system.
use Rattle.std.proofs.Common.{◌≡◌, ◌≤◌, ◌<◌, ◌+◌, ◌-◌, ◌*◌, ◌∷◌, ℕ, [], List, None, Some, ap, arith, drop, false, length, refl, slice_index_or, true}
use Rattle.std.proofs.Common.{sym, take}
use Rattle.std.proofs.lemmas.List.{take_all}
use Rattle.command_files.specs.SystemTexts.{after_label, capped, is_blank, is_digit, number_at, number_from, stands}

-- digits end before an octet that is none
pub number_stops : (base before default : ℕ) (left : List ℕ) → is_digit base (slice_index_or left 0 default) ≡ false → 1 ≤ length left
    → number_from base before left ≡ before
number_stops base before default [] is some = refl
number_stops base before default (first ∷ rest) is some = rw is refl

-- a digit goes on with the number
pub number_goes : (base before default : ℕ) (left : List ℕ) → is_digit base (slice_index_or left 0 default) ≡ true → 1 ≤ length left
    → number_from base before left
    ≡ number_from base (capped (capped (before * base) + (slice_index_or left 0 default - 48))) (take (length left - 1) (drop 1 left))
number_goes base before default [] is some = absurd (omega (arith, some))
number_goes base before default (first ∷ rest) is some =
    rw is (ap (λ more. number_from base (capped (capped (before * base) + (first - 48))) more) (sym (take_all _ rest (omega arith))))

-- digits end with the octets
pub number_ends : (base before : ℕ) (left : List ℕ) → length left < 1 → number_from base before left ≡ before
number_ends base before [] none = refl
number_ends base before (first ∷ rest) none = absurd (omega (arith, none))

-- a label doesn't stand here
pub label_later : (label : List ℕ) (left : List ℕ) → stands label left ≡ false → 1 ≤ length left
    → after_label label left ≡ after_label label (take (length left - 1) (drop 1 left))
label_later label [] is some = absurd (omega (arith, some))
label_later label (first ∷ rest) is some = rw is (ap (λ more. after_label label more) (sym (take_all _ rest (omega arith))))

-- a label stands here
pub label_here : (label : List ℕ) (left : List ℕ) → stands label left ≡ true → 1 ≤ length left → after_label label left ≡ Some (drop (length label) left)
label_here label [] is some = absurd (omega (arith, some))
label_here label (first ∷ rest) is some = rw is refl

-- a label stands nowhere in no octets
pub label_nowhere : (label : List ℕ) (left : List ℕ) → length left < 1 → after_label label left ≡ None
label_nowhere label [] none = refl
label_nowhere label (first ∷ rest) none = absurd (omega (arith, none))

-- a blank comes first
pub blank_first : (base default : ℕ) (left : List ℕ) → is_digit base (slice_index_or left 0 default) ≡ false
    → is_blank (slice_index_or left 0 default) ≡ true → 1 ≤ length left → number_at base left ≡ number_at base (take (length left - 1) (drop 1 left))
blank_first base default [] is blank some = absurd (omega (arith, some))
blank_first base default (first ∷ rest) is blank some = rw is (rw blank (ap (λ more. number_at base more) (sym (take_all _ rest (omega arith)))))

-- neither a digit nor a blank comes first
pub other_first : (base default : ℕ) (left : List ℕ) → is_digit base (slice_index_or left 0 default) ≡ false
    → is_blank (slice_index_or left 0 default) ≡ false → 1 ≤ length left → number_at base left ≡ None
other_first base default [] is blank some = absurd (omega (arith, some))
other_first base default (first ∷ rest) is blank some = rw is (rw blank refl)

-- a digit comes first
pub digit_first : (base default : ℕ) (left : List ℕ) → is_digit base (slice_index_or left 0 default) ≡ true → 1 ≤ length left
    → number_at base left ≡ Some (number_from base 0 left)
digit_first base default [] is some = absurd (omega (arith, some))
digit_first base default (first ∷ rest) is some = rw is refl

-- there is no number in no octets
pub nothing_first : (base : ℕ) (left : List ℕ) → length left < 1 → number_at base left ≡ None
nothing_first base [] none = refl
nothing_first base (first ∷ rest) none = absurd (omega (arith, none))

pub ruleset numbers = (number_stops, number_goes, number_ends)

pub ruleset labels = (label_later, label_here, label_nowhere)

pub ruleset fronts = (blank_first, other_first, digit_first, nothing_first)
