-- The mode code that the next 7 bits give is the one that begins the bits that are left, if it isn't longer than they are.
use Rattle.std.proofs.Common.{ℕ, ◌≡◌, ◌/◌, ◌^◌, ◌<◌, ◌≤◌, Bool, true, false, List, length, get_or, Some, None, inl, inr, refl, ap}
use Rattle.std.proofs.Common.{sym, ◌∙◌, arith}
use Rattle.std.specs.Prelude.{Option, IfSome}
use Rattle.std.proofs.lemmas.Bool.{cases_Bool}
use Rattle.std.proofs.lemmas.List.FromFn.{get_or-map-range_with_len, length-map-range_with_len}
use Rattle.run_tables.specs.Numbers.{AreFirst, number_text, first_bits}
use Rattle.run_tables.specs.Texts.{begins, pick}
use Rattle.run_tables.proofs.BeginsLemmas.{pick_begins, pick_begun}
use Rattle.run_tables.proofs.NumberLemmas.{front_first, begins_filled, begins_unfilled, begins_within}
use Rattle.page_code.specs.declared.t6.mode.ModeCode.{ModeCode}
use Rattle.page_code.specs.declared.t6.mode.ModeCode.TheVariants.{Pass, Horizontal, Vertical}
use Rattle.page_code.specs.declared.t6.mode.Shift.TheVariants.{V0, VR1, VR2, VR3, VL1, VL2, VL3}
use Rattle.page_code.specs.TwoDimensions.Fronts.{mode_word, mode_codes}
use Rattle.page_code.specs.TwoDimensions.ModeTable.{mode_entries, with_length}
use Rattle.page_code.proofs.TwoDimensions.PageLook.{modes_apart}
use Rattle.page_code.proofs.TwoDimensions.StepsOn.{mode_stands}

-- the table's length
pub held_modes : (held : List (Option ModeCode × ℕ)) → held ≡ mode_entries → length held ≡ 128
unfolding mode_entries
held_modes held e = ap length e ∙
    length-map-range_with_len (λ next. with_length (pick mode_word mode_codes (number_text 7 next))) 0 128

-- its entries
pub mode_entry : (held : List (Option ModeCode × ℕ)) (next : ℕ) (d : Option ModeCode × ℕ) → held ≡ mode_entries → next < 128
    → get_or held next d ≡ with_length (pick mode_word mode_codes (number_text 7 next))
unfolding mode_entries
mode_entry held next d e h = ap (λ (es : List (Option ModeCode × ℕ)). get_or es next d) e ∙
    get_or-map-range_with_len (λ next. with_length (pick mode_word mode_codes (number_text 7 next))) 0 128 next next d h (omega arith)

-- the code of an entry, and its length
pub entry_code : (o : Option ModeCode) → (with_length o).0 ≡ o
entry_code None = refl
entry_code (Some code) = refl

pub entry_length : (o : Option ModeCode) → IfSome (with_length o).0 (λ code. (with_length o).1 ≡ length (mode_word code))
entry_length None = tt
entry_length (Some code) = refl

-- each mode code has a bit, and at most 7
pub mode_some : (code : ModeCode) → (0 < length (mode_word code)) × (length (mode_word code) ≤ 7)
mode_some Pass = (omega arith, omega arith)
mode_some Horizontal = (omega arith, omega arith)
mode_some (Vertical V0) = (omega arith, omega arith)
mode_some (Vertical VR1) = (omega arith, omega arith)
mode_some (Vertical VR2) = (omega arith, omega arith)
mode_some (Vertical VR3) = (omega arith, omega arith)
mode_some (Vertical VL1) = (omega arith, omega arith)
mode_some (Vertical VL2) = (omega arith, omega arith)
mode_some (Vertical VL3) = (omega arith, omega arith)

-- the entry of the first 7 bits
mode_seen : (x : List Bool) (word : ℕ) (o : Option ModeCode) → AreFirst 7 x word
    → o ≡ pick mode_word mode_codes (number_text 7 (word / 2 ^ 57)) → o ≡ pick mode_word mode_codes (first_bits 7 x)
mode_seen x word o first e = e ∙ ap (pick mode_word mode_codes) (front_first 7 57 7 x word refl (omega arith) first)

-- a mode code that begins the bits is the one that is found
mode_begun : (x : List Bool) (code : ModeCode) → begins (mode_word code) x ≡ true → pick mode_word mode_codes (first_bits 7 x) ≡ Some code
mode_begun x code e = pick_begun mode_word mode_codes code (first_bits 7 x) modes_apart (mode_stands code)
    (begins_filled (mode_word code) x 7 (mode_some code).1 e)

-- where none is found none begins the bits
pub none_seen : (x : List Bool) (word : ℕ) (o : Option ModeCode) → AreFirst 7 x word
    → o ≡ pick mode_word mode_codes (number_text 7 (word / 2 ^ 57)) → o ≡ None → (code : ModeCode) → begins (mode_word code) x ≡ false
none_seen x word o first e none code = elim (cases_Bool (begins (mode_word code) x)) [
  | inl t ↦
      let both : None ≡ Some code = sym none ∙ (mode_seen x word o first e ∙ mode_begun x code t) in
      cc
  | inr f ↦ f
]

-- where the bits end inside the one that is found none begins them
pub cut_seen : (x : List Bool) (word : ℕ) (o : Option ModeCode) (found : ModeCode) → AreFirst 7 x word
    → o ≡ pick mode_word mode_codes (number_text 7 (word / 2 ^ 57)) → o ≡ Some found → length x < length (mode_word found)
    → (code : ModeCode) → begins (mode_word code) x ≡ false
cut_seen x word o found first e is short code = elim (cases_Bool (begins (mode_word code) x)) [
  | inl t ↦
      let both : Some found ≡ Some code = sym is ∙ (mode_seen x word o first e ∙ mode_begun x code t) in
      let same : found ≡ code = cc in
      absurd (omega (arith, short, begins_within (mode_word code) x t, ap (λ (c : ModeCode). length (mode_word c)) same))
  | inr f ↦ f
]

-- the one that is found begins the bits, where it isn't longer
pub found_seen : (x : List Bool) (word : ℕ) (o : Option ModeCode) (found : ModeCode) → AreFirst 7 x word
    → o ≡ pick mode_word mode_codes (number_text 7 (word / 2 ^ 57)) → o ≡ Some found → length (mode_word found) ≤ length x
    → begins (mode_word found) x ≡ true
found_seen x word o found first e is fits =
    let seen : pick mode_word mode_codes (first_bits 7 x) ≡ Some found = sym (mode_seen x word o first e) ∙ is in
    begins_unfilled (mode_word found) x 7 (mode_some found).1 fits (pick_begins mode_word mode_codes found (first_bits 7 x) seen).1
