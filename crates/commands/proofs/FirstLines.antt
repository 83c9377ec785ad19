-- The first line of a text, and a name without its first octet.
use Rattle.std.proofs.Common.{◌≡◌, ◌∙◌, ◌<◌, ◌∷◌, ◌==◌, ℕ, Bool, true, false, List, [], ap, arith, cond, eqb-true, length, refl, subst, sym}
use Rattle.std.proofs.lemmas.List.{take_all}
use Rattle.std.proofs.lemmas.Str.{IsCharBoundary-after_ascii, IsUtf8-drop, IsUtf8-from_is_utf8, is_utf8-from_IsUtf8}
use Rattle.std.specs.List.{before_first, position_or_len}
use Rattle.std.specs.Prelude.{IsUtf8, if◌then◌else◌, nat_eq}
use Rattle.std.specs.Str.{is_utf8}
use Rattle.commands.specs.Names.{escaped_after, is_untold, record_name, shown_name}
use Rattle.commands.specs.SeveralLines.{first_line}

false_unless : (b : Bool) → ¬ (b ≡ true) → b ≡ false
false_unless false not-so = refl
false_unless true not-so = absurd (not-so refl)

-- of octets that aren't UTF-8 there is none
pub no_line : (text : List ℕ) → ¬ IsUtf8 text → [] ≡ first_line text
no_line text not-so = sym (ap (λ b. cond b (before_first (λ octet. octet == 10) text) [])
    (false_unless (is_utf8 text) (λ so. not-so (IsUtf8-from_is_utf8 text so))))

-- a text before its first line feed
pub line_before : (text line : List ℕ) → IsUtf8 text → line ≡ before_first (λ octet. octet == 10) text → line ≡ first_line text
line_before text line utf8 is = is ∙ sym (ap (λ b. cond b (before_first (λ octet. octet == 10) text) []) (is_utf8-from_IsUtf8 text utf8))

-- a text without one
pub whole_line : (text : List ℕ) → IsUtf8 text → position_or_len (λ octet. octet == 10) text ≡ length text → text ≡ first_line text
whole_line text utf8 none = line_before text text utf8 (sym (take_all (position_or_len (λ octet. octet == 10) text) text (omega (arith, none))))

-- a name of UTF-8 as records have it
pub own_name : (name : List ℕ) → is_untold name ≡ false → record_name name ≡ name
own_name [] told = refl
own_name (first ∷ octets) told = ap (λ b. if b then octets else first ∷ octets) told

-- another one
pub shown_in_record : (name : List ℕ) → is_untold name ≡ true → record_name name ≡ shown_name name
shown_in_record [] untold = absurd (cc)
shown_in_record (first ∷ octets) untold = ap (λ b. if b then octets else first ∷ octets) untold
    ∙ sym (ap (λ b. if b then octets else escaped_after 0 (first ∷ octets)) untold)

after_zero : (first : ℕ) (octets : List ℕ) → first < 128 → IsUtf8 (first ∷ octets) → IsUtf8 octets
after_zero first octets ascii all = IsUtf8-drop (first ∷ octets) 1 all (IsCharBoundary-after_ascii (first ∷ octets) 0 all (omega arith) ascii)

-- what is shown of it is UTF-8, since it is
pub untold_utf8 : (name : List ℕ) → IsUtf8 name → is_untold name ≡ true → IsUtf8 (shown_name name)
untold_utf8 [] all untold = absurd (cc)
untold_utf8 (first ∷ octets) all untold =
    let zero-is : first ≡ 0 = eqb-true first 0 untold in
    subst IsUtf8 (sym (ap (λ b. if b then octets else escaped_after 0 (first ∷ octets)) untold))
    (after_zero first octets (omega (arith, zero-is)) all)
