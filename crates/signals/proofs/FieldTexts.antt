-- The texts of the speeds, modems and widths.
use Rattle.std.proofs.Common.{◌≡◌, ℕ, Bool, true, false, ◌||◌, nat_eq, List, [], ◌∷◌, get_or, Some, refl, sym, ◌∙◌, ap, subst}
use Rattle.std.specs.Bool.{beq}
use Rattle.signals.proofs.AgreementLemmas.{speed_at, place_tells}
use Rattle.signals.proofs.EachValue.{all_speeds, each_speed, all_modems, each_modems, all_widths, each_width, all_bits, each_bit}
use Rattle.signals.proofs.ValueNumbers.{same_value, is_found, found, is-found}
use Rattle.signals.proofs.SendingLemmas.{same_bits, same-bit, same-bits}
use Rattle.signals.specs.Agreement.{place_of_speed}
use Rattle.signals.specs.Reading.{modems_of, speed_of, width_of}
use Rattle.signals.specs.Sending.{digits, modems_text, speed_text, width_text, SpeedsHaveTexts, ModemsHaveTexts, WidthsHaveTexts}
use Rattle.signals.specs.declared.params.Modems.{Modems}
use Rattle.signals.specs.declared.params.Modems.TheVariants.{Fallback, V27, V29, V27V29, V17}
use Rattle.signals.specs.declared.params.PageWidth.{PageWidth}
use Rattle.signals.specs.declared.params.PageWidth.TheVariants.{W1728, W2048, W2432}
use Rattle.signals.specs.declared.params.Speed.{Speed}

pub bits-self : (xs : List Bool) → same_bits xs xs ≡ true
bits-self [] = refl
bits-self (true ∷ xs) = bits-self xs
bits-self (false ∷ xs) = bits-self xs

pub bits-same : (xs ys : List Bool) → xs ≡ ys → same_bits xs ys ≡ true
bits-same xs ys e = subst (λ zs. same_bits xs zs ≡ true) e (bits-self xs)

abbrev pub speed_agrees : Bool → Bool → Bool → Bool → Speed → Bool
speed_agrees a b c d speed =
    beq (is_found place_of_speed speed (speed_of a b c d)) (same_bits (a ∷ b ∷ c ∷ d ∷ []) (digits (speed_text speed)))

pub speed-agrees : (a b c d : Bool) (speed : Speed) → is_found place_of_speed speed (speed_of a b c d) ≡ same_bits (a ∷ b ∷ c ∷ d ∷ [])
    (digits (speed_text speed))
speed-agrees a b c d speed =
    same-bit _ _
    (each_speed (λ s. speed_agrees a b c d s)
    (each_bit (λ w. all_speeds (λ s. speed_agrees a b c w s))
    (each_bit (λ z. all_bits (λ w. all_speeds (λ s. speed_agrees a b z w s)))
    (each_bit (λ y. all_bits (λ z. all_bits (λ w. all_speeds (λ s. speed_agrees a y z w s))))
    (each_bit (λ x. all_bits (λ y. all_bits (λ z. all_bits (λ w. all_speeds (λ s. speed_agrees x y z w s))))) refl a)
    b) c) d) speed)

pub speeds-have-texts : SpeedsHaveTexts
speeds-have-texts a b c d speed = (
  λ found_so. same-bits _ _ (sym (speed-agrees a b c d speed) ∙ is-found place_of_speed speed (speed_of a b c d) found_so),
  λ text. found place_of_speed speed_at place_tells speed (speed_of a b c d) (speed-agrees a b c d speed ∙ bits-same _ _ text),
)

abbrev pub place_of_modems : Modems → ℕ
place_of_modems Fallback = 0
place_of_modems V27 = 1
place_of_modems V29 = 2
place_of_modems V27V29 = 3
place_of_modems V17 = 4

abbrev pub modems_at : ℕ → Modems
modems_at n = get_or (Fallback ∷ V27 ∷ V29 ∷ V27V29 ∷ V17 ∷ []) n Fallback

pub place-tells_modems : (modems : Modems) → modems_at (place_of_modems modems) ≡ modems
place-tells_modems Fallback = refl
place-tells_modems V27 = refl
place-tells_modems V29 = refl
place-tells_modems V27V29 = refl
place-tells_modems V17 = refl

abbrev pub is_fallback : Modems → Bool
is_fallback modems = nat_eq (place_of_modems modems) 0

abbrev pub modems_agree : Bool → Bool → Bool → Bool → Modems → Bool
modems_agree a b c d modems =
    is_fallback modems || beq (is_found place_of_modems modems (Some (modems_of a b c d)))
    (same_bits (a ∷ b ∷ c ∷ d ∷ []) (digits (modems_text modems)))

pub other_one : (first second : Bool) → (first || second) ≡ true → first ≡ false → second ≡ true
other_one true second e f = cc
other_one false second e f = e

pub modems-agree : (a b c d : Bool) (modems : Modems) → is_fallback modems ≡ false
    → is_found place_of_modems modems (Some (modems_of a b c d)) ≡ same_bits (a ∷ b ∷ c ∷ d ∷ []) (digits (modems_text modems))
modems-agree a b c d modems other =
    same-bit _ _
    (other_one (is_fallback modems) _
    (each_modems (λ m. modems_agree a b c d m)
    (each_bit (λ w. all_modems (λ m. modems_agree a b c w m))
    (each_bit (λ z. all_bits (λ w. all_modems (λ m. modems_agree a b z w m)))
    (each_bit (λ y. all_bits (λ z. all_bits (λ w. all_modems (λ m. modems_agree a y z w m))))
    (each_bit (λ x. all_bits (λ y. all_bits (λ z. all_bits (λ w. all_modems (λ m. modems_agree x y z w m))))) refl a)
    b) c) d) modems) other)

pub not-fallback : (modems : Modems) → (modems ≡ Fallback → ⊥) → is_fallback modems ≡ false
not-fallback Fallback h = absurd (h refl)
not-fallback V27 h = refl
not-fallback V29 h = refl
not-fallback V27V29 h = refl
not-fallback V17 h = refl

pub modems-have-texts : ModemsHaveTexts
modems-have-texts a b c d modems other = (
  λ found_so. same-bits _ _ (sym (modems-agree a b c d modems (not-fallback modems other))
      ∙ is-found place_of_modems modems (Some (modems_of a b c d)) (ap Some found_so)),
  λ text. same_value place_of_modems modems_at place-tells_modems (modems_of a b c d) modems
      (modems-agree a b c d modems (not-fallback modems other) ∙ bits-same _ _ text),
)

abbrev pub place_of_width : PageWidth → ℕ
place_of_width W1728 = 0
place_of_width W2048 = 1
place_of_width W2432 = 2

abbrev pub width_at : ℕ → PageWidth
width_at n = get_or (W1728 ∷ W2048 ∷ W2432 ∷ []) n W1728

pub place-tells_width : (width : PageWidth) → width_at (place_of_width width) ≡ width
place-tells_width W1728 = refl
place-tells_width W2048 = refl
place-tells_width W2432 = refl

abbrev pub width_agrees : Bool → Bool → PageWidth → Bool
width_agrees a b width = beq (is_found place_of_width width (width_of a b)) (same_bits (a ∷ b ∷ []) (digits (width_text width)))

pub width-agrees : (a b : Bool) (width : PageWidth) → is_found place_of_width width (width_of a b) ≡ same_bits (a ∷ b ∷ [])
    (digits (width_text width))
width-agrees a b width =
    same-bit _ _
    (each_width (λ w. width_agrees a b w)
    (each_bit (λ y. all_widths (λ w. width_agrees a y w)) (each_bit (λ x. all_bits (λ y. all_widths (λ w. width_agrees x y w))) refl a) b)
    width)

pub widths-have-texts : WidthsHaveTexts
widths-have-texts a b width = (
  λ found_so. same-bits _ _ (sym (width-agrees a b width) ∙ is-found place_of_width width (width_of a b) found_so),
  λ text. found place_of_width width_at place-tells_width width (width_of a b) (width-agrees a b width ∙ bits-same _ _ text),
)
