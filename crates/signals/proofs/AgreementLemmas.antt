-- Lemmas on speeds and agreement.
use Rattle.std.proofs.Common.{◌≡◌, ℕ, Bool, true, false, cond, not, ◌&&◌, ◌||◌, nat_eq, nat_le, List, [], ◌∷◌, Option, Some, None, Err}
use Rattle.std.proofs.Common.{IfOk, get_or, refl, sym, ◌∙◌, ap, subst, inl, inr}
use Rattle.std.proofs.lemmas.Bool.{cases_Bool, and_parts, eqb-true}
use Rattle.signals.proofs.ValueNumbers.{same_value}
use Rattle.std.specs.List.{filter, find}
use Rattle.raster.specs.declared.coding.Coding.{Coding}
use Rattle.raster.specs.declared.coding.Coding.TheVariants.{OneDim, T6}
use Rattle.signals.specs.Agreement.{place_of_speed, pixels_of, supports_speed, common_speed, tried_speeds, speed_order, first_of}
use Rattle.signals.specs.Agreement.{after_speed, lower_speed, wished_coding, agreed_coding, takes_pages, at_first, offers_coding, allowed}
use Rattle.signals.specs.Agreement.{AgreedIsAllowed, AgreedFits, LoweredIsAllowed, width_of_pixels, WidthsHavePixels}
use Rattle.signals.specs.declared.params.Caps.{Caps}
use Rattle.signals.specs.declared.params.PageWidth.{PageWidth}
use Rattle.signals.specs.declared.params.PageWidth.TheVariants.{W1728, W2048, W2432}
use Rattle.signals.specs.declared.params.Speed.{Speed}
use Rattle.signals.specs.declared.params.Speed.TheVariants.{V27At2400, V27At4800, V29At7200, V29At9600, V17At7200, V17At9600, V17At12000}
use Rattle.signals.specs.declared.params.Speed.TheVariants.{V17At14400}
use Rattle.signals.specs.declared.params.Wish.{Wish}

-- the speed at a place
abbrev pub speed_at : ℕ → Speed
speed_at n = get_or (V27At2400 ∷ V27At4800 ∷ V29At7200 ∷ V29At9600 ∷ V17At7200 ∷ V17At9600 ∷ V17At12000 ∷ V17At14400 ∷ []) n V27At2400

pub place_tells : (speed : Speed) → speed_at (place_of_speed speed) ≡ speed
place_tells V27At2400 = refl
place_tells V27At4800 = refl
place_tells V29At7200 = refl
place_tells V29At9600 = refl
place_tells V17At7200 = refl
place_tells V17At9600 = refl
place_tells V17At12000 = refl
place_tells V17At14400 = refl

pub same_speed : (a b : Speed) → nat_eq (place_of_speed a) (place_of_speed b) ≡ true → a ≡ b
same_speed = same_value place_of_speed speed_at place_tells

pub after-filter : (p : Speed → Bool) (speed : Speed) (xs : List Speed) → p speed ≡ true
    → after_speed speed (filter p xs) ≡ filter p (after_speed speed xs)
after-filter p speed [] tried = refl
after-filter p speed (x ∷ xs) tried =
    elim (cases_Bool (nat_eq (place_of_speed x) (place_of_speed speed))) [
      | inl same ↦ rw (ap p (same_speed x speed same) ∙ tried, same) refl
      | inr other ↦
          elim (cases_Bool (p x)) [
            | inl kept ↦ rw (kept, other) (after-filter p speed xs tried)
            | inr left ↦ rw (left, other) (after-filter p speed xs tried)
          ]
    ]

pub after-filtered : (p : Speed → Bool) (speed : Speed) (xs : List Speed) → p speed ≡ false → after_speed speed (filter p xs) ≡ []
after-filtered p speed [] untried = refl
after-filtered p speed (x ∷ xs) untried =
    elim (cases_Bool (p x)) [
      | inr left ↦ rw left (after-filtered p speed xs untried)
      | inl kept ↦
          elim (cases_Bool (nat_eq (place_of_speed x) (place_of_speed speed))) [
            | inl same ↦ let e : true ≡ false = sym kept ∙ ap p (same_speed x speed same) ∙ untried in cc
            | inr other ↦ rw (kept, other) (after-filtered p speed xs untried)
          ]
    ]

pub first_filtered : (p : Speed → Bool) (xs : List Speed) → first_of (filter p xs) ≡ find p xs
first_filtered p [] = refl
first_filtered p (x ∷ xs) = elim (cases_Bool (p x)) [ inl kept ↦ rw kept refl | inr left ↦ rw left (first_filtered p xs) ]

pub lower-tried : (caps : Caps) (wish : Wish) (speed : Speed) → common_speed wish.modems caps.modems speed ≡ true →
    lower_speed caps wish speed ≡ find (common_speed wish.modems caps.modems) (after_speed speed (speed_order wish.modems caps.modems))
unfolding lower_speed
lower-tried caps wish speed tried =
    ap first_of (after-filter (common_speed wish.modems caps.modems) speed (speed_order wish.modems caps.modems) tried)
    ∙ first_filtered (common_speed wish.modems caps.modems) (after_speed speed (speed_order wish.modems caps.modems))

pub lower-untried : (caps : Caps) (wish : Wish) (speed : Speed) → common_speed wish.modems caps.modems speed ≡ false
    → lower_speed caps wish speed ≡ None
unfolding lower_speed
lower-untried caps wish speed untried =
    ap first_of (after-filtered (common_speed wish.modems caps.modems) speed (speed_order wish.modems caps.modems) untried)

pub first-passes : (p : Speed → Bool) (xs : List Speed) (speed : Speed) → first_of (filter p xs) ≡ Some speed → p speed ≡ true
first-passes p [] speed first = cc
first-passes p (x ∷ xs) speed first =
    elim (cases_Bool (p x)) [
      | inl kept ↦ let e : Some x ≡ Some speed = rw kept at first in let same : x ≡ speed = cc in ap p (sym same) ∙ kept
      | inr left ↦ first-passes p xs speed (rw left at first)
    ]

pub offers-wished : (caps : Caps) (wish : Wish) → offers_coding caps (agreed_coding caps wish) ≡ true
offers-wished caps wish = offers caps wish.coding caps.t6 refl
  where
    offers : (caps : Caps) (coding : Coding) (t6 : Bool) → caps.t6 ≡ t6 → offers_coding caps (wished_coding coding t6) ≡ true
    offers caps OneDim t6 e = refl
    offers caps T6 true e = e
    offers caps T6 false e = refl

pub agreed-allowed : AgreedIsAllowed
agreed-allowed caps wish width fine = decided (takes_pages caps width fine) (first_of (tried_speeds wish.modems caps.modems)) refl refl
  where
    decided : (takes : Bool) (first : Option Speed) → takes_pages caps width fine ≡ takes → first_of (tried_speeds wish.modems caps.modems)
        ≡ first →
        IfOk (cond takes (at_first first caps wish width fine) (Err (record {}))) (λ params. allowed caps params ≡ true)
    decided true None e f = tt
    decided true (Some speed) e f =
        let fineness = and_parts ((caps.receiver && caps.ecm) && nat_le (pixels_of width) (pixels_of caps.widest))
        (not fine || caps.fine) e in
        let widths = and_parts (caps.receiver && caps.ecm) (nat_le (pixels_of width) (pixels_of caps.widest)) fineness.0 in
        let common =
        and_parts (supports_speed wish.modems speed) (supports_speed caps.modems speed)
        (first-passes (common_speed wish.modems caps.modems) (speed_order wish.modems caps.modems) speed f) in
        rw (common.1, widths.1, fineness.1, offers-wished caps wish) refl
    decided false first e f = tt

pub agreed-fits : AgreedFits
agreed-fits caps wish width fine = decided (takes_pages caps width fine) (first_of (tried_speeds wish.modems caps.modems))
  where
    decided : (takes : Bool) (first : Option Speed) →
        IfOk (cond takes (at_first first caps wish width fine) (Err (record {}))) (λ params. (params.width ≡ width) × (params.fine ≡ fine))
    decided true None = tt
    decided true (Some speed) = (refl, refl)
    decided false first = tt

pub after-passes : (p : Speed → Bool) (from : Speed) (xs : List Speed) (speed : Speed) →
    first_of (after_speed from (filter p xs)) ≡ Some speed → p speed ≡ true
after-passes p from [] speed first = cc
after-passes p from (x ∷ xs) speed first =
    elim (cases_Bool (p x)) [
      | inr left ↦ after-passes p from xs speed (rw left at first)
      | inl kept ↦
          let later : first_of (cond (nat_eq (place_of_speed x) (place_of_speed from)) (filter p xs) (after_speed from (filter p xs)))
          ≡ Some speed =
          rw kept at first in
          elim (cases_Bool (nat_eq (place_of_speed x) (place_of_speed from))) [
            | inl same ↦ first-passes p xs speed (rw same at later)
            | inr other ↦ after-passes p from xs speed (rw other at later)
          ]
    ]

pub lowered-allowed : LoweredIsAllowed
unfolding lower_speed
lowered-allowed caps wish params next allows lowered =
    let common = and_parts (supports_speed wish.modems next) (supports_speed caps.modems next)
    (after-passes (common_speed wish.modems caps.modems) params.speed (speed_order wish.modems caps.modems) next lowered) in
    let has_speed = supports_speed caps.modems params.speed in
    let is_narrow = nat_le (pixels_of params.width) (pixels_of caps.widest) in
    let has_lines = not params.fine || caps.fine in
    let parts = and_parts ((has_speed && is_narrow) && has_lines) (offers_coding caps params.coding) allows in
    let lines = and_parts (has_speed && is_narrow) has_lines parts.0 in
    let widths = and_parts has_speed is_narrow lines.0 in
    rw (common.1, widths.1, lines.1, parts.1) refl

pub widths-have-pixels : WidthsHavePixels
widths-have-pixels pixels width = (λ e. pixels-of pixels width e, λ e. subst (λ n. width_of_pixels n ≡ Some width) e (width-back width))
  where
    width-back : (width : PageWidth) → width_of_pixels (pixels_of width) ≡ Some width
    width-back W1728 = refl
    width-back W2048 = refl
    width-back W2432 = refl

    only : (found width : PageWidth) (pixels : ℕ) → nat_eq pixels (pixels_of found) ≡ true → Some found ≡ Some width
        → pixels_of width ≡ pixels
    only found width pixels same e = let is : found ≡ width = cc in ap pixels_of (sym is) ∙ sym (eqb-true pixels (pixels_of found) same)

    pixels-of : (pixels : ℕ) (width : PageWidth) → width_of_pixels pixels ≡ Some width → pixels_of width ≡ pixels
    pixels-of pixels width e =
        elim (cases_Bool (nat_eq pixels 1728)) [
          | inl a ↦ only W1728 width pixels a (rw a at e)
          | inr a ↦
              let later : cond (nat_eq pixels 2048) (Some W2048) (cond (nat_eq pixels 2432) (Some W2432) None) ≡ Some width = rw a at e in
              elim (cases_Bool (nat_eq pixels 2048)) [
                | inl b ↦ only W2048 width pixels b (rw b at later)
                | inr b ↦
                    let last : cond (nat_eq pixels 2432) (Some W2432) None ≡ Some width = rw b at later in
                    elim (cases_Bool (nat_eq pixels 2432)) [
                      | inl c ↦ only W2432 width pixels c (rw c at last)
                      | inr c ↦ let none : None ≡ Some width = rw c at last in cc
                    ]
              ]
        ]
