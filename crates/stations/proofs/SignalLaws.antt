-- What is agreed, what is tried, and what is written, by the laws of signals.
use Rattle.std.proofs.Common.{◌≡◌, suc, ◌+◌, ◌*◌, ◌≤◌, Bool, true, false, nat_eq, Option, Some, None, Ok, Err, Result, IfOk, refl, ap, sym}
use Rattle.std.proofs.Common.{subst, ◌∙◌, arith}
use Rattle.std.specs.Bool.{beq}
use Rattle.std.specs.Option.{option_map}
use Rattle.std.proofs.lemmas.Bool.{and_parts, le-leb, eqb-true}
use Rattle.raster.specs.Pages.{PagePixels}
use Rattle.signals.specs.Agreement.{pixels_of, agreed, allowed, lower_speed, speeds_below, BeginsAtMostFiveAbove, GoesDownByOne}
use Rattle.signals.specs.Agreement.{AgreedIsAllowed, AgreedFits, WidthsHavePixels, width_of_pixels}
use Rattle.signals.specs.Training.{training_octets, longest_zeros, TrainingChecksAreGood}
use Rattle.signals.specs.declared.agreement.NotCompatible.{NotCompatible}
use Rattle.signals.specs.declared.params.Caps.{Caps}
use Rattle.signals.specs.declared.params.PageWidth.{PageWidth}
use Rattle.signals.specs.declared.params.Params.{Params}
use Rattle.signals.specs.declared.params.Speed.{Speed}
use Rattle.signals.specs.declared.params.Wish.{Wish}
use Rattle.stations.specs.Layers.{in_one_group, if_agreed, agreed_at, agreed_for, lowered, speeds_left, training, is_good_training}
use Rattle.stations.specs.Laws.{SignalsHold, SpeedsHold}

-- how parameters come to be agreed for a page
record IsAgreed (caps : Caps) (wish : Wish) (page : PagePixels) (params : Params) : Type 0 where
  width : PageWidth
  named : width_of_pixels page.width ≡ Some width
  agreed_so : agreed caps wish width page.fine ≡ Ok params

is_agreed :
    (caps : Caps) (wish : Wish) (page : PagePixels) (params : Params) → agreed_for caps wish (Some page) ≡ Some params →
    IsAgreed caps wish page params
unfolding agreed_for
is_agreed caps wish page params h = at (width_of_pixels page.width) refl h
  where
    given : (r : Result Params NotCompatible) → if_agreed r ≡ Some params → r ≡ Ok params
    given (Ok other) e = let same : other ≡ params = cc in ap Ok same
    given (Err refused) e = cc

    at :
        (w : Option PageWidth) → width_of_pixels page.width ≡ w → agreed_at caps wish w page.fine ≡ Some params →
        IsAgreed caps wish page params
    at None e h = cc
    at (Some width) e h = record { width = width; named = e; agreed_so = given (agreed caps wish width page.fine) h }

beq_same : (a b : Bool) → beq a b ≡ true → a ≡ b
beq_same true true e = refl
beq_same true false e = cc
beq_same false true e = cc
beq_same false false e = refl

lower_is :
    (caps : Caps) (wish : Wish) (params next : Params) → lowered caps wish params ≡ Some next →
    (speed : Speed) × (lower_speed caps wish params.speed ≡ Some speed) × (next ≡ record params { speed = speed })
unfolding lowered
lower_is caps wish params next h = at (lower_speed caps wish params.speed) refl h
  where
    at : (o : Option Speed) → lower_speed caps wish params.speed ≡ o → option_map (λ speed. record params { speed = speed }) o ≡ Some next →
        (speed : Speed) × (lower_speed caps wish params.speed ≡ Some speed) × (next ≡ record params { speed = speed })
    at None e h = cc
    at (Some speed) e h = (speed, e, cc)

alike_parts : (page next : PagePixels) → in_one_group page next ≡ true → (page.width ≡ next.width) × (page.fine ≡ next.fine)
unfolding in_one_group
alike_parts page next h =
    let parts = and_parts (nat_eq page.width next.width) (beq page.fine next.fine) h in
    (eqb-true page.width next.width parts.0, beq_same page.fine next.fine parts.1)

good_check : TrainingChecksAreGood → (params : Params) → is_good_training (training params) params ≡ true
unfolding is_good_training training
good_check checks params = le-leb (training_octets params.speed) (2 * longest_zeros (training params)) (checks params.speed)

pub signals_hold_by : AgreedIsAllowed → AgreedFits → WidthsHavePixels → TrainingChecksAreGood → SignalsHold
signals_hold_by allows fits_so widths checks = record {
  agreed_allowed = λ caps wish page params h.
      let so = is_agreed caps wish page params h in
      let law : allowed caps params ≡ true = subst
      (λ (r : Result Params NotCompatible). IfOk r (λ params. allowed caps params ≡ true)) so.agreed_so
      (allows caps wish so.width page.fine) in law;
  agreed_fits = λ caps wish page params h.
      let so = is_agreed caps wish page params h in
      let fields : (params.width ≡ so.width) × (params.fine ≡ page.fine) = subst
      (λ (r : Result Params NotCompatible). IfOk r (λ params. (params.width ≡ so.width) × (params.fine ≡ page.fine))) so.agreed_so
      (fits_so caps wish so.width page.fine) in
      record { wide = sym ((widths page.width so.width).0 so.named) ∙ ap pixels_of (sym fields.0); fineness = sym fields.1 };
  lowered_fits = λ caps wish page params next h fits.
      let low = lower_is caps wish params next h in
      record {
        wide = fits.wide ∙ ap (λ (p : Params). pixels_of p.width) (sym low.2);
        fineness = fits.fineness ∙
            ap (λ (p : Params). p.fine) (sym low.2);
      };
  alike_fits = λ params page next h fits.
      let parts = alike_parts page next h in
      record { wide = sym parts.0 ∙ fits.wide; fineness = sym parts.1 ∙ fits.fineness };
  good = good_check checks;
}

none_agreed : (caps : Caps) (wish : Wish) (params : Params) → agreed_for caps wish None ≡ Some params → ⊥
unfolding agreed_for
none_agreed caps wish params e = cc

first_speeds :
    BeginsAtMostFiveAbove → (caps : Caps) (wish : Wish) (page : Option PagePixels) (params : Params) →
    agreed_for caps wish page ≡ Some params → speeds_left caps wish params ≤ 5
unfolding speeds_left
first_speeds begins caps wish None params h = absurd (none_agreed caps wish params h)
first_speeds begins caps wish (Some page) params h =
    let so = is_agreed caps wish page params h in
    let law : speeds_below wish.modems caps.modems params.speed ≤ 5 =
    subst (λ (r : Result Params NotCompatible). IfOk r (λ params. speeds_below wish.modems caps.modems params.speed ≤ 5)) so.agreed_so
    (begins caps wish so.width page.fine) in law

next_speeds :
    GoesDownByOne → (caps : Caps) (wish : Wish) (params lower : Params) → lowered caps wish params ≡ Some lower →
    suc (speeds_left caps wish lower) ≡ speeds_left caps wish params
unfolding speeds_left
next_speeds down caps wish params lower h =
    let low = lower_is caps wish params lower h in
    let same : speeds_below wish.modems caps.modems lower.speed ≡ speeds_below wish.modems caps.modems low.0 =
    ap (λ (p : Params). speeds_below wish.modems caps.modems p.speed) low.2 in
    let one : speeds_below wish.modems caps.modems low.0 + 1 ≡ speeds_below wish.modems caps.modems params.speed =
    down caps wish params.speed low.0 low.1 in
    omega arith

pub speeds_hold_by : BeginsAtMostFiveAbove → GoesDownByOne → SpeedsHold
speeds_hold_by begins down = record { first = first_speeds begins; next = next_speeds down }
