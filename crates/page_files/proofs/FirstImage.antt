-- The images of a file, of which the first alone is kept: several are refused.
use Rattle.std.proofs.Common.{◌≡◌, ◌≢◌, ◌≤◌, ℕ, suc, Bool, false, List, [], ◌∷◌, length, refl, ◌∙◌, arith, inr, sym}
use Rattle.std.specs.Prelude.{Option, Some, None, IfSome}
use Rattle.raster.specs.Pages.{PagePixels}
use Rattle.raster.specs.Pbm.{AreImages, BeginsImages}
use Rattle.page_files.specs.CodedPages.{RefusesImage}
use Rattle.faults.specs.declared.fault.ToolFault.TheVariants.{No}

several : (octets : List ℕ) (page : PagePixels) (count : ℕ) → BeginsImages false octets page count → count ≢ 1
    → RefusesImage octets (No 27)
several octets page count b more =
    let many : 2 ≤ length (page ∷ b.later) = two (length (page ∷ b.later)) (length b.later) refl (λ e. more (b.count_is ∙ e)) in
    inr (inr (page ∷ b.later, b.are, many, refl))
  where
    two : (n m : ℕ) → n ≡ suc m → n ≢ 1 → 2 ≤ n
    two n m e h = omega arith

pub are_several : (octets : Option (List ℕ)) (page : PagePixels) (count : ℕ)
    → IfSome octets (λ octets. BeginsImages false octets page count) → count ≢ 1 → IfSome octets (λ octets. RefusesImage octets (No 27))
are_several None page count b more = tt
are_several (Some octets) page count b more = several octets page count b more

-- the only image is the first one
is_alone : (fine : Bool) (octets : List ℕ) (page : PagePixels) (later : List PagePixels) → AreImages fine octets (page ∷ later)
    → 1 ≡ length (page ∷ later) → AreImages fine octets (page ∷ [])
is_alone fine octets page [] are one = are
is_alone fine octets page (other ∷ later) are one = absurd (more one)
  where
    more : 1 ≢ suc (suc (length later))
    more e = omega (arith, e)

pub is_one : (known : Option (List ℕ)) (page : PagePixels) (count : ℕ) → IfSome known (λ octets. BeginsImages false octets page count)
    → count ≡ 1 → IfSome known (λ octets. AreImages false octets (page ∷ []))
is_one None page count begins one = tt
is_one (Some octets) page count begins one = is_alone false octets page begins.later begins.are (sym one ∙ begins.count_is)
