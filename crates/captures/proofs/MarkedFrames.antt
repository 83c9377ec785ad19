-- The frames that are marked in a map, one bit after the other.
use Rattle.std.proofs.Common.{◌≡◌, ℕ, ◌+◌, List, [], ◌∷◌, Bool, ap, sym, ◌∙◌, refl}
use Rattle.std.specs.List.{fold}
use Rattle.std.proofs.lemmas.List.Sums.{fold-append}
use Rattle.raster.specs.Packed.{bit_in, bits_in}
use Rattle.raster.specs.declared.packed.Order.TheVariants.{LsbFirst}
use Rattle.raster.proofs.PackedLemmas.{bits_in_more}
use Rattle.captures.specs.Texts.{and_bit}

-- one bit on
pub one_frame_more : (map : List ℕ) (place count : ℕ) → count ≡ fold and_bit 0 (bits_in LsbFirst map place)
    → and_bit count (bit_in LsbFirst map place) ≡ fold and_bit 0 (bits_in LsbFirst map (place + 1))
one_frame_more map place count is =
    let bits : List Bool = bits_in LsbFirst map place in
    let bit : Bool = bit_in LsbFirst map place in
    ap (λ n. and_bit n bit) is
    ∙ (sym (fold-append and_bit 0 bits (bit ∷ [])) ∙ ap (fold and_bit 0) (sym (bits_in_more LsbFirst map map place bit (λ j h. refl) refl)))
