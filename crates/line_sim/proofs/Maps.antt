-- The map of a PPR is 32 octets.
use Rattle.std.proofs.Common.{◌≡◌, ℕ, ◌+◌, ◌*◌, Bool, false, List, length, replicate, map, sym, ap, ◌∙◌, arith}
use Rattle.std.specs.List.{range_with_len}
use Rattle.std.proofs.lemmas.List.{length-append, length-replicate}
use Rattle.std.proofs.lemmas.List.FromFn.{length-map-range_with_len}
use Rattle.raster.specs.declared.packed.Order.TheVariants.{LsbFirst}
use Rattle.raster.proofs.PackedLemmas.{length-bits_in}
use Rattle.partial_page.specs.Store.{is_marked}
use Rattle.raster.specs.Octets.{packed, fill_of}
use Rattle.raster.proofs.OctetLemmas.{bits_of-packed}
use Rattle.partial_page.specs.Assembling.{Frames, ppr_map}

length_packed : (bits : List Bool) → length bits ≡ 256 → length (packed bits) ≡ 32
length_packed bits size =
    let fill : fill_of (length bits) ≡ 0 = ap fill_of size in
    let all : 8 * length (packed bits) ≡ length bits + fill_of (length bits) =
    sym (length-bits_in LsbFirst (packed bits) (8 * length (packed bits))) ∙
    (ap length (bits_of-packed bits) ∙ (length-append bits (replicate (fill_of (length bits)) false) ∙
    ap (λ n. length bits + n) (length-replicate (fill_of (length bits)) false))) in
    omega (arith, all, fill, size)

pub length_ppr_map : (frames : Frames) (last : ℕ) → length (ppr_map frames last) ≡ 32
unfolding ppr_map
length_ppr_map frames last = length_packed (map (λ n. is_marked frames last n) (range_with_len 0 256))
    (length-map-range_with_len (λ n. is_marked frames last n) 0 256)
