-- The map of a PPR, bit by bit: it has 32 octets, and the bit of each of the 256 numbers.
use Rattle.std.proofs.Common.{◌≡◌, ℕ, ◌+◌, ◌*◌, ◌<◌, ◌++◌, Bool, true, false, List, length, replicate, map, sym, ap, ◌∙◌, arith}
use Rattle.std.specs.Prelude.{slice_index_or}
use Rattle.std.specs.List.{range_with_len}
use Rattle.std.proofs.lemmas.List.{append-nil, length-append, length-replicate}
use Rattle.std.proofs.lemmas.List.FromFn.{length-map-range_with_len, get_or-map-range_with_len}
use Rattle.raster.specs.Octets.{packed, fill_of}
use Rattle.raster.specs.Packed.{bit_in, bits_in, bits_of}
use Rattle.raster.specs.declared.packed.Order.TheVariants.{LsbFirst}
use Rattle.raster.proofs.OctetLemmas.{bits_of-packed}
use Rattle.raster.proofs.PackedLemmas.{length-bits_in}
use Rattle.partial_page.specs.Store.{bit_of, is_marked}
use Rattle.partial_page.specs.Assembling.{Frames, ppr_map}

length_packed : (bits : List Bool) → length bits ≡ 256 → length (packed bits) ≡ 32
length_packed bits size =
    let fill : fill_of (length bits) ≡ 0 = ap fill_of size in
    let all : 8 * length (packed bits) ≡ length bits + fill_of (length bits) =
    sym (length-bits_in LsbFirst (packed bits) (8 * length (packed bits))) ∙
    (ap length (bits_of-packed bits) ∙ (length-append bits (replicate (fill_of (length bits)) false) ∙
    ap (λ n. length bits + n) (length-replicate (fill_of (length bits)) false))) in
    omega (arith, all, fill, size)

pub length_map : (frames : Frames) (last : ℕ) → length (ppr_map frames last) ≡ 32
unfolding ppr_map
length_map frames last = length_packed (map (λ n. is_marked frames last n) (range_with_len 0 256))
    (length-map-range_with_len (λ n. is_marked frames last n) 0 256)

-- a number's bit is 1 where its frame is missing, and above the last one
pub bit_in_map : (frames : Frames) (last n : ℕ) → n < 256 → bit_of (ppr_map frames last) n ≡ is_marked frames last n
unfolding ppr_map bits_in
bit_in_map frames last n h =
    let bits = map (λ k. is_marked frames last k) (range_with_len 0 256) in
    let size : length bits ≡ 256 = length-map-range_with_len (λ k. is_marked frames last k) 0 256 in
    let octets = packed bits in
    let long : length octets ≡ 32 = length_map frames last in
    let fill : fill_of (length bits) ≡ 0 = ap fill_of size in
    let all : bits_of LsbFirst octets ≡ bits = bits_of-packed bits ∙ (ap (λ k. bits ++ replicate k false) fill ∙ append-nil bits) in
    sym (get_or-map-range_with_len (λ k. bit_in LsbFirst octets k) 0 (8 * length octets) n n true (omega (arith, long, h)) (omega arith))
    ∙ (ap (λ xs. slice_index_or xs n true) all
    ∙ get_or-map-range_with_len (λ k. is_marked frames last k) 0 256 n n true h (omega arith))
