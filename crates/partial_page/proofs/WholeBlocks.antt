-- Whole blocks, and the map of missing frames.
use Rattle.std.proofs.Common.{◌≡◌, ℕ, zero, suc, ◌*◌, ◌↔◌, Bool, true, false, List, map, length, refl, ap, sym, ◌∙◌, arith, append-nil, inl, inr}
use Rattle.std.specs.Prelude.{IsTrue}
use Rattle.std.specs.List.{range_with_len}
use Rattle.std.proofs.lemmas.Bool.{and_parts, cases_eq}
use Rattle.std.proofs.lemmas.List.FromFn.{length-map-range_with_len, get_or-map-range_with_len, fill_by_all}
use Rattle.raster.specs.Octets.{AreOctets}
use Rattle.raster.specs.Packed.{bits_in, bit_in}
use Rattle.raster.specs.declared.packed.Order.TheVariants.{LsbFirst}
use Rattle.raster.proofs.OctetLemmas.{packed_is}
use Rattle.partial_page.specs.Assembling.{Frames, is_whole, all_there, ppr_map}
use Rattle.partial_page.specs.Store.{IsWhole, IsMissingMap, is_marked}

whole_is : (frames : Frames) (last : ℕ) → is_whole frames (suc last) ≡ true → IsWhole frames last
whole_is frames zero h n within = let is : n ≡ 0 = omega arith in rw is h
whole_is frames (suc last) h n within =
    let parts = and_parts (is_whole frames (suc last)) _ h in
    elim (cases_eq n (suc last)) [ inl e ↦ rw e parts.1 | inr ne ↦ whole_is frames last parts.0 n (omega arith) ]

pub is_whole_so : (frames : Frames) (last : ℕ) → IsWhole frames last → is_whole frames (suc last) ≡ true
is_whole_so frames zero h = h 0 (omega arith)
is_whole_so frames (suc last) h = rw (is_whole_so frames last (λ n within. h n (omega arith)), h (suc last) (omega arith)) refl

pub missing_map_is :
    (frames : Frames) (last : ℕ) (octets : List ℕ) → AreOctets octets → IsMissingMap frames last octets → octets ≡ ppr_map frames last
unfolding ppr_map bits_in
missing_map_is frames last octets small is =
    let size : 8 * length octets ≡ 256 = omega (arith, is.size) in
    let same : map (λ n. bit_in LsbFirst octets n) (range_with_len 0 256) ≡ map (λ n. is_marked frames last n) (range_with_len 0 256) =
    fill_by_all (λ n. is_marked frames last n) (map (λ n. bit_in LsbFirst octets n) (range_with_len 0 256)) 256 true
    (length-map-range_with_len (λ n. bit_in LsbFirst octets n) 0 256)
    (λ k h. get_or-map-range_with_len (λ n. bit_in LsbFirst octets n) 0 256 k k true h (omega arith) ∙ is.bits k h) in
    packed_is (map (λ n. is_marked frames last n) (range_with_len 0 256)) octets
    (record {
      fill = 0;
      few = omega arith;
      filled = ap (bits_in LsbFirst octets) size ∙
          (same ∙ sym (append-nil (map (λ n. is_marked frames last n) (range_with_len 0 256))));
    })
    small

pub all_there_is : (frames : Frames) (last : ℕ) → all_there frames last ≡ true → IsWhole frames last
unfolding all_there
all_there_is frames last h = whole_is frames last h

pub whole_tells : (frames : Frames) (last : ℕ) (b : Bool) → IsTrue b ↔ IsWhole frames last → b ≡ all_there frames last
unfolding all_there
whole_tells frames last true h = sym (is_whole_so frames last (h.0 refl))
whole_tells frames last false h = at (is_whole frames (suc last)) refl
  where
    at : (b : Bool) → is_whole frames (suc last) ≡ b → false ≡ b
    at true e = h.1 (whole_is frames last e)
    at false e = refl
