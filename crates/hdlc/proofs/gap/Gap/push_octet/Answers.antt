use Rattle.std.proofs.Common.{◌≡◌, ◌*◌, ◌/◌, ◌||◌, ℕ, List, Bool, [], ◌∷◌, ap, sym, ◌∙◌, refl, min, length, arith}
use Rattle.raster.specs.Octets.{number}
use Rattle.raster.specs.Packed.{bits_of}
use Rattle.raster.specs.declared.packed.Order.TheVariants.{LsbFirst}
use Rattle.raster.proofs.OctetBits.{octet_bits}
use Rattle.hdlc.specs.Gaps.{unstuffed}
use Rattle.hdlc.specs.EightBits.{unstuffed_from, six_from, ones_at_end}
use Rattle.hdlc.proofs.BitPlaces.{bits_of-one}
use Rattle.hdlc.proofs.CollectingOctets.{collects_octet}
use Rattle.hdlc.proofs.GatheringLemmas.{left_few}
use Rattle.hdlc.proofs.UnstuffedLemmas.{number_fits}
use Rattle.hdlc.proofs.gap.Gap.push_octet.Goals as goal

pub push_after-last-requires : goal.push_after-last-requires
push_after-last-requires c =
    let n : ℕ = min 5 (c.from-row.result * 256 / 256) in
    let left : List Bool = unstuffed_from n (bits_of LsbFirst (c.args.octet ∷ [])) in
    record {
      pending = c.pending-pending.ensures.pending;
      few = rw c.unstuffed-left.ensures.count (left_few n c.args.octet);
      fits = rw (c.unstuffed-left.ensures.number, c.unstuffed-left.ensures.count) (number_fits left (length left) (omega arith));
    }

pub returns : goal.returns
returns c gap old =
    let octet : ℕ = c.args.octet in
    let r : ℕ = c.from-row.result * 256 / 256 in
    let bits : List Bool = octet_bits octet in
    let is : bits_of LsbFirst (octet ∷ []) ≡ bits = bits_of-one octet in
    let ones : r ≡ c.args.self.now.ones = omega (arith, c.from-row.ensures, c.min.ensures, old.ones) in
    let left : List Bool = unstuffed_from (min 5 c.args.self.now.ones) bits in
    let same : unstuffed_from (min 5 r) (bits_of LsbFirst (octet ∷ [])) ≡ left =
    ap (λ bs. unstuffed_from (min 5 r) bs) is ∙ ap (λ n. unstuffed_from (min 5 n) bits) ones in
    let part : c.pending-pending.result.part ≡ c.args.self.now.unstuffed.part = omega (
      arith,
      c.pending-pending.ensures.part,
      old.unstuffed.part,
    ) in
    let last : c.unstuffed-left.result.row / 256 ≡ min 6 (ones_at_end r (bits_of LsbFirst (octet ∷ []))) = omega (
      arith,
      c.unstuffed-left.ensures.row,
    ) in
    rw (is, c.end.ensures)
    (collects_octet c.args.self.now _ gap octet old (omega arith) refl
    (last ∙ (ap (λ bs. min 6 (ones_at_end r bs)) is ∙ ap (λ n. min 6 (ones_at_end n bits)) ones))
    (ap (λ x. c.args.self.now.aborted || x) (c.unstuffed-left.ensures.sixth ∙ (ap (six_from (min 5 r)) is
    ∙ ap (λ n. six_from (min 5 n) bits) ones)))
    (c.push_after-last.ensures.bits (unstuffed gap) left
    (sym (c.unstuffed-left.ensures.count ∙ ap length same))
    (sym (c.unstuffed-left.ensures.number ∙ ap number same)) (rw (c.pending-pending.ensures.window, part) old.unstuffed)))
