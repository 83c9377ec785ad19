use Rattle.std.proofs.Common.{◌≡◌, ◌≤◌, ◌+◌, ◌++◌, ◌∷◌, [], List, Bool, drop, length, arith, subst, append_assoc}
use Rattle.std.proofs.lemmas.List.{append-nil, drop-append-le, drop_all}
use Rattle.raster.specs.Packed.{bits_in, bit_in}
use Rattle.raster.specs.declared.packed.Order.TheVariants.{LsbFirst}
use Rattle.raster.proofs.PackedLemmas.{length-bits_in}
use Rattle.hdlc.specs.Collects.{Collects}
use Rattle.hdlc.proofs.DeframerPartsLemmas.{piece_more}
use Rattle.hdlc.proofs.gap.Gap.push_from.Goals as goal

pub loop-place-init : goal.loop-place-init
loop-place-init c gap old =
    let size : length (bits_in LsbFirst (c.args.octet ∷ []) c.args.start) ≤ c.args.start = rw length-bits_in (omega arith) in
    rw (drop_all c.args.start (bits_in LsbFirst (c.args.octet ∷ []) c.args.start) size, append-nil gap) old

pub loop-place-preserved : goal.loop-place-preserved
loop-place-preserved c gap old =
    let bits : List Bool = bits_in LsbFirst (c.args.octet ∷ []) c.loop-place.place in
    let size : c.args.start ≤ length bits = rw length-bits_in (omega arith) in
    let bit : List Bool = bit_in LsbFirst (c.args.octet ∷ []) c.loop-place.place ∷ [] in
    let more : bits_in LsbFirst (c.args.octet ∷ []) (c.loop-place.place + 1) ≡ bits ++ bit = piece_more [] (c.args.octet ∷ []) c.loop-place.place in
    rw (more, drop-append-le c.args.start bits bit size, ← append_assoc gap (drop c.args.start bits) bit, ← c.bit_at.ensures)
    (c.push.ensures _ (c.loop-place.invariant gap old))

pub returns : goal.returns
returns c gap old =
    let whole : c.loop-place.place ≡ 8 = omega arith in
    subst (λ n. Collects c.loop-place.self (gap ++ drop c.args.start (bits_in LsbFirst (c.args.octet ∷ []) n))) whole
    (c.loop-place.invariant gap old)
