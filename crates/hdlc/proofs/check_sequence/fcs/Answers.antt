use Rattle.std.proofs.Common.{◌≡◌, ◌-◌, ℕ, List, [], ap, sym, ◌∙◌, arith, length, take, drop}
use Rattle.std.specs.List.{fold}
use Rattle.std.proofs.Math.Seq.{take-add}
use Rattle.std.proofs.lemmas.List.{take-append-drop, take_all, length-drop}
use Rattle.raster.specs.Packed.{bits_of}
use Rattle.raster.specs.declared.packed.Order.TheVariants.{LsbFirst}
use Rattle.raster.proofs.PackedLemmas.{bits_in-none}
use Rattle.hdlc.specs.Register.{crc_bit}
use Rattle.hdlc.proofs.Division.{fcs_is}
use Rattle.hdlc.proofs.CheckOctets.{register_after}
use Rattle.hdlc.proofs.check_sequence.fcs.Goals as goal

pub loop-at-init : goal.loop-at-init
loop-at-init c = record { within = omega arith; taken = sym (ap (fold crc_bit 65535) (bits_in-none LsbFirst [])) }

pub loop-at-preserved : goal.loop-at-preserved
loop-at-preserved c =
    let octets : List ℕ = c.args.octets.now in
    let at : ℕ = c.loop-at.at in
    record {
      within = omega arith;
      taken = c.crc_eight-register.ensures
          ∙ (register_after (take at octets) (take 8 (drop at octets)) 65535 c.loop-at.register c.loop-at.invariant.taken
          ∙ ap (λ xs. fold crc_bit 65535 (bits_of LsbFirst xs)) (sym (take-add at 8 octets)));
    }

pub returns : goal.returns
returns c =
    let octets : List ℕ = c.args.octets.now in
    let at : ℕ = c.loop-at.at in
    let rest : take (length octets - at) (drop at octets) ≡ drop at octets =
    take_all (length octets - at) (drop at octets) (rw length-drop (omega arith)) in
    ap (λ n. 65535 - n) (c.crc_each.ensures ∙ (ap (λ xs. fold crc_bit c.loop-at.register (bits_of LsbFirst xs)) rest
    ∙ (register_after (take at octets) (drop at octets) 65535 c.loop-at.register c.loop-at.invariant.taken
    ∙ ap (λ xs. fold crc_bit 65535 (bits_of LsbFirst xs)) (take-append-drop at octets))))
    ∙ sym (fcs_is octets)
