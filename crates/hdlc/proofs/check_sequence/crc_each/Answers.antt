use Rattle.std.proofs.Common.{◌≤◌, [], length, ap, sym, ◌∙◌, arith}
use Rattle.std.specs.List.{fold}
use Rattle.std.proofs.lemmas.List.{take_all}
use Rattle.raster.specs.Packed.{bits_of}
use Rattle.raster.specs.declared.packed.Order.TheVariants.{LsbFirst}
use Rattle.raster.proofs.PackedLemmas.{bits_in-none}
use Rattle.hdlc.specs.Register.{crc_bit}
use Rattle.hdlc.proofs.CheckOctets.{register_on}
use Rattle.hdlc.proofs.check_sequence.crc_each.Goals as goal

pub loop-octet-init : goal.loop-octet-init
loop-octet-init c = record { taken = sym (ap (fold crc_bit c.args.register) (bits_in-none LsbFirst [])) }

pub loop-octet-preserved : goal.loop-octet-preserved
loop-octet-preserved c = record {
  taken = c.crc_octet-all.ensures
      ∙ register_on c.args.octets.now c.loop-octet.octet-index 0 c.args.register c.loop-octet.all (omega arith) c.loop-octet.invariant.taken;
}

pub returns : goal.returns
returns c =
    let past : length c.args.octets.now ≤ c.loop-octet.octet-index = omega arith in
    c.loop-octet.invariant.taken
    ∙ ap (λ xs. fold crc_bit c.args.register (bits_of LsbFirst xs)) (take_all c.loop-octet.octet-index c.args.octets.now past)
