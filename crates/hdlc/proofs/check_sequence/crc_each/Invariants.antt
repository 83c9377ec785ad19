use Rattle.std.proofs.Common.{◌≡◌, take}
use Rattle.std.specs.List.{fold}
use Rattle.raster.specs.Packed.{bits_of}
use Rattle.raster.specs.declared.packed.Order.TheVariants.{LsbFirst}
use Rattle.hdlc.specs.Register.{crc_bit}
use Rattle.hdlc.proofs.check_sequence.crc_each.Given as goal

abbrev pub invariant-loop-octet : goal.invariant-loop-octet
invariant-loop-octet l = record { taken : l.all ≡ fold crc_bit l.fn.register (bits_of LsbFirst (take l.octet-index l.octets)) }
