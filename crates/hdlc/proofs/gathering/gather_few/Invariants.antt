use Rattle.std.proofs.Common.{◌≤◌, ◌+◌, ◌*◌, ◌-◌, ◌++◌, List, Bool, length, take}
use Rattle.raster.specs.Packed.{bits_of}
use Rattle.raster.specs.declared.packed.Order.TheVariants.{LsbFirst}
use Rattle.hdlc.specs.declared.octet_buffer.OctetBuffer.{OctetBuffer}
use Rattle.hdlc.specs.Gathers.{Gathers, IsGathering}
use Rattle.hdlc.proofs.gathering.gather_few.Given as goal

abbrev pub invariant-loop-octet : goal.invariant-loop-octet
invariant-loop-octet l = record {
  few : l.all.part + 8 * (length l.octets - l.octet-index) ≤ 55;
  sound : IsGathering l.all;
  gathers : (buffer : OctetBuffer) (gap : List Bool) → Gathers buffer l.fn.state gap
      → Gathers buffer l.all (gap ++ bits_of LsbFirst (take l.octet-index l.octets));
}
