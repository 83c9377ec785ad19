use Rattle.std.proofs.Common.{◌++◌, List, Bool, take}
use Rattle.raster.specs.Packed.{bits_of}
use Rattle.raster.specs.declared.packed.Order.TheVariants.{LsbFirst}
use Rattle.hdlc.specs.Stuffing.{IsWaiting, waiting_bits}
use Rattle.hdlc.specs.Writing.{IsWriting, Extends}
use Rattle.hdlc.proofs.frame.write_octets.Given as goal

abbrev pub invariant-loop-octet : goal.invariant-loop-octet
invariant-loop-octet l = record {
  keeps : Extends l.fn.writer l.writer;
  waits : IsWaiting 32 l.waiting;
  writes : (start bits : List Bool) → IsWriting (l.fn.writer.bits ++ waiting_bits l.fn.before) start bits l.fn.before.ones
      → IsWriting (l.writer.bits ++ waiting_bits l.waiting) start (bits ++ bits_of LsbFirst (take l.octet-index l.octets)) l.waiting.ones;
}
