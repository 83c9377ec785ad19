use Rattle.std.proofs.Common.{◌≤◌, ◌++◌, refl, arith, length, take}
use Rattle.raster.specs.Packed.{bits_of}
use Rattle.raster.specs.declared.packed.Order.TheVariants.{LsbFirst}
use Rattle.hdlc.specs.Stuffing.{waiting_bits}
use Rattle.hdlc.proofs.BitPlaces.{octets-none, octets-next, octets-all}
use Rattle.hdlc.proofs.Extending.{extends_none, extends_twice}
use Rattle.hdlc.proofs.WritingOctets.{writes_octet}
use Rattle.hdlc.proofs.frame.write_octets.Goals as goal

pub loop-octet-init : goal.loop-octet-init
loop-octet-init c = record {
  keeps = extends_none _ _ refl;
  waits = c.requires;
  writes = λ start bits old. rw (octets-none bits) old;
}

pub loop-octet-preserved : goal.loop-octet-preserved
loop-octet-preserved c = record {
  keeps = extends_twice _ _ _ c.loop-octet.invariant.keeps c.with_room.ensures.keeps;
  waits = c.with-waiting.ensures.waits;
  writes = λ start bits old.
      rw (octets-next bits c.args.octets.now c.loop-octet.octet-index 0 (omega arith))
      (writes_octet c.loop-octet.writer.bits c.with_room.new.writer.bits start
      (bits ++ bits_of LsbFirst (take c.loop-octet.octet-index c.args.octets.now)) _
      (waiting_bits c.loop-octet.waiting) _ _ c.loop-octet.waiting.ones _ _
      c.in_ok-with_room.ensures.bits c.in_ok-with_room.ensures.ones c.with-waiting.ensures.bits c.with-waiting.ensures.ones
      (c.loop-octet.invariant.writes start bits old));
}

pub returns-clause-ok : goal.returns-clause-ok
returns-clause-ok c start bits old =
    let past : length c.args.octets.now ≤ c.loop-octet.octet-index = omega arith in
    rw (← octets-all bits c.args.octets.now c.loop-octet.octet-index past) (c.loop-octet.invariant.writes start bits old)
