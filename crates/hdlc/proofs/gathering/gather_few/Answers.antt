use Rattle.std.proofs.Common.{◌≤◌, length, arith, subst}
use Rattle.hdlc.specs.Gathers.{Gathers}
use Rattle.hdlc.proofs.BitPlaces.{octets-none, octets-next, octets-all}
use Rattle.hdlc.proofs.gathering.gather_few.Goals as goal

pub loop-octet-init : goal.loop-octet-init
loop-octet-init c = record {
  few = omega arith;
  sound = c.requires.sound;
  gathers = λ buffer gap old. rw (octets-none gap) old;
}

pub loop-octet-preserved : goal.loop-octet-preserved
loop-octet-preserved c = record {
  few = omega (arith, c.loop-octet.invariant.few, c.with-all.ensures.few);
  sound = c.with-all.ensures.sound;
  gathers = λ buffer gap old.
      rw (octets-next gap c.args.octets.now c.loop-octet.octet-index 0 (omega arith))
      (c.with-all.ensures.gathers buffer _ (c.loop-octet.invariant.gathers buffer gap old));
}

pub returns-clause-gathers : goal.returns-clause-gathers
returns-clause-gathers c buffer gap old =
    let past : length c.args.octets.now ≤ c.loop-octet.octet-index = omega arith in
    subst (Gathers buffer c.loop-octet.all) (octets-all gap c.args.octets.now c.loop-octet.octet-index past)
    (c.loop-octet.invariant.gathers buffer gap old)
