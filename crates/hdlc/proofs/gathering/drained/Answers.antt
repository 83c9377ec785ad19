use Rattle.std.proofs.Common.{◌≡◌, ◌+◌, ◌*◌, ◌/◌, ◌%◌, ℕ, refl, arith}
use Rattle.hdlc.proofs.GatheringLemmas.{moved_out, out_fits}
use Rattle.hdlc.proofs.gathering.drained.Goals as goal

pub loop-rest-init : goal.loop-rest-init
loop-rest-init c = record { sound = c.settled-rest.ensures.sound; gathers = λ gap old. c.settled-rest.ensures.gathers gap old }

pub loop-rest-preserved : goal.loop-rest-preserved
loop-rest-preserved c =
    let b : ℕ = c.loop-rest.rest.bits in
    let register : b / 256 * 256 + b % 256 ≡ (b * 256 + c.loop-rest.rest.last) / 256 = omega arith in
    record {
      sound = record {
        fits = out_fits 8 c.loop-rest.rest.part b c.loop-rest-test.true c.loop-rest.invariant.sound.fits;
        whole = c.loop-rest.invariant.sound.whole;
        most = c.loop-rest.invariant.sound.most;
      };
      gathers = λ gap old.
          moved_out c.loop-rest.buffer _ c.loop-rest.rest _ gap 8 (c.loop-rest.invariant.gathers gap old) c.loop-rest-test.true refl refl
          register refl refl c.push_octet.ensures;
    }

pub returns-clause-sound : goal.returns-clause-sound
returns-clause-sound c = c.loop-rest.invariant.sound

pub returns-clause-gathers : goal.returns-clause-gathers
returns-clause-gathers c gap old = c.loop-rest.invariant.gathers gap old
