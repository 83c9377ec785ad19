use Rattle.std.proofs.Common.{◌≡◌, ◌+◌, ◌*◌, ◌/◌, ◌%◌, ℕ, refl, arith}
use Rattle.hdlc.proofs.GatheringLemmas.{moved_out, out_fits}
use Rattle.hdlc.proofs.gathering.settled.Goals as goal

pub returns-clause-sound : goal.returns-clause-sound
returns-clause-sound c = record {
  fits = out_fits 32 c.args.state.part c.args.state.bits c.if-state-lt32.false c.requires.sound.fits;
  whole = c.requires.sound.whole;
  most = c.requires.sound.most;
}

pub returns-clause-gathers : goal.returns-clause-gathers
returns-clause-gathers c gap old =
    let b : ℕ = c.args.state.bits in
    let register : b / 4294967296 * 256 + b % 4294967296 / 16777216 ≡ (b * 256 + c.args.state.last) / 4294967296 = omega arith in
    moved_out c.args.buffer.now _ c.args.state _ gap 32 old c.if-state-lt32.false refl refl register refl refl c.push_four.ensures
