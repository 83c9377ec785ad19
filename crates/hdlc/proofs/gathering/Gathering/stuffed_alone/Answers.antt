use Rattle.std.proofs.Common.{◌/◌, refl, arith}
use Rattle.hdlc.proofs.OneStuffed.{stuffed_if}
use Rattle.hdlc.proofs.gathering.Gathering.stuffed_alone.Goals as goal

pub returns : goal.returns
returns c bits size is least =
    stuffed_if bits (c.args.self.row / 256) c.args.starts _ (omega (arith, c.requires.sound.most)) size is c.requires.least c.requires.few
    (omega (arith, c.if-starts-ne0.false)) refl (omega arith)
