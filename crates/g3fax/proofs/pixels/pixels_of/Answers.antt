use Rattle.g3fax.proofs.PixelLemmas.{eight_bits}
use Rattle.g3fax.proofs.pixels.pixels_of.Goals as goal

pub returns : goal.returns
returns c = eight_bits c.args.octet
