use Rattle.std.proofs.Common.{arith}
use Rattle.raster.proofs.ChangeLemmas.{last_bit}
use Rattle.raster.proofs.changes.last_before.Goals as goal

pub returns-clause-bit : goal.returns-clause-bit
returns-clause-bit c = last_bit c.args.octets.now c.args.at (omega arith)
