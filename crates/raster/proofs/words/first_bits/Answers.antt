use Rattle.std.proofs.Common.{arith}
use Rattle.raster.proofs.WordLemmas.{kept_inside, kept_after}
use Rattle.raster.proofs.words.first_bits.Goals as goal

pub returns-clause-inside : goal.returns-clause-inside
returns-clause-inside c k h = kept_inside c.args.word c.args.count k (omega arith) h

pub returns-clause-after : goal.returns-clause-after
returns-clause-after c k low h = kept_after c.args.word c.args.count k (omega arith) low h
