-- What the check asks of `first_line`.
use Rattle.std.proofs.Common.{arith}
use Rattle.raster.specs.Packed.{bits_of}
use Rattle.page_code.proofs.OneDimension.LineEnds.{first_after, first_other}
use Rattle.page_code.proofs.OneDimension.SeesEol.{bits_left}
use Rattle.page_code.proofs.one_dim.repair.first_line.Goals as goal

pub returns-in-Present-clause-first : goal.returns-in-Present-clause-first
returns-in-Present-clause-first c = first_after (bits_of c.args.order c.args.octets.now) c.in-Present.bits c.in-Present.ensures

pub returns-in-Present-clause-within : goal.returns-in-Present-clause-within
returns-in-Present-clause-within c = omega (arith, c.in-Present.ensures.4, bits_left c.args.order c.args.octets.now 0)

pub returns-in-Absent : goal.returns-in-Absent
returns-in-Absent c = record {
  first = first_other (bits_of c.args.order c.args.octets.now) c.eol_at.result c.eol_at.ensures c.in-Absent.is;
  within = omega arith;
}
