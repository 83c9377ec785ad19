-- What the check asks of `line_begins`.
use Rattle.std.proofs.Common.{drop}
use Rattle.std.proofs.lemmas.Bool.{false≢true}
use Rattle.raster.specs.Packed.{bits_of}
use Rattle.page_code.proofs.OneDimension.LineEnds.{code_no_end, line_off}
use Rattle.page_code.proofs.one_dim.repair.line_begins.Goals as goal

pub returns-in-Absent-clause-begins : goal.returns-in-Absent-clause-begins
returns-in-Absent-clause-begins c = λ h. code_no_end (drop c.args.place (bits_of c.args.order c.args.octets.now)) c.in-Absent.ensures

pub returns-in-Present : goal.returns-in-Present
returns-in-Present c = record {
  begins = λ h. absurd (false≢true h);
  ends = λ h. line_off (drop c.args.place (bits_of c.args.order c.args.octets.now)) c.eol_at.result c.eol_at.ensures c.in-Present.is;
}
