-- What the check asks of `one_line_fault`.
use Rattle.calls.proofs.LineFaults.{one_line_fault}
use Rattle.calls.proofs.laws.one_line_fault.Goals as goal

pub returns : goal.returns
returns c = one_line_fault
