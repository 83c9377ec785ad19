use Rattle.std.proofs.Common.{sym, arith}
use Rattle.run_tables.specs.Reading.{rest_of}
use Rattle.page_code.proofs.TwoDimensions.StepsOn.{none_cut}
use Rattle.page_code.proofs.t6.read.is_cut_mode.Goals as goal

pub returns : goal.returns
returns c = sym (none_cut (rest_of c.args.reader.now) c.loop-at.at (omega arith) c.loop-at.invariant)
