use Rattle.line_sim.proofs.Fates.{fate_read}
use Rattle.line_sim.proofs.drive.fate_at.Goals as goal

pub returns-in-Some : goal.returns-in-Some
returns-in-Some c =
    fate_read c.args.fates.now c.args.at c.in-Some.fate.now c.in-Some.ensures.lookup.3.0 c.in-Some.ensures.lookup.1
