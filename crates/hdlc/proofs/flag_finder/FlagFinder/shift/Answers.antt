use Rattle.std.proofs.Common.{arith}
use Rattle.hdlc.specs.OpenGap.{unclosed}
use Rattle.hdlc.proofs.DeframerPartsLemmas.{settled_full}
use Rattle.hdlc.proofs.flag_finder.FlagFinder.shift.Goals as goal

pub returns-clause-gap : goal.returns-clause-gap
returns-clause-gap c bits old = rw (settled_full c.args.self.now bits old (omega arith)) (c.push.ensures (unclosed bits) old.gap)
