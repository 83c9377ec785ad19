use Rattle.signals.proofs.WritingLemmas.{reads-written, written-fits}
use Rattle.signals.specs.Signals.{plain}
use Rattle.signals.proofs.writing.write.Goals as goal

pub returns-clause-size : goal.returns-clause-size
returns-clause-size c = rw c.content_from.ensures (written-fits (plain c.args.signal.now) c.args.side c.args.last c.requires)

pub returns-clause-reads : goal.returns-clause-reads
returns-clause-reads c = rw c.content_from.ensures (reads-written (plain c.args.signal.now) c.args.side c.args.last c.requires)
