-- What the check asks of `entry`.
use Rattle.call_pictures.proofs.Diagrams.{writes_both}
use Rattle.call_pictures.proofs.Ladders.{drawn_with}
use Rattle.calls.specs.Transcripts.{entry_line}
use Rattle.call_pictures.proofs.diagram.WithDiagramCallWriter.entry.Goals as goal

pub returns-in_ok-add-clause-line : goal.returns-in_ok-add-clause-line
returns-in_ok-add-clause-line g c =
    rw c.in-Some.is
    (writes_both (g.T.CallWriter.written c.args.self.now.writer) (g.T.CallWriter.written c.entry.new.self) c.in-Some.ladder c.add.new.self
    (entry_line c.args.number c.args.entry.now)
    (drawn_with c.in-Some.ladder c.add.new.self c.args.entry.now c.args.number c.in_ok-add.ensures.added c.in_ok-add.ensures.number
    c.in_ok-add.ensures.going) c.in_ok-entry.ensures.line)
