-- What the check asks of `tell`.
use Rattle.calls.proofs.CallSteps.{event_told}
use Rattle.calls.proofs.call.tell.Goals as goal

pub returns-clause-told : goal.returns-clause-told
returns-clause-told g c w shows =
    event_told c.args.live.now c.event-entry.new.self c.args.event c.event-entry.result w c.args.number.now _ c.of-counts.result
    (g.T.CallWriter.written c.args.writer.now) (g.T.CallWriter.written c.entry.new.self) (g.T.CallWriter.written c.write_sent.new.writer)
    c.event-entry.ensures.acts c.event-entry.ensures.puts shows
    (record { to_answerer = c.of-counts.ensures.to_answerer; to_caller = c.of-counts.ensures.to_caller })
    c.in_ok-entry.ensures.line c.in_ok-write_sent.ensures.sent c.in_ok-number.ensures.next
