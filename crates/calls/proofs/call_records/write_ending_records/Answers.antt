-- What the check asks of `write_ending_records`.
use Rattle.std.proofs.Common.{◌≡◌, ℕ, length, rules, subst}
use Rattle.std.proofs.KnownBytes.{Appends-trans}
use Rattle.std.specs.Io.KnownBytes.{Appends}
use Rattle.faults.specs.RecordLines.{record_line}
use Rattle.calls.specs.CallRecords.{answerer_record, caller_record}
use Rattle.calls.proofs.call_records.write_ending_records.Goals as goal

pub returns-clause-lines : goal.returns-clause-lines
returns-clause-lines g c =
    let pages : c.len.result ≡ length c.args.ending.now.pages.items = search rules in
    Appends-trans (g.W.Write.contents c.args.writer.now) (g.W.Write.contents c.write_caller.new.writer)
    (g.W.Write.contents c.write_answerer.new.writer)
    (record_line (caller_record c.args.ending.now.caller_end c.args.ending.now.confirmed))
    (record_line (answerer_record c.args.ending.now.answerer_end (length c.args.ending.now.pages.items)))
    c.in_ok-write_caller.ensures.line
    (subst (λ (n : ℕ). Appends (g.W.Write.contents c.write_caller.new.writer) (g.W.Write.contents c.write_answerer.new.writer)
    (record_line (answerer_record c.args.ending.now.answerer_end n))) pages c.in_ok-write_answerer.ensures.line)
