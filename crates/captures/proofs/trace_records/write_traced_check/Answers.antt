-- What the check asks of `write_traced_check`.
use Rattle.std.proofs.Common.{ap, ◌∙◌, subst}
use Rattle.std.specs.Io.KnownBytes.{Appends}
use Rattle.std.specs.Prelude.{OnOk}
use Rattle.serde_json.specs.Data.{Data}
use Rattle.faults.specs.RecordLines.{record_line}
use Rattle.captures.specs.TraceRecords.{traced}
use Rattle.captures.proofs.trace_records.write_traced_check.Goals as goal

pub returns-clause-line : goal.returns-clause-line
returns-clause-line g c =
    subst (λ (d : Data). OnOk c.write_record.result (Appends (g.W.Write.contents c.args.writer.now)
    (g.W.Write.contents c.write_record.new.writer) (record_line d)))
    (c.in_ok-record.ensures ∙ ap (traced c.args.at c.args.said) c.in_ok-says.ensures) c.write_record.ensures.line
