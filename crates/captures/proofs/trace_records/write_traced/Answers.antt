-- What the check asks of `write_traced`.
use Rattle.std.proofs.Common.{ap, ◌∙◌}
use Rattle.signals.specs.Reading.{read_content}
use Rattle.serde_json.specs.Written.{has_float}
use Rattle.captures.specs.Records.{says_record}
use Rattle.captures.specs.TraceRecords.{traced}
use Rattle.captures.proofs.RecordData.{says_whole, traced_whole}
use Rattle.captures.proofs.trace_records.write_traced.Goals as goal

pub write_record-requires : goal.write_record-requires
write_record-requires g c = record {
  integers = ap has_float (c.in_ok-record.ensures ∙ ap (traced c.args.at c.args.said) c.in_ok-says.ensures)
      ∙ traced_whole c.args.at c.args.said (says_record (read_content c.args.content.now)) (says_whole (read_content c.args.content.now));
}
