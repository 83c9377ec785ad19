-- What the check asks of `write_entry_record`.
use Rattle.std.proofs.Common.{ap, ◌∙◌}
use Rattle.serde_json.specs.Written.{has_float}
use Rattle.calls.proofs.CallRecords.{entry_whole}
use Rattle.calls.proofs.call_records.write_entry_record.Goals as goal

pub write_record-requires : goal.write_record-requires
write_record-requires g c = record {
  integers = ap has_float c.in_ok-record.ensures.record ∙ entry_whole c.args.number c.args.entry.now;
}
