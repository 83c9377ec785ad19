-- What the check asks of `write_broken_record`.
use Rattle.std.proofs.Common.{ap, ◌∙◌}
use Rattle.serde_json.specs.Written.{has_float}
use Rattle.call_logs.specs.Told.{plain_told}
use Rattle.call_logs.proofs.WholeRecords.{broken_whole}
use Rattle.call_logs.proofs.report.write_broken_record.Goals as goal

pub write_record-requires : goal.write_record-requires
write_record-requires g c = record {
  integers = ap has_float c.in_ok-record.ensures ∙ broken_whole (plain_told c.args.told.now) c.args.rule;
}
