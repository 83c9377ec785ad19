-- What the check asks of `report_lines`.
use Rattle.std.proofs.Common.{ap, ◌∙◌}
use Rattle.serde_json.specs.Written.{has_float}
use Rattle.commands.proofs.RecordData.{each_whole}
use Rattle.commands.proofs.decode.each.report.report_lines.Goals as goal

pub write_record-requires : goal.write_record-requires
write_record-requires c = record {
  integers = ap has_float c.in_ok-record.ensures.record ∙ each_whole _ c.args.report.now _;
}
