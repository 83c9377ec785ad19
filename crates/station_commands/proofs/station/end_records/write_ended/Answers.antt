-- What the check asks of `write_ended`.
use Rattle.std.proofs.Common.{ap, ◌∙◌}
use Rattle.serde_json.specs.Written.{has_float}
use Rattle.station_commands.proofs.EndData.{ended_whole}
use Rattle.station_commands.proofs.station.end_records.write_ended.Goals as goal

pub write_record-requires : goal.write_record-requires
write_record-requires g c = record {
  integers = ap has_float c.in_ok-record.ensures.record
      ∙ ended_whole c.args.e.now.calls c.args.e.now.end.now c.args.e.now.pages c.args.e.now.seconds c.args.e.now.figures
      c.args.e.now.why.now;
}
