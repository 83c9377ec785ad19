-- What the check asks of `write_frame_record`.
use Rattle.std.proofs.Common.{ap, ◌∙◌}
use Rattle.serde_json.specs.Written.{has_float}
use Rattle.captures.proofs.RecordData.{frame_whole}
use Rattle.captures.proofs.records.write_frame_record.Goals as goal

pub write_record-requires : goal.write_record-requires
write_record-requires g c = record {
  integers = ap has_float c.in_ok-record.ensures.record ∙ frame_whole c.args.most c.args.number c.args.content.now;
}
