-- What the check asks of `write_said`.
use Rattle.std.proofs.Common.{ap, ◌∙◌}
use Rattle.serde_json.specs.View.{view}
use Rattle.serde_json.specs.Written.{has_float}
use Rattle.commands.proofs.RecordData.{found_whole, known_whole}
use Rattle.commands.proofs.identify.several.write_said.Goals as goal

pub write_record-requires : goal.write_record-requires
write_record-requires c = record {
  integers = ap has_float c.in_ok-record.ensures
      ∙ found_whole c.args.said.now.unread c.args.said.now.found (view c.in_ok-made.made) (ap has_float c.in_ok-made.ensures ∙ known_whole _ _ _ _ _);
}
