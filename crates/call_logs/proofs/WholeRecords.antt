-- No record of a frame has a float.
use Rattle.std.proofs.Common.{◌≡◌, false, ap}
use Rattle.std.specs.Prelude.{◌||◌, Ok}
use Rattle.serde_json.specs.Written.{has_float}
use Rattle.captures.proofs.RecordData.{says_whole}
use Rattle.referee.specs.declared.rule.Rule.{Rule}
use Rattle.call_logs.specs.Reports.{broken_record}
use Rattle.call_logs.specs.Told.{PlainTold}

pub broken_whole : (told : PlainTold) (rule : Rule) → has_float (broken_record told rule) ≡ false
broken_whole told rule = ap (λ b. b || false) (says_whole (Ok told.signal))
