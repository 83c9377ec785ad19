-- The record of a frame that was heard has no float.
use Rattle.std.proofs.Common.{◌≡◌, ℕ, false, List, [], ◌∷◌, refl}
use Rattle.std.specs.Prelude.{Ok}
use Rattle.serde_json.specs.Data.{Data}
use Rattle.serde_json.specs.Written.{has_float}
use Rattle.signals.specs.Signals.{other}
use Rattle.captures.specs.Records.{other_record}
use Rattle.captures.proofs.RecordData.{says_whole}
use Rattle.station_commands.specs.CallNotes.{heard_as, heard_record}

as_whole : (at : ℕ) (heard : Data) (text : List ℕ) → has_float heard ≡ false → has_float (heard_as at heard text) ≡ false
as_whole at heard [] whole = rw whole refl
as_whole at heard (first ∷ text) whole = rw whole refl

pub heard_whole : (at octet : ℕ) (text : List ℕ) → has_float (heard_record at octet text) ≡ false
heard_whole at octet text = as_whole at (other_record octet) text (says_whole (Ok (other octet)))
