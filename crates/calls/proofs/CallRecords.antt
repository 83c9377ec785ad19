-- That the record of an event has no float.
use Rattle.std.proofs.Common.{◌≡◌, ℕ, Bool, true, false, List, refl}
use Rattle.std.specs.Prelude.{Option, None, Some, Ok, option_map}
use Rattle.serde_json.specs.Data.{Data, Members}
use Rattle.serde_json.specs.Written.{has_float, members_have_float}
use Rattle.signals.specs.Signals.{PlainSignal}
use Rattle.stations.specs.declared.turn.Turn.{Turn}
use Rattle.stations.specs.declared.turn.Turn.TheVariants as turn
use Rattle.line_sim.specs.declared.event.Entry.{Entry}
use Rattle.line_sim.specs.declared.event.Kind.{Kind}
use Rattle.captures.specs.Records.{signal_record}
use Rattle.captures.proofs.RecordData.{says_whole}
use Rattle.calls.specs.CallRecords.{entry_record, item_data, member_if, refused_data, says_data, sends_data}
use Rattle.calls.specs.Explained.{signal_said}

-- a value that need not be there has a float
abbrev float_in : Option Data → Bool
float_in None = false
float_in (Some value) = has_float value

item_whole : (item : Option Kind) → float_in (item_data item) ≡ false
item_whole None = refl
item_whole (Some kind) = refl

refused_whole : (refused : Bool) → float_in (refused_data refused) ≡ false
refused_whole true = refl
refused_whole false = refl

said_whole : (said : Option PlainSignal) → float_in (option_map signal_record said) ≡ false
said_whole None = refl
said_whole (Some signal) = says_whole (Ok signal)

sends_whole : (sends : Turn) (fcds : ℕ) → float_in (sends_data sends fcds) ≡ false
sends_whole turn.Silent fcds = refl
sends_whole turn.Dis fcds = refl
sends_whole turn.Training fcds = refl
sends_whole turn.Cfr fcds = refl
sends_whole turn.Ftt fcds = refl
sends_whole (turn.Burst map) fcds = refl
sends_whole turn.Pps fcds = refl
sends_whole turn.Mcf fcds = refl
sends_whole (turn.Ppr map) fcds = refl
sends_whole turn.Rnr fcds = refl
sends_whole turn.Rr fcds = refl
sends_whole turn.Dcn fcds = refl

member_whole : (name : List ℕ) (value : Option Data) (others : Members) → float_in value ≡ false
    → members_have_float others ≡ false → members_have_float (member_if name value others) ≡ false
member_whole name None others value_has others_have = others_have
member_whole name (Some value) others value_has others_have = rw (value_has, others_have) refl

pub entry_whole : (number : ℕ) (entry : Entry) → has_float (entry_record number entry) ≡ false
entry_whole number entry =
    member_whole _ (item_data entry.item) _ (item_whole entry.item)
    (member_whole _ (refused_data entry.refused) _ (refused_whole entry.refused)
    (member_whole _ (says_data entry.fields) _ (said_whole (signal_said entry.fields))
    (member_whole _ (sends_data entry.turn entry.fcds) _ (sends_whole entry.turn entry.fcds) refl)))
