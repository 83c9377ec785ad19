-- The lines of a call as JSON, one object a line, as the command that runs a call writes them for programs.
use Rattle.std.specs.Prelude.{ℕ, ◌++◌, Bool, true, false, List, Option, Some, None, codes, length, option_map}
use Rattle.serde_json.specs.Data.{Data, Members, boolean, member, no_members, object, put}
use Rattle.stations.specs.declared.turn.End.{End}
use Rattle.stations.specs.declared.turn.Turn.{Turn}
use Rattle.stations.specs.declared.turn.Turn.TheVariants.{Silent}
use Rattle.line_sim.specs.declared.event.Entry.{Entry}
use Rattle.line_sim.specs.declared.event.Fields.{Fields}
use Rattle.line_sim.specs.declared.event.Kind.{Kind}
use Rattle.line_sim.specs.declared.live.Ending.{Ending}
use Rattle.faults.specs.RecordLines.{count, record_line, words}
use Rattle.captures.specs.Records.{signal_record}
use Rattle.calls.specs.Explained.{signal_said}
use Rattle.calls.specs.Scripts.{word_of}
use Rattle.calls.specs.Transcripts.{end_text, item_text, turn_text}

-- the item that was delivered or lost, as a line has it, if there was one
abbrev pub item_data : Option Kind → Option Data
item_data None = None
item_data (Some kind) = Some (words (item_text (Some kind)))

-- what a DIS, a DCS, a PPS or a PPR says, as the record of such a frame has it
abbrev pub says_data : Fields → Option Data
says_data fields = option_map signal_record (signal_said fields)

-- what a station sends, as a line has it, if it sends something
abbrev pub sends_data : Turn → ℕ → Option Data
sends_data Silent fcds = None
sends_data turn fcds = Some (words (turn_text turn fcds))

-- the value that says that a growth was refused, if one was
abbrev pub refused_data : Bool → Option Data
refused_data true = Some (boolean true)
refused_data false = None

-- members, and before them one that need not be there
abbrev pub member_if : List ℕ → Option Data → Members → Members
member_if name None members = members
member_if name (Some value) members = member name value members

-- members, and at its place in their order one that need not be there
abbrev pub put_if : List ℕ → Option Data → Members → Members
put_if name None members = members
put_if name (Some value) members = put name value members

-- the record of an event: its number and its word, and, if there are any, the item, what the item says, what the station that it acts on
-- sends, and that a growth was refused
abbrev pub entry_record : ℕ → Entry → Data
entry_record number entry = object (member (codes "event") (words (word_of entry.event))
    (member_if (codes "item") (item_data entry.item)
    (member (codes "number") (count number)
    (member_if (codes "refused") (refused_data entry.refused)
    (member_if (codes "says") (says_data entry.fields)
    (member_if (codes "sends") (sends_data entry.turn entry.fcds) no_members))))))

-- the record of how the call ended for the caller, and how many pages it counts as confirmed
abbrev pub caller_record : Option End → ℕ → Data
caller_record ending confirmed = object (member (codes "confirmed") (count confirmed)
    (member (codes "end") (words (end_text ending))
    (member (codes "station") (words (codes "caller")) no_members)))

-- the record of how the call ended for the answerer, and how many pages it has stored
abbrev pub answerer_record : Option End → ℕ → Data
answerer_record ending pages = object (member (codes "end") (words (end_text ending))
    (member (codes "pages") (count pages)
    (member (codes "station") (words (codes "answerer")) no_members)))

-- the lines of the two records of what a call leaves
abbrev pub ending_records : Ending → List ℕ
ending_records ending = record_line (caller_record ending.caller_end ending.confirmed)
    ++ record_line (answerer_record ending.answerer_end (length ending.pages.items))
