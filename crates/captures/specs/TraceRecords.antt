-- What a station hears and says, as JSON for programs.
use Rattle.std.specs.Prelude.{ℕ, Bool, true, false, List, codes}
use Rattle.serde_json.specs.Data.{Data, member, no_members, object}
use Rattle.signals.specs.Reading.{read_content}
use Rattle.faults.specs.RecordLines.{count, words}
use Rattle.captures.specs.Records.{named, says_record}

-- the time in milliseconds, and what was heard or said
abbrev pub traced : ℕ → Bool → Data → Data
traced at true says = object (member (codes "at") (count at) (member (codes "said") says no_members))
traced at false says = object (member (codes "at") (count at) (member (codes "heard") says no_members))

-- the record of a frame's content that was heard or said at a time in milliseconds, with what it says
abbrev pub traced_record : ℕ → Bool → List ℕ → Data
traced_record at said content = traced at said (says_record (read_content content))

-- the record of a training check that was heard or said at a time in milliseconds
abbrev pub check_record : ℕ → Bool → Data
check_record at said = traced at said (named (codes "TRAINING"))
