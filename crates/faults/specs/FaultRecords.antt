-- Faults, and other messages, as JSON for programs.
use Rattle.std.specs.Prelude.{ℕ, ◌-◌, ◌^◌, List, codes, min}
use Rattle.serde_json.specs.Data.{Data, member, no_members, object}
use Rattle.faults.specs.RecordLines.{count, words}
use Rattle.faults.specs.declared.fault.ToolFault.{ToolFault}
use Rattle.faults.specs.declared.fault.ToolFault.TheVariants.{No, AtBit, AtLine}

-- The record of a fault at a line, for any fault number: the number, the line (counted from 1) and the words.
abbrev pub line_fault_record : ℕ → ℕ → List ℕ → Data
line_fault_record n line text = object (member (codes "fault") (count n)
    (member (codes "line") (count line)
    (member (codes "words") (words text) no_members)))

-- The record of a fault: its number, its words, and its bit (2^64 - 1 at most) or the line of the script, if it has one.
abbrev pub fault_record : ToolFault → List ℕ → Data
fault_record (No n) text = object (member (codes "fault") (count n)
    (member (codes "words") (words text) no_members))
fault_record (AtBit n place) text = object (member (codes "bit") (count (min (2 ^ 64 - 1) place))
    (member (codes "fault") (count n)
    (member (codes "words") (words text) no_members)))
fault_record (AtLine line) text = line_fault_record 30 line text

-- The record of another message: its text as the member `notice`.
abbrev pub notice_record : List ℕ → Data
notice_record text = object (member (codes "notice") (words text) no_members)
