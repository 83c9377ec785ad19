-- What is written of a log that is judged.
use Rattle.std.specs.Prelude.{ℕ, ◌≡◌, ◌++◌, ◌∷◌, [], Bool, true, false, List, Option, Some, None, Result, Ok, Err, codes}
use Rattle.std.specs.Fmt.{decimal}
use Rattle.std.specs.Io.KnownBytes.{Appends}
use Rattle.serde_json.specs.Data.{Data, boolean, member, no_members, object}
use Rattle.faults.specs.RecordLines.{count, record_line, words}
use Rattle.signals.specs.declared.signal.Side.{Side}
use Rattle.signals.specs.declared.signal.Side.TheVariants.{Caller, Answerer}
use Rattle.captures.specs.Records.{signal_record}
use Rattle.captures.specs.Texts.{named_text}
use Rattle.captures.specs.declared.frames.ListForm.{ListForm}
use Rattle.captures.specs.declared.frames.ListForm.TheVariants.{Plain, Explained, Records}
use Rattle.referee.specs.declared.rule.Rule.{Rule}
use Rattle.call_logs.specs.Logs.{PlainFrame, log_in}
use Rattle.call_logs.specs.RuleWords.{is_reading, rule_name, rule_reason, rule_words}
use Rattle.call_logs.specs.Told.{PlainTold, judged, tally_of, told_in}
use Rattle.call_logs.specs.declared.tally.Tally.{Tally}

-- the word of a station
abbrev pub side_name : Side → List ℕ
side_name Caller = codes "caller"
side_name Answerer = codes "answerer"

-- what follows the name of a rule
abbrev pub reading_text : Bool → List ℕ
reading_text true = codes ", a reading]"
reading_text false = codes "]"

-- The line of a frame that breaks a rule: its number, its time, its station, what it says, what is wrong, and the rule's name in brackets.
abbrev pub broken_line : PlainTold → Rule → List ℕ
broken_line told rule = decimal told.number ++ (codes " " ++ (told.frame.at ++ (codes " " ++ (side_name told.frame.by ++ (codes " "
    ++ (named_text told.frame.content ++ (codes ": " ++ (rule_words rule ++ (codes " [" ++ (rule_name rule
    ++ (reading_text (is_reading rule) ++ 10 ∷ [])))))))))))

-- the line that says why that is a rule
abbrev pub reason_line : Rule → List ℕ
reason_line rule = codes "    " ++ (rule_reason rule ++ 10 ∷ [])

-- the record of a frame that breaks a rule
abbrev pub broken_record : PlainTold → Rule → Data
broken_record told rule = object (member (codes "at") (words told.frame.at)
    (member (codes "by") (words (side_name told.frame.by))
    (member (codes "frame") (count told.number)
    (member (codes "reading") (boolean (is_reading rule))
    (member (codes "rule") (words (rule_name rule))
    (member (codes "said") (signal_record told.signal) no_members))))))

-- what is written of a frame that breaks a rule
abbrev pub broken_in : ListForm → PlainTold → Rule → List ℕ
broken_in Plain told rule = broken_line told rule
broken_in Explained told rule = broken_line told rule ++ reason_line rule
broken_in Records told rule = record_line (broken_record told rule)

-- what is written of a frame by the rule that it breaks, if it breaks one
abbrev pub found_in : ListForm → PlainTold → Option Rule → List ℕ
found_in form told None = []
found_in form told (Some rule) = broken_in form told rule

-- what is written of frames, one after the other, by the rule that each breaks
abbrev pub all_found : ListForm → List PlainTold → List (Option Rule) → List ℕ
all_found form [] found = []
all_found form (told ∷ more) [] = []
all_found form (told ∷ more) (rule ∷ rules) = found_in form told rule ++ all_found form more rules

-- the line of the counts
abbrev pub tally_line : Tally → List ℕ
tally_line tally = codes "frames " ++ (decimal tally.frames ++ (codes " broken " ++ (decimal tally.broken ++ (codes " readings "
    ++ (decimal tally.readings ++ (codes " unread " ++ (decimal tally.unread ++ 10 ∷ [])))))))

-- the record of the counts
abbrev pub tally_record : Tally → Data
tally_record tally = object (member (codes "broken") (count tally.broken)
    (member (codes "frames") (count tally.frames)
    (member (codes "readings") (count tally.readings)
    (member (codes "unread") (count tally.unread) no_members))))

-- what is written at the end
abbrev pub tally_in : ListForm → Tally → List ℕ
tally_in Plain tally = tally_line tally
tally_in Explained tally = tally_line tally
tally_in Records tally = record_line (tally_record tally)

-- the counts of frames
abbrev pub tally_in_log : List PlainFrame → Tally
tally_in_log frames = tally_of frames (told_in 1 frames) (judged (told_in 1 frames))

-- what is written of the frames of a log: of each that breaks a rule, and the counts
abbrev pub report : ListForm → List PlainFrame → List ℕ
report form frames = all_found form (told_in 1 frames) (judged (told_in 1 frames)) ++ tally_in form (tally_in_log frames)

-- The log with these octets is judged: its report was written, and these are its counts; or its line of this number is the first that is
-- none of a log, and nothing was written.
abbrev pub JudgesLog : ListForm → List ℕ → Option (List ℕ) → Option (List ℕ) → Result Tally ℕ → Type 0
JudgesLog form octets before after (Ok tally) = (frames : List PlainFrame) × (log_in octets ≡ Ok frames)
    × (tally ≡ tally_in_log frames) × Appends before after (report form frames)
JudgesLog form octets before after (Err line) = (log_in octets ≡ Err line) × (after ≡ before)
