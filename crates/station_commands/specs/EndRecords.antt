-- What is told of a station's call at its end.
use Rattle.std.specs.Prelude.{◌++◌, ◌||◌, ℕ, Bool, true, false, List, [], ◌∷◌, Option, Some, None, codes, cond, length, nat_eq, option_map}
use Rattle.std.specs.Fmt.{decimal}
use Rattle.captures.specs.OtherWords.{other_name, signs_text}
use Rattle.conversations.specs.Lines.{channel_name}
use Rattle.conversations.specs.declared.carrier.Channel.TheVariants.{Message}
use Rattle.faults.specs.RecordLines.{count, words}
use Rattle.serde_json.specs.Data.{Data, Members, no_members, null, object, put}
use Rattle.signals.specs.declared.params.Speed.{Speed}
use Rattle.stations.specs.declared.stopping.CallEnd.{CallEnd}
use Rattle.stations.specs.declared.stopping.CallEnd.TheVariants.{By, LineLost, Stopped}
use Rattle.stations.specs.declared.turn.End.TheVariants.{Normal, NotCompatible}
use Rattle.terminals.specs.declared.figures.Figures.{Figures}

-- ---- a frame that the stations leave out

-- a name, if there is one
abbrev pub named : List ℕ → Option (List ℕ)
named name = cond (nat_eq (length name) 0) None (Some name)

-- frames that go beside a DIS, and tell what a station is or wants: NSF, NSC, CSI, CIG, SEP, PWD, PSA, CIA, ISP and CSA
abbrev pub is_beside_dis : ℕ → Bool
is_beside_dis octet = nat_eq octet 32 || (nat_eq octet 33 || (nat_eq octet 64 || (nat_eq octet 65 || (nat_eq octet 161
    || (nat_eq octet 193 || (nat_eq octet 97 || (nat_eq octet 225 || (nat_eq octet 17 || (nat_eq octet 36 || nat_eq octet 37)))))))))

-- frames that go beside a DCS: NSS, TSI, SID, SUB, TSA and IRA
abbrev pub is_beside_dcs : ℕ → Bool
is_beside_dcs octet = nat_eq octet 34 || (nat_eq octet 35 || (nat_eq octet 66 || (nat_eq octet 67 || (nat_eq octet 162
    || (nat_eq octet 163 || (nat_eq octet 194 || (nat_eq octet 195 || (nat_eq octet 98 || (nat_eq octet 99
    || (nat_eq octet 226 || nat_eq octet 227))))))))))

-- the name of a frame that asks for an answer, if it has a name: one that goes beside another frame asks for none
abbrev pub asking_name : ℕ → Option (List ℕ)
asking_name octet = cond (is_beside_dis octet || is_beside_dcs octet) None (named (other_name octet))

-- the name of the last frame that was heard, if that asks for an answer that we don't give, and a call ended so after it
abbrev pub left_out : Option CallEnd → Option ℕ → Option (List ℕ)
left_out None unread = None
left_out (Some end) None = None
left_out (Some Stopped) (Some octet) = None
left_out (Some (By Normal)) (Some octet) = None
left_out (Some (By NotCompatible)) (Some octet) = None
left_out (Some (By end)) (Some octet) = asking_name octet
left_out (Some LineLost) (Some octet) = asking_name octet

-- that a frame of this name isn't answered
abbrev pub unanswered_words : List ℕ → List ℕ
unanswered_words name = name ++ codes ", which isn't answered"

-- that the frame which is left out isn't answered, if there is one
abbrev pub left_out_words : Option CallEnd → Option ℕ → Option (List ℕ)
left_out_words end unread = option_map unanswered_words (left_out end unread)

-- ---- the record

-- a text, or null if it is empty
abbrev pub maybe_words : List ℕ → Data
maybe_words [] = null
maybe_words text = words text

-- the name of a speed, or null
abbrev pub speed_record : Option Speed → Data
speed_record None = null
speed_record (Some speed) = maybe_words (channel_name (Message speed))

-- what a station calls itself, or null
abbrev pub name_record : Option (List ℕ) → Data
name_record None = null
name_record (Some name) = maybe_words (signs_text name)

-- the word for the pages of a station that calls (true), or answers
abbrev pub pages_word : Bool → List ℕ
pages_word true = codes "confirmed"
pages_word false = codes "pages"

-- members with what was counted of blocks and commands
abbrev pub with_counts : Figures → Members → Members
with_counts f members = put (codes "retries") (count f.retries) (put (codes "resent") (count f.resent)
    (put (codes "pprs") (count f.requests) (put (codes "blocks") (count f.blocks) members)))

-- members with the failed checks and the speeds
abbrev pub with_speeds : Figures → Members → Members
with_speeds f members = put (codes "last_speed") (speed_record f.last_speed)
    (put (codes "first_speed") (speed_record f.first_speed) (put (codes "failed_checks") (count f.failed_checks) members))

-- members with how a call ended, with the pages that the caller (true) counts as confirmed or the answerer has stored, with its time in
-- whole seconds, and why it ended so
abbrev pub with_end : Bool → List ℕ → ℕ → ℕ → List ℕ → Members → Members
with_end calls end pages seconds why members = put (codes "why") (maybe_words why) (put (codes "seconds") (count seconds)
    (put (pages_word calls) (count pages) (put (codes "end") (words end) members)))

-- the record of how a call ended, and what it came to
abbrev pub ended_record : Bool → List ℕ → ℕ → ℕ → Figures → List ℕ → Data
ended_record calls end pages seconds f why = object (with_end calls end pages seconds why
    (put (codes "peer") (name_record f.name) (with_speeds f (with_counts f no_members))))

-- ---- the line of words

-- the speeds of the first DCS and of the last, if one came
abbrev pub speeds_part : Option Speed → Option Speed → List ℕ
speeds_part None last = []
speeds_part (Some first) None = []
speeds_part (Some first) (Some last) = codes "; " ++ (channel_name (Message first) ++ (codes " to " ++ channel_name (Message last)))

-- what the other station calls itself, if it does
abbrev pub name_part : Option (List ℕ) → List ℕ
name_part None = []
name_part (Some name) = codes "; peer " ++ signs_text name

-- what was counted in a call of so many seconds
abbrev pub counts_part : ℕ → Figures → List ℕ
counts_part seconds f = decimal seconds ++ (codes " s; blocks " ++ (decimal f.blocks ++ (codes ", PPRs "
    ++ (decimal f.requests ++ (codes ", frames sent again " ++ decimal f.resent)))))

-- how many checks failed, and how many commands were said again
abbrev pub failures_part : Figures → List ℕ
failures_part f = codes ", failed checks " ++ (decimal f.failed_checks ++ (codes ", retries " ++ decimal f.retries))

-- what follows the counts, and the end of the line
abbrev pub rest_part : Figures → List ℕ
rest_part f = speeds_part f.first_speed f.last_speed ++ (name_part f.name ++ 10 ∷ [])

-- what a call of so many seconds came to, as a line
abbrev pub figures_words : ℕ → Figures → List ℕ
figures_words seconds f = counts_part seconds f ++ (failures_part f ++ rest_part f)
