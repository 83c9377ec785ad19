-- What is written of a call beside its lines: the octets of what is sent on the line, in each direction.
use Rattle.std.specs.Prelude.{◌≡◌, ℕ, List, [], ◌∷◌, ◌++◌, drop, Option, None}
use Rattle.std.specs.Io.KnownBytes.{Appends}
use Rattle.signals.specs.declared.signal.Side.{Side}
use Rattle.signals.specs.declared.signal.Side.TheVariants.{Caller, Answerer}
use Rattle.stations.specs.Inputs.{PlainItem}
use Rattle.line_sim.specs.Entries.{is_refused}
use Rattle.line_sim.specs.Line.{World, Outcome, happens}
use Rattle.line_sim.specs.Octets.{AreOctetsOf, sender_to, under_way_to}
use Rattle.line_sim.specs.Putting.{IsPut, puts_to}
use Rattle.line_sim.specs.declared.call.Call.{Call}
use Rattle.line_sim.specs.declared.event.Event.{Event}
use Rattle.calls.specs.declared.counts.Counts.{Counts}

-- what the writers of a call have, if they say it: the lines of its events, and the octets that were sent to each station
pub record Written : Type 0 where
  pub lines : Option (List ℕ)
  pub to_answerer : Option (List ℕ)
  pub to_caller : Option (List ℕ)

-- a writer of lines alone, which takes no octets
abbrev pub lines_alone : Option (List ℕ) → Written
lines_alone lines = record { lines = lines; to_answerer = None; to_caller = None }

-- three writers: one of lines, and one of the octets to each station
abbrev pub lines_and_bits : Option (List ℕ) → Option (List ℕ) → Option (List ℕ) → Written
lines_and_bits lines to_answerer to_caller = record { lines = lines; to_answerer = to_answerer; to_caller = to_caller }

-- the octets that were sent to a station
abbrev pub bits_to : Side → Written → Option (List ℕ)
bits_to Answerer written = written.to_answerer
bits_to Caller written = written.to_caller

-- octets that are sent to one station are sent to that one alone
abbrev pub only_to : Side → Side → List ℕ → List ℕ
only_to Answerer Answerer octets = octets
only_to Caller Caller octets = octets
only_to _ _ octets = []

-- the lines grow by a text, and no octets are sent
pub record WritesLines (before after : Written) (octets : List ℕ) : Type 0 where
  pub lines : Appends before.lines after.lines octets
  pub sent : (side : Side) → bits_to side after ≡ bits_to side before

-- octets are sent to one station, and nothing else is written
pub record WritesOctets (to : Side) (before after : Written) (octets : List ℕ) : Type 0 where
  pub lines : after.lines ≡ before.lines
  pub sent : (side : Side) → Appends (bits_to side before) (bits_to side after) (only_to to side octets)

-- octets are those of items that a station sends, one after the other, as they are on the line
abbrev pub AreItems : Side → List ℕ → List PlainItem → Type 0
AreItems side octets [] = octets ≡ []
AreItems side octets (item ∷ items) =
    (first : List ℕ) × (rest : List ℕ) × AreOctetsOf side first item × AreItems side rest items × (octets ≡ first ++ rest)

-- the octets of items that are sent to a station were written
abbrev pub WritesItems : Side → List PlainItem → Written → Written → Type 0
WritesItems to items before after =
    (octets : List ℕ) × AreItems (sender_to to) octets items × Appends (bits_to to before) (bits_to to after) octets

-- the octets of items that are sent to a station were written, and nothing else
pub record WritesTo (to : Side) (items : List PlainItem) (before after : Written) : Type 0 where
  pub lines : after.lines ≡ before.lines
  pub octets : List ℕ
  pub are : AreItems (sender_to to) octets items
  pub sent : (side : Side) → Appends (bits_to side before) (bits_to side after) (only_to to side octets)

-- how many items to a station are counted
abbrev pub count_to : Side → Counts → ℕ
count_to Answerer counts = counts.to_answerer
count_to Caller counts = counts.to_caller

-- what is under way to each station after as many items as are counted was written, and no line
pub record WritesAfter (counts : Counts) (call : Call) (before after : Written) : Type 0 where
  pub lines : after.lines ≡ before.lines
  pub sent : (to : Side) → WritesItems to (drop (count_to to counts) (under_way_to to call)) before after

-- What steps send to a station, one after the other: what the other station sends at each event; if a growth was refused, the first items
-- of that, or nothing.
abbrev pub AreSent : Side → List (Event × Outcome) → World → List PlainItem → Type 0
AreSent to [] w items = items ≡ []
AreSent to (step ∷ steps) w items =
    (first : List PlainItem) × (rest : List PlainItem) × IsPut (is_refused step.1) first (puts_to to w step.0) ×
    AreSent to steps (happens w step.0 step.1) rest × (items ≡ first ++ rest)

-- the octets of what steps send to a station were written
abbrev pub WritesSent : Side → List (Event × Outcome) → World → Written → Written → Type 0
WritesSent to steps w before after = (items : List PlainItem) × AreSent to steps w items × WritesItems to items before after

-- what is under way to a station in a world
abbrev pub on_way_to : Side → World → List PlainItem
on_way_to Answerer w = w.to_answerer
on_way_to Caller w = w.to_caller

-- the octets of what is under way to a station at the start, and then of what each event sends to it, were written
abbrev pub WritesCall : Side → List (Event × Outcome) → World → Written → Written → Type 0
WritesCall to steps w before after =
    (items : List PlainItem) × AreSent to steps w items × WritesItems to (on_way_to to w ++ items) before after
