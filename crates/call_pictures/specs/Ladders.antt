-- What a picture of a call is drawn from: its events, where equal ones and equal rounds of them are kept once.
use Rattle.std.specs.Prelude.{ℕ, zero, suc, ◌+◌, ◌++◌, ◌∷◌, [], List, Option, Some, None, length, flat_map}
use Rattle.line_sim.specs.declared.event.Entry.{Entry}
use Rattle.line_sim.specs.declared.event.Kind.{Kind}
use Rattle.line_sim.specs.declared.event.Kind.TheVariants as kind
use Rattle.line_sim.specs.declared.live.Ending.{Ending}
use Rattle.calls.specs.Transcripts.{answerer_line, caller_line, entry_lines}
use Rattle.call_pictures.specs.declared.ladder.Feet.{Feet}
use Rattle.call_pictures.specs.declared.ladder.Round.{Round}
use Rattle.call_pictures.specs.declared.ladder.Row.{Row}

-- the item this many places after another in a row: the frame whose number is as much higher, or the same
abbrev pub item_after : ℕ → Option Kind → Option Kind
item_after places (Some (kind.Fcd first)) = Some (kind.Fcd (first + places))
item_after places item = item

-- the event this many places after another in a row
abbrev pub entry_after : ℕ → Entry → Entry
entry_after places entry = record entry { item = item_after places entry.item }

-- the events of this number of places from the first one's on
abbrev pub entries_from : Entry → ℕ → List Entry
entries_from entry zero = []
entries_from entry (suc places) = entries_from entry places ++ entry_after places entry ∷ []

-- the events of a row: equal ones, or frames whose numbers follow one another
abbrev pub entries_of_row : Row → List Entry
entries_of_row row = entries_from row.entry row.times

-- the events of rows, in order
abbrev pub entries_of_rows : List Row → List Entry
entries_of_rows rows = flat_map entries_of_row rows

-- these events, as often as a number says
abbrev pub repeated : List Entry → ℕ → List Entry
repeated entries zero = []
repeated entries (suc times) = repeated entries times ++ entries

-- the events of a round of rows, as often as the round comes
abbrev pub entries_of_round : Round → List Entry
entries_of_round round = repeated (entries_of_rows round.rows.items) round.times

-- the events of rounds, in order: each round as often as it comes, of rows of equal events or of frames whose numbers follow one another
abbrev pub entries_of_rounds : List Round → List Entry
entries_of_rounds rounds = flat_map entries_of_round rounds

-- the events of rounds and of the rows after them
abbrev pub entries_in : List Round → List Row → List Entry
entries_in rounds rows = entries_of_rounds rounds ++ entries_of_rows rows

-- what a call has left, as a picture shows it
abbrev pub feet_of : Ending → Feet
feet_of ending = record {
  caller_end = ending.caller_end;
  confirmed = ending.confirmed;
  answerer_end = ending.answerer_end;
  pages = length ending.pages.items;
}

-- what is drawn of a call: its events in order, and what it has left once it is over
pub record Drawn : Type 0 where
  pub entries : List Entry
  pub feet : Option Feet

-- the lines of what a call has left
abbrev pub feet_text : Option Feet → List ℕ
feet_text None = []
feet_text (Some feet) = caller_line feet.caller_end feet.confirmed ++ answerer_line feet.answerer_end feet.pages

-- the lines of what is drawn, as a transcript has them
abbrev pub drawn_text : Drawn → List ℕ
drawn_text drawn = entry_lines 1 drawn.entries ++ feet_text drawn.feet
