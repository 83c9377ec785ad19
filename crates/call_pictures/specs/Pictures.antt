-- A call as a picture: what is written of rounds and of what a call has left, as SVG. A row is 26 pixels high, and 10 are left after
-- a round.
use Rattle.std.specs.Prelude.{◌≡◌, ℕ, ◌+◌, ◌-◌, ◌*◌, ◌++◌, ◌∷◌, [], Bool, true, false, cond, nat_eq, List, Option, Some, None, codes}
use Rattle.std.specs.Prelude.{length, sum_by}
use Rattle.std.specs.Fmt.{decimal}
use Rattle.std.specs.Io.KnownBytes.{Appends}
use Rattle.stations.specs.declared.turn.Turn.{Turn}
use Rattle.stations.specs.declared.turn.Turn.TheVariants as turn
use Rattle.line_sim.specs.declared.event.Entry.{Entry}
use Rattle.line_sim.specs.declared.event.Event.{Event}
use Rattle.line_sim.specs.declared.event.Event.TheVariants as event
use Rattle.line_sim.specs.declared.event.Fields.{Fields}
use Rattle.line_sim.specs.declared.event.Kind.{Kind}
use Rattle.line_sim.specs.declared.event.Kind.TheVariants as kind
use Rattle.call_pictures.specs.DrawnFields.{fields_text}
use Rattle.call_pictures.specs.Ladders.{Drawn, entries_of_rounds}
use Rattle.calls.specs.Transcripts.{end_text, entry_line, item_text, turn_text}
use Rattle.call_pictures.specs.declared.ladder.Feet.{Feet}
use Rattle.call_pictures.specs.declared.ladder.Round.{Round}
use Rattle.call_pictures.specs.declared.ladder.Row.{Row}

-- the arrow of an event, for one item or for many; it ends in a cross if they are lost
abbrev pub arrow_text : Event → Bool → List ℕ
arrow_text event.DeliverToAnswerer true = codes "M250 0h280m-9-4l9 4l-9 4"
arrow_text event.DeliverToAnswerer false = codes "M250-4h266v-4l14 8l-14 8v-4h-266z"
arrow_text event.DeliverToCaller true = codes "M530 0h-280m9-4l-9 4l9 4"
arrow_text event.DeliverToCaller false = codes "M530-4h-266v-4l-14 8l14 8v-4h266z"
arrow_text event.LoseToAnswerer true = codes "M250 0h200m-6-6l12 12m0-12l-12 12"
arrow_text event.LoseToAnswerer false = codes "M250-4h194v8h-194zm194-2l12 12m0-12l-12 12"
arrow_text event.LoseToCaller true = codes "M530 0h-200m6-6l-12 12m0-12l12 12"
arrow_text event.LoseToCaller false = codes "M530-4h-194v8h194zm-194-2l-12 12m0-12l12 12"
arrow_text event.Spoil is_one = codes "M250 0h115l10-8l10 16l10-16l10 16l10-8h20"
arrow_text _ is_one = []

-- the mark of what happens at a station by itself, on its line
abbrev pub mark_text : Event → List ℕ
mark_text event.CallerTimeout = codes "M244-7h12l-12 14h12z"
mark_text event.CallerT5 = codes "M244-7h12l-12 14h12z"
mark_text event.AnswererT1 = codes "M524-7h12l-12 14h12z"
mark_text event.AnswererT2 = codes "M524-7h12l-12 14h12z"
mark_text (event.Busy true) = codes "M524-6h12v12h-12zl12 12m0-12l-12 12"
mark_text (event.Busy false) = codes "M524-6h12v12h-12z"
mark_text _ = []

-- the lines of items that come or are lost, or of what happens with none
abbrev pub shape_of : Option Kind → Event → Bool → List ℕ
shape_of None event is_one = mark_text event
shape_of (Some kind) event is_one = arrow_text event is_one

-- the lines of a row: an arrow if there is an item, else a mark
abbrev pub shape_text : Row → List ℕ
shape_text row = shape_of row.entry.item row.entry.event (nat_eq row.times 1)

-- what becomes of an item that doesn't come as it was sent
abbrev pub fate_text : Event → List ℕ
fate_text event.LoseToAnswerer = codes " lost"
fate_text event.LoseToCaller = codes " lost"
fate_text event.Spoil = codes " spoiled"
fate_text _ = []

-- the label of an event without an item
abbrev pub gap_text : Event → List ℕ
gap_text event.DeliverToAnswerer = codes "nothing under way"
gap_text event.DeliverToCaller = codes "nothing under way"
gap_text event.LoseToAnswerer = codes "nothing to lose"
gap_text event.LoseToCaller = codes "nothing to lose"
gap_text event.Spoil = codes "no check to spoil"
gap_text _ = []

-- the label of what happens at a station by itself
abbrev pub own_text : Event → List ℕ
own_text event.CallerTimeout = codes "time-out"
own_text event.CallerT5 = codes "T5 is over"
own_text event.AnswererT1 = codes "T1 is over"
own_text event.AnswererT2 = codes "T2 is over"
own_text (event.Busy true) = codes "busy"
own_text (event.Busy false) = codes "ready"
own_text _ = []

-- the text between what happens at a station and what the station sends then
abbrev pub joint_text : Event → List ℕ
joint_text event.CallerTimeout = codes ", "
joint_text event.CallerT5 = codes ", "
joint_text event.AnswererT1 = codes ", "
joint_text event.AnswererT2 = codes ", "
joint_text _ = []

-- the label of a refused growth
abbrev pub refused_text : Bool → List ℕ
refused_text true = codes " (memory refused)"
refused_text false = []

-- where the text beside the station that an event acts on begins or ends
abbrev pub base_text : Event → List ℕ
base_text event.DeliverToCaller = codes "<text class=\"e\" x=\"238\" y=\"4\">"
base_text event.LoseToCaller = codes "<text class=\"e\" x=\"238\" y=\"4\">"
base_text event.CallerTimeout = codes "<text class=\"e\" x=\"238\" y=\"4\">"
base_text event.CallerT5 = codes "<text class=\"e\" x=\"238\" y=\"4\">"
base_text _ = codes "<text x=\"542\" y=\"4\">"

-- the word after a number of items
abbrev pub many_text : Option Kind → List ℕ
many_text (Some (kind.Fcd first)) = codes " frames from "
many_text _ = codes " times "

-- how many items a row has, if it is more than one
abbrev pub times_text : Option Kind → ℕ → List ℕ
times_text item times = cond (nat_eq times 1) [] (decimal times ++ many_text item)

-- the items, what a DCS sets and what a PPS ends, and what becomes of them
abbrev pub items_text : Option Kind → Fields → Event → List ℕ
items_text None fields event = gap_text event
items_text (Some kind) fields event = item_text (Some kind) ++ (fields_text fields ++ fate_text event)

-- the text over the arrow of a row
abbrev pub label_text : Row → List ℕ
label_text row = times_text row.entry.item row.times ++ items_text row.entry.item row.entry.fields row.entry.event

-- the text of what a station sends, after a joint
abbrev pub sends_text : List ℕ → Turn → ℕ → List ℕ
sends_text joint turn.Silent fcds = []
sends_text joint turn fcds = joint ++ codes "sends " ++ turn_text turn fcds

-- what is written beside a station: what happens to it, and what it sends then
abbrev pub side_text : Entry → List ℕ
side_text entry = own_text entry.event ++ sends_text (joint_text entry.event) entry.turn entry.fcds ++ refused_text entry.refused

-- the numbers of the first event of a row and of its last one, if that is another
abbrev pub numbers_text : ℕ → ℕ → List ℕ
numbers_text first last = cond (nat_eq first last) (decimal first) (decimal first ++ codes " to " ++ decimal last)

-- how often a round comes, if it is more than once
abbrev pub rounds_word : ℕ → List ℕ
rounds_word times = cond (nat_eq times 1) [] (decimal times ++ codes " rounds like this")

-- the beginning of a row and of its title, at a height
unfoldable pub row_begin : ℕ → List ℕ
row_begin y = codes "<g transform=\"translate(0 " ++ decimal y ++ codes ")\"><title>"

-- the end of a row's title, and the row's lines, which are a path
unfoldable pub row_shape : List ℕ → List ℕ
row_shape path = codes "</title><path d=\"" ++ path ++ codes "\"/>"

-- the numbers of a row's first event and of its last one
unfoldable pub row_numbers : ℕ → ℕ → List ℕ
row_numbers first last = codes "<text x=\"24\" y=\"4\">" ++ numbers_text first last ++ codes "</text>"

-- what is written over the arrow of a row
unfoldable pub row_label : Row → List ℕ
row_label row = codes "<text class=\"m\" x=\"390\" y=\"-9\">" ++ label_text row ++ codes "</text>"

-- what is written beside the station of a row, and the row's end
unfoldable pub row_side : Entry → List ℕ
row_side entry = base_text entry.event ++ side_text entry ++ codes "</text></g>\n"

-- what is written of a row after its title; the number is that of its first event
unfoldable pub row_words : ℕ → Row → List ℕ
row_words number row = row_shape (shape_text row) ++ row_numbers number (number + row.times - 1) ++ row_label row ++ row_side row.entry

-- A row at a height, whose first event has this number. Its title is the line of that event as the transcript has it.
unfoldable pub row_text : ℕ → ℕ → Row → List ℕ
row_text y number row = row_begin y ++ entry_line number row.entry ++ row_words number row

-- how many events rows have
abbrev pub items_in : List Row → ℕ
items_in [] = 0
items_in (row ∷ rows) = row.times + items_in rows

-- rows from a height and a number on, each 26 pixels below the one before it
abbrev pub rows_text : ℕ → ℕ → List Row → List ℕ
rows_text y number [] = []
rows_text y number (row ∷ rows) = row_text y number row ++ rows_text (y + 26) (number + row.times) rows

-- the beginning of the bracket beside rows, at a height
unfoldable pub bracket_begin : ℕ → List ℕ
bracket_begin y = codes "<g transform=\"translate(0 " ++ decimal y ++ codes ")\">"

-- the line of a bracket, along rows of this height
unfoldable pub bracket_line : ℕ → List ℕ
bracket_line height = codes "<path d=\"M708-16h6v" ++ decimal height ++ codes "h-6\"/>"

-- the beginning of a bracket's text, in the middle of its rows
unfoldable pub bracket_middle : ℕ → List ℕ
bracket_middle middle = codes "<text x=\"722\" y=\"" ++ decimal middle ++ codes "\" dy=\"-12\">"

-- the text of a bracket: how often its rows come
unfoldable pub bracket_word : ℕ → List ℕ
bracket_word times = rounds_word times ++ codes "</text></g>\n"

-- the bracket beside rows, with how often they come
unfoldable pub bracket_text : ℕ → ℕ → ℕ → List ℕ
bracket_text y rows times = bracket_begin y ++ bracket_line (rows * 26) ++ bracket_middle (rows * 13) ++ bracket_word times

-- a round from a height and a number on: its rows once, and the bracket
unfoldable pub round_text : ℕ → ℕ → Round → List ℕ
round_text y number round = rows_text y number round.rows.items ++ bracket_text y (length round.rows.items) round.times

-- the height of a round
abbrev pub round_height : Round → ℕ
round_height round = length round.rows.items * 26 + 10

-- the height of rounds
abbrev pub height_of : List Round → ℕ
height_of rounds = sum_by round_height rounds

-- how many events a round has, all its times
abbrev pub round_items : Round → ℕ
round_items round = items_in round.rows.items * round.times

-- rounds from a height and a number on
abbrev pub rounds_text : ℕ → ℕ → List Round → List ℕ
rounds_text y number [] = []
rounds_text y number (round ∷ rounds) =
    round_text y number round ++ rounds_text (y + round_height round) (number + round_items round) rounds

-- the beginning of a picture, with its size
unfoldable pub size_text : ℕ → List ℕ
size_text height = codes "<svg xmlns=\"http://www.w3.org/2000/svg\" width=\"880\" height=\"" ++ decimal height ++ codes "\""

-- the part of a picture that is seen, which is all of it, and its letters
unfoldable pub view_text : ℕ → List ℕ
view_text height = codes " viewBox=\"0 0 880 " ++ decimal height ++ codes "\" font-family=\"sans-serif\" font-size=\"12\">\n"

-- the title of a picture, and how its parts are drawn
unfoldable pub style_text : List ℕ
style_text =
    codes "<title>A fax call</title><style>path{fill:none;stroke:black}.e{text-anchor:end}.m{text-anchor:middle}</style>\n"

-- a rectangle as white paper
unfoldable pub paper_text : ℕ → List ℕ
paper_text height = codes "<rect width=\"880\" height=\"" ++ decimal height ++ codes "\" fill=\"white\"/>\n"

-- the names of the stations
unfoldable pub names_text : List ℕ
names_text = codes "<text class=\"m\" x=\"250\" y=\"26\">caller</text><text class=\"m\" x=\"530\" y=\"26\">answerer</text>\n"

-- the caller's line, of this length
unfoldable pub caller_side : ℕ → List ℕ
caller_side length = codes "<path d=\"M250 34v" ++ decimal length ++ codes "\"/>"

-- the answerer's line, of this length
unfoldable pub answerer_side : ℕ → List ℕ
answerer_side length = codes "<path d=\"M530 34v" ++ decimal length ++ codes "\"/>\n"

-- the beginning of a picture and its paper, of this height
unfoldable pub sheet_text : ℕ → List ℕ
sheet_text height = size_text height ++ view_text height ++ style_text ++ paper_text height

-- the stations, with lines of this length
unfoldable pub stations_text : ℕ → List ℕ
stations_text length = names_text ++ caller_side length ++ answerer_side length

-- what comes before rows of a height
unfoldable pub head_text : ℕ → List ℕ
head_text height = sheet_text (height + 120) ++ stations_text (height + 20)

-- the beginning of what a call has left, below the rows
unfoldable pub feet_begin : ℕ → List ℕ
feet_begin y = codes "<g class=\"m\" transform=\"translate(0 " ++ decimal y ++ codes ")\">"

-- why the call ended for the caller, in a word
unfoldable pub caller_reason : List ℕ → List ℕ
caller_reason word = codes "<text x=\"250\">" ++ word ++ codes "</text>"

-- how many pages the caller counts as confirmed
unfoldable pub caller_pages : ℕ → List ℕ
caller_pages confirmed = codes "<text x=\"250\" y=\"16\">pages confirmed: " ++ decimal confirmed ++ codes "</text>\n"

-- why the call ended for the answerer, in a word
unfoldable pub answerer_reason : List ℕ → List ℕ
answerer_reason word = codes "<text x=\"530\">" ++ word ++ codes "</text>"

-- how many pages the answerer has stored
unfoldable pub answerer_pages : ℕ → List ℕ
answerer_pages pages = codes "<text x=\"530\" y=\"16\">pages stored: " ++ decimal pages ++ codes "</text>"

-- the mark of stored pages, a small page with a corner turned down
abbrev pub page_mark : ℕ → List ℕ
page_mark pages = cond (nat_eq pages 0) [] (codes "<path d=\"M525 22h7l3 3v9h-10zm7 0v3h3\"/>")

-- the mark of stored pages, and the end of what a call has left
unfoldable pub feet_end : ℕ → List ℕ
feet_end pages = page_mark pages ++ codes "</g>\n"

-- what the call has left for the caller
unfoldable pub caller_foot : Feet → List ℕ
caller_foot feet = caller_reason (end_text feet.caller_end) ++ caller_pages feet.confirmed

-- what the call has left for the answerer
unfoldable pub answerer_foot : Feet → List ℕ
answerer_foot feet = answerer_reason (end_text feet.answerer_end) ++ answerer_pages feet.pages ++ feet_end feet.pages

-- what a call has left, below rounds of a height
unfoldable pub feet_lines : Feet → ℕ → List ℕ
feet_lines feet height = feet_begin (height + 72) ++ caller_foot feet ++ answerer_foot feet

-- what a picture shows of a call that is over
unfoldable pub end_lines : Option Feet → ℕ → List ℕ
end_lines None height = []
end_lines (Some feet) height = feet_lines feet height

-- the end of a picture
unfoldable pub last_line : List ℕ
last_line = codes "</svg>\n"

-- the SVG of rounds and of what the call has left
unfoldable pub picture_text : List Round → Option Feet → List ℕ
picture_text rounds feet =
    head_text (height_of rounds) ++ rounds_text 72 1 rounds ++ end_lines feet (height_of rounds) ++ last_line

-- What was written is the SVG of rounds whose events are those of the call, each once and in order, and of what the call has left. A DCS
-- has beside its name what it sets, and a PPS what ends with its block.
pub record IsPicture (drawn : Drawn) (before after : Option (List ℕ)) : Type 0 where
  pub rounds : List Round
  pub all : entries_of_rounds rounds ≡ drawn.entries
  pub written : Appends before after (picture_text rounds drawn.feet)
