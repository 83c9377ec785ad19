-- How long a call has the line: what is sent on it, item by item, and the waits that are over. No clock runs in a call; these are the
-- durations that T.30 gives, at the speed that the stations agreed on.
use Rattle.std.specs.Prelude.{◌≡◌, ◌+◌, ◌-◌, ◌*◌, ◌/◌, ◌++◌, ℕ, Bool, true, false, List, [], ◌∷◌, drop, length, Option, Some}
use Rattle.signals.specs.declared.signal.Side.{Side}
use Rattle.signals.specs.declared.signal.Side.TheVariants.{Answerer, Caller}
use Rattle.stations.specs.Inputs.{PlainItem}
use Rattle.stations.specs.declared.turn.End.{End}
use Rattle.stations.specs.declared.turn.End.TheVariants.{NoAnswer}
use Rattle.stations.specs.declared.waiting.Wait.TheVariants.{T1, T2, T4, T5}
use Rattle.terminals.specs.Timing.{wait_millis}
use Rattle.line_sim.specs.Entries.{kind_of}
use Rattle.line_sim.specs.Octets.{AreOctetsOf, form_of, sender_to, under_way_to}
use Rattle.line_sim.specs.declared.call.Call.{Call}
use Rattle.line_sim.specs.declared.event.Event.{Event}
use Rattle.line_sim.specs.declared.event.Event.TheVariants.{AnswererT1, AnswererT2, CallerT5, CallerTimeout}
use Rattle.line_sim.specs.declared.event.Form.{Form}
use Rattle.line_sim.specs.declared.event.Form.TheVariants.{Check, Control, Page}
use Rattle.line_sim.specs.declared.event.Kind.{Kind}
use Rattle.calls.specs.BadLines.{Going, put_by_steps}
use Rattle.calls.specs.SentBits.{count_to, on_way_to}
use Rattle.calls.specs.declared.counts.Counts.{Counts}
use Rattle.call_tallies.specs.declared.line_time.Clock.{Clock}
use Rattle.call_tallies.specs.declared.line_time.Clocks.{Clocks}
use Rattle.calls.specs.declared.losses.BadLine.{BadLine}

-- ---- ticks

-- Time is counted in ticks. A millisecond has 18 of them, so a second 18,000, and an octet lasts a whole number of ticks at 300 bit/s and
-- at each speed of a page.
abbrev pub ticks_of : ℕ → ℕ
ticks_of millis = 18 * millis

-- how long an octet lasts at 300 bit/s: eight bits of 60 ticks
abbrev pub control_octet : ℕ
control_octet = 480

-- how long a training check lasts: 1.5 s (T.30, 5.3.6.1.3)
abbrev pub check_ticks : ℕ
check_ticks = ticks_of 1500

-- ---- what is sent

-- What comes before an item of a form, in ticks: 75 ms of silence between two carriers, of one station or of both, and flags, for 1 s at
-- 300 bit/s and for 200 ms at the speed of a page (T.30, 5.3 and Annex A). Each frame at 300 bit/s and each training check has a carrier of
-- its own; frames of a page that follow one another share one.
abbrev pub before_item : Form → Bool → ℕ
before_item Control page = ticks_of (75 + 1000)
before_item Page false = ticks_of (75 + 200)
before_item Page true = 0
before_item Check page = ticks_of 75

-- how long an item of a form and a number of octets lasts, in ticks, if an octet of a page's frame lasts `octet`
abbrev pub lasting : Form → ℕ → ℕ → ℕ
lasting Control octets octet = control_octet * octets
lasting Page octets octet = octet * octets
lasting Check octets octet = check_ticks

-- How long an octet of a page's frame lasts after an item. A training check of 1.5 s is sent at the speed that its DCS says, at which the
-- page's frames after it are sent: so its octets say how long one lasts.
abbrev pub octet_after : Form → ℕ → ℕ → ℕ
octet_after Check octets octet = check_ticks / octets
octet_after _ octets octet = octet

-- an item is a page's frame
abbrev pub is_page : Form → Bool
is_page Page = true
is_page _ = false

-- Before anything is sent in a direction. A clock has how long an octet of a page's frame lasts, whether such a frame was the last item,
-- and how long all items lasted.
abbrev pub new_clock : Clock
new_clock = record { octet = 0; page = false; ticks = 0 }

-- The clock after an item of a form and a number of octets. It lasts what comes before it (75 ms of silence, and 1 s of flags at 300 bit/s
-- or 200 ms at the speed of a page), and then its octets; a training check lasts 1.5 s, and the page's frames after it have its speed.
abbrev pub after_item : Form → ℕ → Clock → Clock
after_item form octets c = record {
  octet = octet_after form octets c.octet;
  page = is_page form;
  ticks = c.ticks + (before_item form c.page + lasting form octets c.octet);
}

-- how long items that a station sends last, one after the other, by the octets of each on the line
abbrev pub Runs : Side → List PlainItem → Clock → Clock → Type 0
Runs side [] before after = after ≡ before
Runs side (item ∷ items) before after =
    (kind : Kind) × (octets : List ℕ) × (kind_of item ≡ Some kind) × AreOctetsOf side octets item ×
    Runs side items (after_item (form_of kind) (length octets) before) after

-- the clock of what is sent to a station
abbrev pub clock_to : Side → Clocks → Clock
clock_to Answerer clocks = clocks.to_answerer
clock_to Caller clocks = clocks.to_caller

-- the clocks of both directions before anything is sent
abbrev pub new_clocks : Clocks
new_clocks = record { to_answerer = new_clock; to_caller = new_clock }

-- to each station, how long the items last that an event has put under way behind as many as were counted before it
abbrev pub RunsAfter : Counts → Call → Clocks → Clocks → Type 0
RunsAfter counts call before after =
    (to : Side) → Runs (sender_to to) (drop (count_to to counts) (under_way_to to call)) (clock_to to before) (clock_to to after)

-- what a call sends: what is under way at its start, and what this number of first steps put there
abbrev pub RunsSteps : BadLine → Going → ℕ → Clocks → Type 0
RunsSteps bad first made clocks =
    (to : Side) → Runs (sender_to to) (on_way_to to first.call.world ++ put_by_steps to made bad first) new_clock (clock_to to clocks)

-- ---- waits

-- How long the wait was that is over in an event, in milliseconds: T4 of a caller that waits for an answer, its T5, and the answerer's T1
-- and T2.
abbrev pub waited_in : Event → ℕ
waited_in CallerTimeout = wait_millis T4
waited_in CallerT5 = wait_millis T5
waited_in AnswererT1 = wait_millis T1
waited_in AnswererT2 = wait_millis T2
waited_in _ = 0

-- The last wait of a caller that ends with NoAnswer was for a DIS: T1, which is longer than T4 by this many milliseconds.
abbrev pub longer_wait : Option End → ℕ
longer_wait (Some NoAnswer) = wait_millis T1 - wait_millis T4
longer_wait _ = 0

-- For how many whole seconds a call has the line, rounded down: what is sent in both directions, and the waits that are over (T4 for an
-- answer, T1 for a DIS, T2, T5 and the answerer's T1), each counted whole.
abbrev pub seconds_in : Clocks → ℕ → Option End → ℕ
seconds_in clocks waited ending =
    (clocks.to_answerer.ticks + clocks.to_caller.ticks + ticks_of (waited + longer_wait ending)) / 18000
