-- What happens to two joined terminals and to the line between them.
use Rattle.std.specs.Prelude.{◌≡◌, ◌≤◌, ◌++◌, ℕ, Bool, false, List, [], ◌∷◌}
use Rattle.signals.specs.Training.{longest_zeros}
use Rattle.stations.specs.Inputs.{PlainItem, framed, checked}
use Rattle.stations.specs.declared.waiting.Wait.{Wait}
use Rattle.terminals.specs.Hearing.{PlainInput, said, check, over, busy}
use Rattle.terminals.specs.Speaking.{is_silent}
use Rattle.terminals.specs.Stopping.{caller_cut_off, caller_stop_says, limited_cut_off, limited_stop_says}
use Rattle.terminals.specs.Stopping.{hung_up, silenced, stopped, with_pages_taken}
use Rattle.joined_terminals.specs.Joining.{Joined, AnswererSends, AnswererTakes, CallerSends, CallerTakes, answerer_begins, caller_begins}

-- something that happens
pub data Happening : Type 0 where
  -- the first item on its way to a station comes
  comes_to_caller comes_to_answerer : Happening
  -- items on their way are lost, wherever they are among the others: a burst is cut, or lost whole
  lines_lose : Happening
  -- a station's next burst goes onto the line
  caller_sends answerer_sends : Happening
  -- a wait is over, as a terminal is told, whether it runs or not
  caller_waits answerer_waits : Wait → Happening
  -- the answerer's program says that pages can't be taken for now, or can again
  program_says : Bool → Happening
  -- the pages that the answerer has stored are taken out
  pages_taken : Happening
  -- the program stops a call; it stops it and sends DCN also if the call has ended; the line of a station is gone
  caller_stops answerer_stops caller_hangs_up answerer_hangs_up caller_lost answerer_lost : Happening

-- some of the items are left, in their order
pub data AreLeft : List PlainItem → List PlainItem → Type 0 where
  none : AreLeft [] []
  kept : {item : PlainItem} {some all : List PlainItem} → AreLeft some all → AreLeft (item ∷ some) (item ∷ all)
  lost : {item : PlainItem} {some all : List PlainItem} → AreLeft some all → AreLeft some (item ∷ all)

-- A training check as it comes: any octets, as they were sent or damaged, but damage makes no run of octets 00 longer. A check is all 00,
-- and its longest run of 00 decides whether it is good.
abbrev pub Arrives : List ℕ → List ℕ → Type 0
Arrives sent octets = longest_zeros octets ≤ longest_zeros sent

-- an item comes as an input: a frame as its signal, a training check as octets
abbrev pub ComesAs : PlainItem → PlainInput → Type 0
ComesAs (framed signal) input = input ≡ said signal
ComesAs (checked sent) input = (octets : List ℕ) × Arrives sent octets × (input ≡ check octets)

-- the first of some items comes as an input, and the others are left
abbrev pub FirstComes : List PlainItem → PlainInput → List PlainItem → Type 0
FirstComes [] input others = ⊥
FirstComes (item ∷ items) input others = ComesAs item input × (others ≡ items)

-- the first item on its way to the caller comes
pub record ComesToCaller (old new : Joined) : Type 0 where
  pub input : PlainInput
  pub others : List PlainItem
  pub first : FirstComes old.to_caller input others
  pub takes : CallerTakes input (record old { to_caller = others }) new

-- the first item on its way to the answerer comes
pub record ComesToAnswerer (old new : Joined) : Type 0 where
  pub input : PlainInput
  pub others : List PlainItem
  pub first : FirstComes old.to_answerer input others
  pub takes : AnswererTakes input (record old { to_answerer = others }) new

-- some items on their way are lost
pub record LinesLose (old new : Joined) : Type 0 where
  pub to_answerer : List PlainItem
  pub to_caller : List PlainItem
  pub answerers : AreLeft to_answerer old.to_answerer
  pub callers : AreLeft to_caller old.to_caller
  pub is : new ≡ record old { to_answerer = to_answerer; to_caller = to_caller }

-- What each of these makes of two joined terminals, by the contracts of `Terminal`. There is none for refused memory: the terminal stays as
-- it is, or a frame is lost, which is `lines_lose`.
abbrev pub Makes : Happening → Joined → Joined → Type 0
Makes comes_to_caller old new = ComesToCaller old new
Makes comes_to_answerer old new = ComesToAnswerer old new
Makes lines_lose old new = LinesLose old new
Makes caller_sends old new = CallerSends old new
Makes answerer_sends old new = AnswererSends old new
Makes (caller_waits wait) old new = CallerTakes (over wait) old new
Makes (answerer_waits wait) old new = AnswererTakes (over wait) old new
Makes (program_says is) old new = AnswererTakes (busy is) old new
Makes pages_taken old new =
    new ≡
    record old {
      answerer = with_pages_taken old.answerer;
      pages = old.pages ++ old.answerer.station.station.pages;
    }
Makes caller_stops old new =
    new ≡
    caller_begins (is_silent (caller_stop_says old.caller.station))
    (record old { caller = stopped caller_cut_off caller_stop_says old.caller })
Makes answerer_stops old new =
    new ≡
    answerer_begins (is_silent (limited_stop_says old.answerer.station))
    (record old { answerer = stopped limited_cut_off limited_stop_says old.answerer })
Makes caller_hangs_up old new = new ≡ caller_begins false (record old { caller = hung_up caller_cut_off old.caller })
Makes answerer_hangs_up old new = new ≡ answerer_begins false (record old { answerer = hung_up limited_cut_off old.answerer })
Makes caller_lost old new = new ≡ record old { caller = silenced caller_cut_off old.caller }
Makes answerer_lost old new = new ≡ record old { answerer = silenced limited_cut_off old.answerer }

-- what happens leads from one state of both to another, one after the other
abbrev pub Leads : List Happening → Joined → Joined → Type 0
Leads [] old new = new ≡ old
Leads (happening ∷ more) old new = (mid : Joined) × Makes happening old mid × Leads more mid new
