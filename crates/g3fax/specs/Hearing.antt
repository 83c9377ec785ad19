-- What calls answer and make of the terminal of a station: what it hears, and how its call is stopped.
use Rattle.std.specs.Prelude.{ℕ, ◌≡◌, ◌≢◌, ◌<◌, ◌≤◌, ◌⊎◌, Bool, true, false, List, Ok, Err, length}
use Rattle.std.specs.declared.option.Option.{Option}
use Rattle.std.specs.declared.option.Option.TheVariants.{None, Some}
use Rattle.signals.specs.Reading.{read_content}
use Rattle.stations.specs.declared.waiting.Wait.{Wait}
use Rattle.terminals.specs.Figures.{figures_heard}
use Rattle.terminals.specs.Hearing.{PlainInput, check, heard_if, over}
use Rattle.terminals.specs.Runs.{Hears, TakesAll}
use Rattle.terminals.specs.Speaking.{Takes}
use Rattle.terminals.specs.Stopping.{hung_up, silenced, stopped}
use Rattle.terminals.specs.Timed.{Brings, BringsCheck, Misses, SeesContent, SeesOctets, TimedFields, one_more}
use Rattle.terminals.specs.Watching.{SeesBy}
use Rattle.terminals.specs.declared.fault.HearFault.TheVariants.{FrameLost}
use Rattle.terminals.specs.declared.watching.Watched.{Watched}
use Rattle.g3fax.specs.Frames.{longest_content}
use Rattle.g3fax.specs.Stations.{Behaviour}
use Rattle.g3fax.specs.Statuses.{ok, no_memory, bad_choice, bad_length, frame_lost}

-- The station has taken each signal in the octets, or passed over it while a burst of its turn was left to be sent; what they brought was seen
-- and counted. By 9 nothing was taken; by 108 frames in them are lost.
pub record HearsOctets (S : Type 0) (b : Behaviour S) (old : TimedFields S) (octets : List ℕ) (new : TimedFields S) (status : ℕ) : Type 0 where
  pub done : status ≡ ok → Hears b.steps b.lends old.terminal octets new.terminal (Ok tt)
  pub lost : status ≡ frame_lost → Hears b.steps b.lends old.terminal octets new.terminal (Err FrameLost)
  pub sees : status ≢ no_memory → SeesOctets S b.shows old.terminal octets old.watched new.watched (Ok tt)
  pub counts : status ≢ no_memory → SeesBy figures_heard old.terminal.framing octets old.figures new.figures
  pub brings : status ≢ no_memory → Brings old.terminal.framing new.terminal.framing old.brought new.brought
  pub rest : new ≡
      record old { terminal = new.terminal; watched = new.watched; figures = new.figures; brought = new.brought }
  pub kept : status ≡ no_memory → new ≡ old
  pub only : (status ≡ ok) ⊎ ((status ≡ no_memory) ⊎ (status ≡ frame_lost))

-- The station has taken the signal that a content says, if it says one, or passed over it; and the content was seen and counted.
pub record HearsContent (S : Type 0) (b : Behaviour S) (old : TimedFields S) (content : List ℕ) (new : TimedFields S) : Type 0 where
  pub takes : TakesAll b.steps b.lends old.terminal.speaking (heard_if (read_content content)) new.terminal.speaking
  pub framing : new.terminal.framing ≡ old.terminal.framing
  pub sees : SeesContent S b.shows old.terminal content old.watched new.watched
  pub counts : new.figures ≡ figures_heard old.figures content (read_content content)
  pub rest : new ≡ record old {
    terminal = new.terminal;
    watched = new.watched;
    figures = new.figures;
    brought = true;
    contents = one_more old.contents;
  }

-- a content was heard, status 0; or memory was refused, 9, and nothing has changed
pub record TakesContent (S : Type 0) (b : Behaviour S) (old : TimedFields S) (content : List ℕ) (new : TimedFields S) (status : ℕ) :
    Type 0 where
  pub done : status ≡ ok → HearsContent S b old content new
  pub kept : status ≢ ok → new ≡ old
  pub only : (status ≡ ok) ⊎ (status ≡ no_memory)

-- a page came under the number of the last one
abbrev pub is_reused : Option Watched → Bool
is_reused None = false
is_reused (Some w) = w.used.again

-- a terminal whose call is stopped if a page came under the number of the last one
abbrev pub stopped_if_reused : {S : Type 0} → Behaviour S → Bool → TimedFields S → TimedFields S
stopped_if_reused b false t = t
stopped_if_reused b true t =
    record t { terminal = record t.terminal { speaking = stopped b.cut_off b.stop_says t.terminal.speaking } }

-- octets were heard, and then the call was stopped if a page came under the number of the last one
pub record HearsAndStops (S : Type 0) (b : Behaviour S) (old : TimedFields S) (octets : List ℕ) (new : TimedFields S) (status : ℕ) :
    Type 0 where
  pub heard : TimedFields S
  pub hears : HearsOctets S b old octets heard status
  pub stops : new ≡ stopped_if_reused b (is_reused heard.watched) heard

-- a terminal has heard octets; by 9 nothing was taken
pub record AnswersOctets (S : Type 0) (b : Behaviour S) (old : TimedFields S) (octets : List ℕ) (new : TimedFields S) (status : ℕ) :
    Type 0 where
  pub heard : status ≢ no_memory → HearsAndStops S b old octets new status
  pub kept : status ≡ no_memory → new ≡ old
  pub only : (status ≡ ok) ⊎ ((status ≡ no_memory) ⊎ (status ≡ frame_lost))

-- a content was heard, and then the call was stopped if a page came under the number of the last one
pub record HearsContentAndStops (S : Type 0) (b : Behaviour S) (old : TimedFields S) (content : List ℕ) (new : TimedFields S) : Type 0 where
  pub heard : TimedFields S
  pub hears : HearsContent S b old content heard
  pub stops : new ≡ stopped_if_reused b (is_reused heard.watched) heard

-- A terminal has heard the content of a good frame. 105 exactly if the content hasn't 3 to 300 octets; else 0, or 9. By any status above 0
-- nothing changes.
pub record AnswersContent (S : Type 0) (b : Behaviour S) (old : TimedFields S) (content : List ℕ) (new : TimedFields S) (status : ℕ) :
    Type 0 where
  pub done : status ≡ ok → HearsContentAndStops S b old content new
  pub kept : status ≢ ok → new ≡ old
  pub short : length content < 3 → status ≡ bad_length
  pub long : longest_content < length content → status ≡ bad_length
  pub only : 3 ≤ length content → length content ≤ longest_content → (status ≡ ok) ⊎ (status ≡ no_memory)

-- the station has taken an input; or memory was refused, and nothing has changed
pub record TakesInput (S : Type 0) (b : Behaviour S) (old : TimedFields S) (input : PlainInput) (new : TimedFields S) (status : ℕ) :
    Type 0 where
  pub done : status ≡ ok → Takes S b.steps old.terminal.speaking input new.terminal.speaking
  pub framing : new.terminal.framing ≡ old.terminal.framing
  pub rest : new ≡ record old { terminal = new.terminal }
  pub kept : status ≢ ok → new ≡ old
  pub only : (status ≡ ok) ⊎ (status ≡ no_memory)

-- the station has taken the octets of a training check, and whether it was awaited is noted; or memory was refused, and nothing has changed
pub record TakesCheck (S : Type 0) (b : Behaviour S) (old : TimedFields S) (octets : List ℕ) (new : TimedFields S) (status : ℕ) :
    Type 0 where
  pub done : status ≡ ok → Takes S b.steps old.terminal.speaking (check octets) new.terminal.speaking
  pub brings : status ≡ ok → BringsCheck S b.shows old.terminal.speaking.station octets old.brought new.brought
  pub framing : new.terminal.framing ≡ old.terminal.framing
  pub rest : new ≡ record old { terminal = new.terminal; brought = new.brought }
  pub kept : status ≢ ok → new ≡ old
  pub only : (status ≡ ok) ⊎ (status ≡ no_memory)

-- what the station listens for hasn't come; or memory was refused, and nothing has changed
pub record MissesWhatIsHeard (S : Type 0) (b : Behaviour S) (old new : TimedFields S) (status : ℕ) : Type 0 where
  pub done : status ≡ ok → Misses S b.steps b.shows old.terminal new.terminal
  pub rest : new ≡ record old { terminal = new.terminal }
  pub kept : status ≢ ok → new ≡ old
  pub only : (status ≡ ok) ⊎ (status ≡ no_memory)

-- the station has taken that a wait is over; 104 exactly if the number is no wait's
abbrev pub EndsWait : (S : Type 0) → Behaviour S → Option Wait → TimedFields S → TimedFields S → ℕ → Type 0
EndsWait S b None old new status = (status ≡ bad_choice) × (new ≡ old)
EndsWait S b (Some wait) old new status = TakesInput S b old (over wait) new status

-- the program has stopped the call, as `stopped` of `terminals` says
pub record StopsCall (S : Type 0) (b : Behaviour S) (old new : TimedFields S) (status : ℕ) : Type 0 where
  pub done : status ≡ ok
  pub framing : new.terminal.framing ≡ old.terminal.framing
  pub speaking : new.terminal.speaking ≡ stopped b.cut_off b.stop_says old.terminal.speaking
  pub rest : new ≡ record old { terminal = new.terminal }

-- the program hangs up, whether the call runs or not, as `hung_up` of `terminals` says: DCN is sent
pub record HangsUp (S : Type 0) (b : Behaviour S) (old new : TimedFields S) (status : ℕ) : Type 0 where
  pub done : status ≡ ok
  pub framing : new.terminal.framing ≡ old.terminal.framing
  pub speaking : new.terminal.speaking ≡ hung_up b.cut_off old.terminal.speaking
  pub rest : new ≡ record old { terminal = new.terminal }

-- the line is gone, as `silenced` of `terminals` says
pub record LosesLine (S : Type 0) (b : Behaviour S) (old new : TimedFields S) (status : ℕ) : Type 0 where
  pub done : status ≡ ok
  pub framing : new.terminal.framing ≡ old.terminal.framing
  pub speaking : new.terminal.speaking ≡ silenced b.cut_off old.terminal.speaking
  pub rest : new ≡ record old { terminal = new.terminal }
