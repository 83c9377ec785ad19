-- What a call tells of the state of a terminal.
use Rattle.std.specs.Prelude.{ℕ, ◌≡◌, Bool, false, List, Option, Some}
use Rattle.stations.specs.declared.stopping.CallEnd.{CallEnd}
use Rattle.stations.specs.declared.stopping.CallEnd.TheVariants.{By}
use Rattle.stations.specs.declared.turn.End.TheVariants.{Normal, PeerLeft}
use Rattle.terminals.specs.Hearing.{HasHeard}
use Rattle.terminals.specs.Timed.{TimedFields, all_frames}
use Rattle.terminals.specs.declared.stopping.Shown.{Shown}
use Rattle.g3fax.specs.Numbers.{end_number, listens_carrier, listens_number, wait_number}
use Rattle.g3fax.specs.declared.states.G3State.{G3State}

-- the numbers of what a station shows of its call
pub record TellsShown (shown : Shown) (state : G3State) : Type 0 where
  pub listens : state.listens ≡ listens_number shown.listens
  pub carrier : state.carrier ≡ listens_carrier shown.listens
  pub wait : state.wait ≡ wait_number shown.running
  pub longer : state.longer ≡ wait_number shown.longer
  pub ends : state.end ≡ end_number shown.end

-- the number of good frames that were heard is told, of octets of the line and as contents
abbrev pub TellsFrames : {S : Type 0} → TimedFields S → G3State → Type 0
TellsFrames timed state = (octets : List ℕ) → HasHeard timed.terminal.framing octets → state.frames ≡ all_frames octets timed.contents

-- why the call of an answerer ended, by whether each page that it has stored was confirmed: a caller that left after its last page, and wasn't
-- told that this has arrived, left too soon
abbrev pub known_end : Bool → Option CallEnd → Option CallEnd
known_end false (Some (By Normal)) = Some (By PeerLeft)
known_end _ end = end
