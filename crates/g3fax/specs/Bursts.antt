-- What a call answers of the bursts of a terminal.
use Rattle.std.specs.Prelude.{ℕ, ◌≡◌, ◌≢◌, ◌⊎◌, ◌↔◌, Bool, false, Ok}
use Rattle.std.specs.declared.alloc.AllocError.{AllocError}
use Rattle.std.specs.declared.option.Option.{Option}
use Rattle.std.specs.declared.option.Option.TheVariants.{None, Some}
use Rattle.terminals.specs.Clocks.{after_burst}
use Rattle.terminals.specs.Figures.{figures_said}
use Rattle.terminals.specs.Sending.{HasBurst, Sends}
use Rattle.terminals.specs.Timed.{TimedFields}
use Rattle.terminals.specs.Watching.{SawSent}
use Rattle.terminals.specs.declared.clock.LineState.TheVariants.{Unsaid}
use Rattle.terminals.specs.declared.sending.SentBurst.{SentBurst}
use Rattle.g3fax.specs.Codes.{Tells}
use Rattle.g3fax.specs.Handles.{Fills, HasOctets}
use Rattle.g3fax.specs.Numbers.{carrier_number, check_number, flag_number}
use Rattle.g3fax.specs.Stations.{Behaviour}
use Rattle.g3fax.specs.Statuses.{ok, no_memory, nothing_there}
use Rattle.g3fax.specs.declared.bursts.G3Burst.{G3Burst}
use Rattle.g3fax.specs.declared.handle.Kept.{Kept}

-- what is told of a burst: its number of bits, its carrier, and whether it is the turn's last
pub record TellsBurst (sent : SentBurst) (burst : G3Burst) : Type 0 where
  pub bits : Tells sent.bits burst.bits
  pub carrier : burst.carrier ≡ carrier_number sent.carrier
  pub check : burst.check ≡ check_number sent.carrier
  pub last : burst.last ≡ flag_number sent.last

-- A burst was taken of the turn: its octets fill a handle, its details are told, and its frames are counted. It has ended the calm, and nothing is said of the line.
pub record GivesBurst (S : Type 0) (b : Behaviour S) (old new : TimedFields S) (octets : Option Kept) (burst : G3Burst) : Type 0 where
  pub sent : SentBurst
  pub sends : Sends {E = AllocError} b.side b.lends old.terminal.speaking new.terminal.speaking (Ok (Some sent))
  pub octets_are : HasOctets (λ octets. octets ≡ sent.octets.items) octets
  pub told : TellsBurst sent burst
  pub counts : SawSent {E = AllocError} figures_said b.side b.lends old.terminal.speaking old.figures new.figures (Ok (Some sent))
  pub rest : new ≡ record old { terminal = new.terminal; figures = new.figures; clock = after_burst old.clock; line = Unsaid }

-- 106 exactly if no burst of the turn is left
abbrev pub IsNothing : {S : Type 0} → Behaviour S → TimedFields S → ℕ → Type 0
IsNothing b old status = (has : Bool) × HasBurst b.lends old.terminal.speaking has × ((status ≡ nothing_there) ↔ (has ≡ false))

-- The next burst of the turn fills an empty handle with its octets, and its details are told. 106 exactly if none is left, whatever memory is
-- refused. By any status above 0 nothing changes.
pub record NextBurst (S : Type 0) (b : Behaviour S) (old new : TimedFields S) (before after : Option Kept) (burst : G3Burst) (status : ℕ) :
    Type 0 where
  pub fills : Fills (λ octets. GivesBurst S b old new octets burst) before status after
  pub framing : new.terminal.framing ≡ old.terminal.framing
  pub kept : status ≢ ok → new ≡ old
  pub nothing : status ≡ nothing_there → Sends {E = AllocError} b.side b.lends old.terminal.speaking new.terminal.speaking (Ok None)
  pub exactly : before ≡ None → IsNothing b old status
  pub only : before ≡ None → (status ≡ ok) ⊎ ((status ≡ nothing_there) ⊎ (status ≡ no_memory))
