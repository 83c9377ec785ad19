-- A station with the turn that it has to say, and what an input makes of both.
use Rattle.std.specs.Prelude.{ℕ, ◌≡◌, Bool, true, false, cond, List, Result, Ok, Err}
use Rattle.stations.specs.Bursts.{PlainBurst}
use Rattle.stations.specs.declared.turn.Turn.{Turn}
use Rattle.stations.specs.declared.turn.Turn.TheVariants.{Mcf, Silent}
use Rattle.terminals.specs.Hearing.{PlainInput}

-- a station, the turn that is kept for sending, and how many of the turn's bursts were taken
pub record Speaking (S : Type 0) : Type 0 where
  pub station : S
  pub turn : Turn
  pub taken : ℕ

-- a turn is silence
abbrev pub is_silent : Turn → Bool
is_silent Silent = true
is_silent _ = false

-- a turn is MCF
abbrev pub is_mcf : Turn → Bool
is_mcf Mcf = true
is_mcf _ = false

-- what the turn of a step makes of a station with its kept turn: it takes the place of the kept one; silence leaves the kept one
abbrev pub spoken : {S : Type 0} → Speaking S → S → Turn → Speaking S
spoken old station turn =
    cond (is_silent turn)
    (record { station = station; turn = old.turn; taken = old.taken })
    (record { station = station; turn = turn; taken = 0 })

-- a step of a station: before, the input, after, and the turn
abbrev pub StepOf : Type 0 → Type 1
StepOf S = S → PlainInput → S → Turn → Type 0

-- the station has made its step; or memory was refused, and nothing has changed
abbrev pub StepsOrStays : {S E : Type 0} → StepOf S → S → PlainInput → S → Result Turn E → Type 0
StepsOrStays steps old input new (Ok turn) = steps old input new turn
StepsOrStays steps old input new (Err refused) = new ≡ old

-- the bursts that a station has for a turn
abbrev pub BurstsOf : Type 0 → Type 1
BurstsOf S = S → Turn → List PlainBurst → Type 0

-- these are the bursts that a station has for a turn
abbrev pub AreLent : {S : Type 0} → BurstsOf S → S → Turn → List PlainBurst → Type 0
AreLent lends station turn bursts = lends station turn bursts

-- an input was taken: the station has made its step, and the step's turn is kept unless it is silence
pub record Takes (S : Type 0) (steps : StepOf S) (old : Speaking S) (input : PlainInput) (new : Speaking S) : Type 0 where
  pub station : S
  pub turn : Turn
  pub steps_so : steps old.station input station turn
  pub is : new ≡ spoken old station turn
