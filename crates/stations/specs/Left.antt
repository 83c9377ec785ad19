-- What a caller has left, as numbers of its tuple alone, and what each step spends.
use Rattle.std.specs.Prelude.{◌≡◌, ◌≢◌, ℕ, ◌+◌, ◌-◌, ◌*◌, ◌≤◌, ◌<◌, ◌⊎◌, Bool, true, false, IsSome, Result, Ok, Err}
use Rattle.signals.specs.Signals.{cfr, mcf, rnr}
use Rattle.stations.specs.Layers.{speeds_left}
use Rattle.stations.specs.CallerStep.{Caller, CallerAnswer, caller_step, all_frames}
use Rattle.stations.specs.Inputs.{CallerInput, hears}
use Rattle.stations.specs.CallerFields.{CallerFields, Represents}
use Rattle.stations.specs.declared.turn.CallerState.{CallerState}
use Rattle.stations.specs.declared.turn.CallerState.TheVariants.{WaitDis, WaitCfr, WaitBlock, WaitReady}
use Rattle.stations.specs.declared.turn.Turn.{Turn}
use Rattle.stations.specs.declared.turn.Turn.TheVariants.{Training as SendTraining, Burst, Pps as SendPps, Rr as SendRr, Dcn as SendDcn}

-- the turns with a DCS that a caller has left in a state
abbrev pub dcs_in : CallerState → Caller → ℕ
dcs_in WaitDis c = 18
dcs_in WaitCfr c = 3 * speeds_left c.caps c.wish c.params + (3 - c.try)
dcs_in WaitBlock c = 0
dcs_in WaitReady c = 0

-- the turns with a DCS that a caller has left, by its tuple alone
abbrev pub dcs_left : Caller → ℕ
dcs_left c = dcs_in c.state c

-- the turns with a PPS that it has left for the present block in a state
abbrev pub pps_in : CallerState → Caller → ℕ
pps_in WaitDis c = 0
pps_in WaitCfr c = 0
pps_in WaitBlock c = 3 * (3 - c.pprs) + (3 - c.try)
pps_in WaitReady c = 3 * (3 - c.pprs)

-- the turns with a PPS that a caller has left for the present block, by its tuple alone
abbrev pub pps_left : Caller → ℕ
pps_left c = pps_in c.state c

-- the turns with an RR that it has left since the last RNR in a state
abbrev pub rr_in : CallerState → Caller → ℕ
rr_in WaitDis c = 0
rr_in WaitCfr c = 0
rr_in WaitBlock c = 0
rr_in WaitReady c = 3 - c.try

-- the turns with an RR that a caller has left since the last RNR, by its tuple alone
abbrev pub rr_left : Caller → ℕ
rr_left c = rr_in c.state c

-- the turns that end in a PPS
abbrev pub is_block_turn : Turn → Bool
is_block_turn (Burst map) = true
is_block_turn SendPps = true
is_block_turn _ = false

-- the inputs that the first burst of a block answers
abbrev pub StartsBlock : CallerInput → Type 0
StartsBlock (hears cfr) = Unit {0}
StartsBlock (hears mcf) = Unit {0}
StartsBlock _ = ⊥

-- the input is an RNR
abbrev pub IsRnr : CallerInput → Type 0
IsRnr (hears rnr) = Unit {0}
IsRnr _ = ⊥

-- the input that may end a group
abbrev pub EndsGroup : CallerInput → Type 0
EndsGroup (hears mcf) = Unit {0}
EndsGroup _ = ⊥

-- what a step spends of the turns left: only an MCF that leads back to WaitDis raises those with a DCS, only the whole burst after a CFR or
-- an MCF those with a PPS, and only an RNR those with an RR
pub record Spends (c : Caller) (input : CallerInput) (answer : CallerAnswer) : Type 0 where
  pub training : answer.turn ≡ SendTraining → dcs_left answer.next < dcs_left c
  pub never_more : (dcs_left answer.next ≤ dcs_left c) ⊎ (EndsGroup input × (answer.next.state ≡ WaitDis))
  pub block : is_block_turn answer.turn ≡ true → (pps_left answer.next < pps_left c) ⊎ (StartsBlock input × (pps_left answer.next ≡ 11))
  pub first : StartsBlock input → is_block_turn answer.turn ≡ true → answer.turn ≡ Burst all_frames
  pub no_block : is_block_turn answer.turn ≡ false → pps_left answer.next ≤ pps_left c
  pub asking : answer.turn ≡ SendRr → (rr_left answer.next < rr_left c) ⊎ (IsRnr input × (rr_left answer.next ≡ 2))
  pub not_asking : answer.turn ≢ SendRr → rr_left answer.next ≤ rr_left c
  pub dcn : answer.turn ≡ SendDcn → IsSome answer.next.ending

-- law: each step of any caller spends so, whatever it hears
abbrev pub StepsSpend : Type 0
StepsSpend = (c : Caller) (input : CallerInput) → Spends c input (caller_step c input)

-- a step of the program spends so: whichever tuple the fields represent, they represent one afterwards that has spent so; or memory was
-- refused, and nothing has changed
abbrev pub SpendsOrRefuses : {E : Type 0} → CallerFields → CallerInput → CallerFields → Result Turn E → Type 0
SpendsOrRefuses old input new (Ok turn) =
    (t : Caller) → Represents old t →
    (next : Caller) × Represents new next × Spends t input (record { next = next; turn = turn })
SpendsOrRefuses old input new (Err refused) = new ≡ old
