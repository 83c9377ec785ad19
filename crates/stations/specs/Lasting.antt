-- How long a caller can go on, whoever answers it: what it transmits and how often its wait is over, by the groups and the blocks that it
-- has begun and the RNRs that it heard.
use Rattle.std.specs.Prelude.{◌≡◌, ℕ, suc, ◌+◌, ◌*◌, ◌-◌, ◌≤◌, ◌<◌, List, [], ◌∷◌, length, Option, Some, None, IsSome, slice_get}
use Rattle.std.specs.Prelude.{Result, Ok, Err}
use Rattle.signals.specs.Signals.{rnr}
use Rattle.signals.specs.declared.params.Caps.{Caps}
use Rattle.signals.specs.declared.params.Params.{Params}
use Rattle.signals.specs.declared.params.Wish.{Wish}
use Rattle.stations.specs.Layers.{Document, speeds_left}
use Rattle.stations.specs.Blocks.{Block}
use Rattle.stations.specs.Inputs.{CallerInput, hears, timeout}
use Rattle.stations.specs.CallerFields.{CallerFields, Represents}
use Rattle.stations.specs.CallerStep.{Caller, CallerAnswer, blocks_of, caller_step, new_caller}
use Rattle.stations.specs.Runs.{caller_after, caller_turns}
use Rattle.stations.specs.declared.turn.CallerState.{CallerState}
use Rattle.stations.specs.declared.turn.CallerState.TheVariants.{WaitDis, WaitCfr, WaitBlock, WaitReady}
use Rattle.stations.specs.declared.turn.End.{End}
use Rattle.stations.specs.declared.turn.Turn.{Turn}
use Rattle.stations.specs.declared.turn.Turn.TheVariants.{Silent}

-- 1 for a turn that transmits, 0 for silence
abbrev pub sends : Turn → ℕ
sends Silent = 0
sends _ = 1

-- 1 for the end of a wait, 0 for any other input
abbrev pub is_wait : CallerInput → ℕ
is_wait timeout = 1
is_wait _ = 0

-- 1 for an RNR, 0 for any other input
abbrev pub is_busy_signal : CallerInput → ℕ
is_busy_signal (hears rnr) = 1
is_busy_signal _ = 0

-- 1 for a station that hasn't ended
abbrev pub goes_on_by : Option End → ℕ
goes_on_by None = 1
goes_on_by (Some why) = 0

-- how many of the turns transmit
abbrev pub transmissions : List Turn → ℕ
transmissions [] = 0
transmissions (turn ∷ turns) = sends turn + transmissions turns

-- how many inputs end a wait
abbrev pub waits_over : List CallerInput → ℕ
waits_over [] = 0
waits_over (input ∷ inputs) = is_wait input + waits_over inputs

-- how many inputs are RNRs
abbrev pub busy_signals : List CallerInput → ℕ
busy_signals [] = 0
busy_signals (input ∷ inputs) = is_busy_signal input + busy_signals inputs

-- the groups that a caller has begun
abbrev pub groups_in : CallerState → Caller → ℕ
groups_in WaitDis c = length c.finished
groups_in WaitCfr c = suc (length c.finished)
groups_in WaitBlock c = suc (length c.finished)
groups_in WaitReady c = suc (length c.finished)

-- how many blocks are begun: the present one too, if there is a block at its place
abbrev pub counted_to : ℕ → Option Block → ℕ
counted_to place None = place
counted_to place (Some block) = suc place

-- the blocks that it has begun
abbrev pub blocks_in : CallerState → Caller → ℕ
blocks_in WaitDis c = c.place
blocks_in WaitCfr c = c.place
blocks_in WaitBlock c = counted_to c.place (slice_get (blocks_of c) c.place)
blocks_in WaitReady c = counted_to c.place (slice_get (blocks_of c) c.place)

-- the groups that a caller has begun, by its tuple
abbrev pub groups_of_caller : Caller → ℕ
groups_of_caller c = groups_in c.state c

-- the blocks that a caller has begun, by its tuple
abbrev pub blocks_of_caller : Caller → ℕ
blocks_of_caller c = blocks_in c.state c

-- the transmissions that a caller has left for its present group or block, if no RNR comes
abbrev pub sends_in : CallerState → Caller → ℕ
sends_in WaitDis c = 0
sends_in WaitCfr c = 3 * speeds_left c.caps c.wish c.params + (3 - c.try)
sends_in WaitBlock c = 3 * (3 - c.pprs) + (3 - c.try)
sends_in WaitReady c = 3 * (3 - c.pprs) + (3 - c.try)

-- the ends of a wait that a caller has left for its present group or block, if no RNR comes
abbrev pub waits_in : CallerState → Caller → ℕ
waits_in WaitDis c = 0
waits_in WaitCfr c = 2 * speeds_left c.caps c.wish c.params + (3 - c.try)
waits_in WaitBlock c = 2 * (3 - c.pprs) + (3 - c.try)
waits_in WaitReady c = 2 * (3 - c.pprs) + (3 - c.try)

-- a caller that waits for a DIS has begun no group, and one that doesn't a single one
abbrev pub HasGroup : CallerState → List Params → Type 0
HasGroup WaitDis present = present ≡ []
HasGroup WaitCfr present = length present ≡ 1
HasGroup WaitBlock present = length present ≡ 1
HasGroup WaitReady present = length present ≡ 1

-- what a step takes of what is left, if groups and blocks are paid for as they begin
pub record Lasts (c : Caller) (input : CallerInput) (answer : CallerAnswer) : Type 0 where
  pub group : HasGroup answer.next.state answer.next.present
  pub sending :
      (sends answer.turn + sends_in answer.next.state answer.next + goes_on_by answer.next.ending) +
      (18 * groups_in c.state c + 12 * blocks_in c.state c) ≤
      (sends_in c.state c + goes_on_by c.ending) +
      (18 * groups_in answer.next.state answer.next + 12 * blocks_in answer.next.state answer.next) + 3 * is_busy_signal input
  pub waiting :
      c.ending ≡ None →
      (is_wait input + waits_in answer.next.state answer.next + goes_on_by answer.next.ending) +
      (12 * groups_in c.state c + 8 * blocks_in c.state c) ≤
      (waits_in c.state c + goes_on_by c.ending) +
      (12 * groups_in answer.next.state answer.next + 8 * blocks_in answer.next.state answer.next) + 2 * is_busy_signal input

-- law: each step of any caller takes so much, whatever it hears
abbrev pub StepsLast : Type 0
StepsLast = (c : Caller) (input : CallerInput) → HasGroup c.state c.present → Lasts c input (caller_step c input)

-- a step of the program, of a caller that runs, takes so much: whichever tuple the fields represent, they represent one afterwards of which
-- this holds; or memory was refused, and nothing has changed
abbrev pub LastsOrRefuses : {E : Type 0} → CallerFields → CallerInput → CallerFields → Result Turn E → Type 0
LastsOrRefuses old input new (Ok turn) =
    (t : Caller) → Represents old t → t.ending ≡ None →
    (next : Caller) × Represents new next × Lasts t input (record { next = next; turn = turn })
LastsOrRefuses old input new (Err refused) = new ≡ old

-- what a caller has done after inputs: it has transmitted at most so often, and has ended once its wait was over more often than that
pub record IsBounded (inputs : List CallerInput) (turns : List Turn) (c : Caller) : Type 0 where
  pub transmits : transmissions turns ≤ 18 * groups_in c.state c + 12 * blocks_in c.state c + 3 * busy_signals inputs + 1
  pub ends :
      12 * groups_in c.state c + 8 * blocks_in c.state c + 2 * busy_signals inputs < waits_over inputs → IsSome c.ending

-- law: after any inputs a caller that has begun g groups and b blocks and heard r RNRs has transmitted at most 18 g + 12 b + 3 r + 1 times,
-- and has ended if its wait was over more than 12 g + 8 b + 2 r times
abbrev pub CallersEnd : Type 0
CallersEnd =
    (document : Document) (wish : Wish) (caps : Caps) (params : Params) (inputs : List CallerInput) →
    IsBounded inputs (caller_turns inputs (new_caller document wish caps params))
    (caller_after inputs (new_caller document wish caps params))
