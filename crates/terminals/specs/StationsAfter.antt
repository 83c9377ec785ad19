-- Where each station stands after signals that a terminal heard.
use Rattle.std.specs.Prelude.{ℕ, ◌≡◌, ◌≢◌, ◌&&◌, nat_lt, Bool, true, false, cond, List, [], ◌∷◌, drop, slice_get, Option, Some, None}
use Rattle.signals.specs.Signals.{cfr, dcn, mcf}
use Rattle.stations.specs.AnswererStep.{Answerer, answerer_items}
use Rattle.stations.specs.Blocks.{Block}
use Rattle.stations.specs.Bursts.{PlainBurst, bursts_of}
use Rattle.stations.specs.CallerFields.{CallerFields, Represents}
use Rattle.stations.specs.CallerStep.{Caller, blocks_of, caller_items}
use Rattle.stations.specs.Inputs.{AnswererInput}
use Rattle.stations.specs.Laws.{Each}
use Rattle.stations.specs.declared.turn.CallerState.TheVariants.{WaitBlock, WaitCfr}
use Rattle.stations.specs.declared.turn.Turn.{Turn}
use Rattle.terminals.specs.Hearing.{PlainInput, said}
use Rattle.terminals.specs.Runs.{TakesAll, is_passed}
use Rattle.terminals.specs.Speaking.{Speaking, spoken}
use Rattle.terminals.specs.Stations.{AnswererLends, AnswererSteps, CallerLends, CallerSteps, answerer_given, answerer_takes, caller_given}

-- an input that is taken, before others
abbrev pub put_taken : Option AnswererInput → List AnswererInput → List AnswererInput
put_taken None inputs = inputs
put_taken (Some input) inputs = input ∷ inputs

-- what an answerer takes of inputs
abbrev pub answerer_inputs : List PlainInput → List AnswererInput
answerer_inputs [] = []
answerer_inputs (input ∷ inputs) = put_taken (answerer_takes input) (answerer_inputs inputs)

-- there is a burst
abbrev pub is_burst : List PlainBurst → Bool
is_burst [] = false
is_burst (burst ∷ bursts) = true

-- one of these bursts is left to be sent, if so many were taken; of the first 255, which are more than a turn has
abbrev pub is_left : ℕ → List PlainBurst → Bool
is_left taken bursts = nat_lt taken 255 && is_burst (drop taken bursts)

-- What a signal makes of a station that has these bursts for its kept turn: nothing if one of them is left and it isn't DCN; else the station is
-- that after the step, whose turn is kept unless it is silence.
abbrev pub unless_left : {S : Type 0} → PlainInput → List PlainBurst → Speaking S → S → Turn → Speaking S
unless_left input bursts old station turn = cond (is_passed (is_left old.taken bursts) input) old (spoken old station turn)

-- what signals make of an answerer and its kept turn
abbrev pub answerer_heard : List PlainInput → Speaking Answerer → Speaking Answerer
answerer_heard [] s = s
answerer_heard (input ∷ inputs) s =
    answerer_heard inputs
    (unless_left input (bursts_of s.station.params.speed (answerer_items s.station s.turn)) s (answerer_given s.station input).next
    (answerer_given s.station input).turn)

-- what signals make of a caller and its kept turn
abbrev pub caller_heard : List PlainInput → Speaking Caller → Speaking Caller
caller_heard [] s = s
caller_heard (input ∷ inputs) s =
    caller_heard inputs
    (unless_left input (bursts_of s.station.params.speed (caller_items s.station s.turn)) s (caller_given s.station input).next
    (caller_given s.station input).turn)

-- a caller's fields represent the tuple, and the turn and what was taken of it are the same
pub record Speaks (v : Speaking CallerFields) (s : Speaking Caller) : Type 0 where
  pub station : Represents v.station s.station
  pub turn : v.turn ≡ s.turn
  pub taken : v.taken ≡ s.taken

-- law: an answerer that has heard signals is where its table leads by those that were not passed over
abbrev pub AnswererIsAfter : Type 0
AnswererIsAfter =
    (old new : Speaking Answerer) (inputs : List PlainInput) → TakesAll AnswererSteps AnswererLends old inputs new →
    new ≡ answerer_heard inputs old

-- law: a caller that has heard signals is where its table leads by those that were not passed over
abbrev pub CallerIsAfter : Type 0
CallerIsAfter =
    (old new : Speaking CallerFields) (inputs : List PlainInput) (c : Caller) → TakesAll CallerSteps CallerLends old inputs new →
    Represents old.station c → Speaks new (caller_heard inputs (record { station = c; turn = old.turn; taken = old.taken }))

-- The law: while a burst is left to be sent no signals change anything, if DCN isn't among them. So of a burst that says CFR, MCF and MCF a
-- caller that awaits CFR takes the CFR alone: its block goes out, and none is confirmed.
pub record WhatFollowsIsPassed : Type 0 where
  pub caller :
      (old new : Speaking CallerFields) (inputs : List PlainInput) (c : Caller) → Represents old.station c →
      is_left old.taken (bursts_of c.params.speed (caller_items c old.turn)) ≡ true → Each (λ x. x ≢ said dcn) inputs →
      TakesAll CallerSteps CallerLends old inputs new →
      new ≡ old
  pub answerer :
      (old new : Speaking Answerer) (inputs : List PlainInput) →
      is_left old.taken (bursts_of old.station.params.speed (answerer_items old.station old.turn)) ≡ true →
      Each (λ x. x ≢ said dcn) inputs → TakesAll AnswererSteps AnswererLends old inputs new → new ≡ old
  pub doubled :
      (old new : Speaking CallerFields) (c : Caller) (block : Block) → Represents old.station c →
      is_left old.taken (bursts_of c.params.speed (caller_items c old.turn)) ≡ false → c.ending ≡ None → c.state ≡ WaitCfr →
      slice_get (blocks_of c) c.place ≡ Some block →
      TakesAll CallerSteps CallerLends old (said cfr ∷ said mcf ∷ said mcf ∷ []) new →
      Represents new.station (record c { state = WaitBlock; try = 1; pprs = 0 })
