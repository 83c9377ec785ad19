-- Signals that a station hears one after the other.
use Rattle.std.specs.Prelude.{ℕ, ◌≡◌, ◌⊎◌, ◌&&◌, not, Bool, true, false, List, [], ◌∷◌, ◌++◌, Result, Ok, Err}
use Rattle.hdlc.specs.DeframerState.{DeframerState}
use Rattle.signals.specs.Signals.{PlainSignal, dcn}
use Rattle.terminals.specs.Hearing.{PlainInput, HasHeard, heard_of, said}
use Rattle.terminals.specs.Sending.{HasBurst}
use Rattle.terminals.specs.Speaking.{BurstsOf, Speaking, StepOf, Takes}
use Rattle.terminals.specs.declared.fault.HearFault.{HearFault}
use Rattle.terminals.specs.declared.fault.HearFault.TheVariants.{NothingTaken, FrameLost}

-- a signal is DCN
abbrev pub is_dcn : PlainSignal → Bool
is_dcn dcn = true
is_dcn _ = false

-- What a station that is sending passes over: every signal but DCN. After DCN the other station is gone, and what waits doesn't reach it.
abbrev pub is_passed : Bool → PlainInput → Bool
is_passed sending (said signal) = sending && not (is_dcn signal)
is_passed sending _ = sending

-- a signal was taken, or passed over
abbrev pub TakesUnless : {S : Type 0} → Bool → StepOf S → Speaking S → PlainInput → Speaking S → Type 0
TakesUnless true steps old input new = new ≡ old
TakesUnless {S} false steps old input new = Takes S steps old input new

-- A signal comes. A station that has its turn doesn't listen (T.30 is half-duplex): while a burst of the kept turn is left to be sent a signal
-- is passed over, and nothing changes. Else it is taken.
pub record HearsOne (S : Type 0) (steps : StepOf S) (lends : BurstsOf S) (old : Speaking S) (input : PlainInput) (new : Speaking S) :
    Type 0 where
  pub sending : Bool
  pub has_burst : HasBurst lends old sending
  pub takes : TakesUnless (is_passed sending input) steps old input new

-- signals came one after the other, and each was taken or passed over
abbrev pub TakesAll : {S : Type 0} → StepOf S → BurstsOf S → Speaking S → List PlainInput → Speaking S → Type 0
TakesAll steps lends old [] new = new ≡ old
TakesAll {S} steps lends old (input ∷ inputs) new =
    (mid : Speaking S) × HearsOne S steps lends old input mid × TakesAll steps lends mid inputs new

-- signals came one after the other, but some may have been lost
abbrev pub TakesSome : {S : Type 0} → StepOf S → BurstsOf S → Speaking S → List PlainInput → Speaking S → Type 0
TakesSome steps lends old [] new = new ≡ old
TakesSome {S} steps lends old (input ∷ inputs) new =
    (mid : Speaking S) × (HearsOne S steps lends old input mid ⊎ (mid ≡ old)) × TakesSome steps lends mid inputs new

-- a terminal: what its deframer keeps of the line, and its station
pub record TerminalFields (S : Type 0) : Type 0 where
  pub framing : DeframerState
  pub speaking : Speaking S

-- octets were heard, after those before: the station has taken or passed over each signal in them; or one or more were lost; or nothing has
-- changed
abbrev pub Hears :
    {S : Type 0} → StepOf S → BurstsOf S → TerminalFields S → List ℕ → TerminalFields S → Result (Unit {0}) HearFault → Type 0
Hears steps lends old octets new (Ok done) =
    (before : List ℕ) → HasHeard old.framing before →
    HasHeard new.framing (before ++ octets) × TakesAll steps lends old.speaking (heard_of before octets) new.speaking
Hears steps lends old octets new (Err FrameLost) =
    (before : List ℕ) → HasHeard old.framing before →
    HasHeard new.framing (before ++ octets) × TakesSome steps lends old.speaking (heard_of before octets) new.speaking
Hears steps lends old octets new (Err NothingTaken) = new ≡ old
