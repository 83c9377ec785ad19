-- What is answered, by the turns and by the inputs, not by the states.
use Rattle.std.specs.Prelude.{ℕ, suc, ◌≡◌, ◌≢◌, ◌⊎◌, Contains, true, false, List, [], ◌∷◌, Some, None, IsSome, slice_get}
use Rattle.signals.specs.Agreement.{allowed}
use Rattle.signals.specs.Signals.{dis, dcs, cfr, ftt, fcd, pps, ppr, mcf, rnr, rr, dcn}
use Rattle.signals.specs.declared.signal.PageEnd.{PageEnd}
use Rattle.signals.specs.declared.signal.PageEnd.TheVariants.{Eom}
use Rattle.partial_page.specs.Store.{has_frame}
use Rattle.partial_page.specs.Assembling.{IsTooLong}
use Rattle.stations.specs.Layers.{is_good_training}
use Rattle.stations.specs.Blocks.{Block}
use Rattle.stations.specs.Inputs.{CallerInput, AnswererInput, hears, timeout, t5, listens, trains, t2, t1, is_busy}
use Rattle.stations.specs.CallerStep.{Caller, caller_step, blocks_of, all_frames}
use Rattle.stations.specs.AnswererStep.{Answerer, AnswererAnswer, answerer_step}
use Rattle.stations.specs.EndsMean.{HasSent, Unanswered, IsAccepted}
use Rattle.stations.specs.declared.mark.Accepted.{Accepted}
use Rattle.stations.specs.declared.turn.AnswererState.{AnswererState}
use Rattle.stations.specs.declared.turn.AnswererState.TheVariants.{PhaseB, WaitTraining, Message}
use Rattle.stations.specs.declared.turn.CallerState.{CallerState}
use Rattle.stations.specs.declared.turn.CallerState.TheVariants.{WaitDis, WaitCfr, WaitBlock, WaitReady}
use Rattle.stations.specs.declared.turn.End.{End}
use Rattle.stations.specs.declared.turn.End.TheVariants.{BadPage, PeerLeft}
use Rattle.stations.specs.declared.turn.Turn.{Turn}
use Rattle.stations.specs.declared.turn.Turn.TheVariants.{Silent, Dis as SendDis, Training as SendTraining, Cfr as SendCfr, Ftt as SendFtt}
use Rattle.stations.specs.declared.turn.Turn.TheVariants.{Burst, Pps as SendPps, Mcf as SendMcf, Ppr as SendPpr, Rnr as SendRnr}
use Rattle.stations.specs.declared.turn.Turn.TheVariants.{Rr as SendRr, Dcn as SendDcn}

-- the states in which a caller does something at an input
abbrev pub heard_in : CallerInput → List CallerState
heard_in (hears (dis caps)) = WaitDis ∷ WaitCfr ∷ []
heard_in (hears cfr) = WaitCfr ∷ []
heard_in (hears ftt) = WaitCfr ∷ []
heard_in (hears mcf) = WaitBlock ∷ WaitReady ∷ []
heard_in (hears (ppr map)) = WaitBlock ∷ WaitReady ∷ []
heard_in (hears rnr) = WaitBlock ∷ WaitReady ∷ []
heard_in (hears dcn) = WaitDis ∷ WaitCfr ∷ WaitBlock ∷ WaitReady ∷ []
heard_in timeout = WaitDis ∷ WaitCfr ∷ WaitBlock ∷ WaitReady ∷ []
heard_in t5 = WaitReady ∷ []
heard_in _ = []

-- law: in all other states, and at all other inputs, a caller stays as it is and is silent
abbrev pub CallersHearNothingElse : Type 0
CallersHearNothingElse =
    (c : Caller) (input : CallerInput) → ¬ Contains (heard_in input) c.state → caller_step c input ≡ record { next = c; turn = Silent }

-- the states in which an answerer does something at an input
abbrev pub listens_in : AnswererInput → List AnswererState
listens_in (listens (dcs params)) = PhaseB ∷ WaitTraining ∷ Message ∷ []
listens_in (listens (fcd number octets)) = Message ∷ []
listens_in (listens (pps ends page block last)) = PhaseB ∷ WaitTraining ∷ Message ∷ []
listens_in (listens rr) = PhaseB ∷ WaitTraining ∷ Message ∷ []
listens_in (listens dcn) = PhaseB ∷ WaitTraining ∷ Message ∷ []
listens_in (trains octets) = WaitTraining ∷ []
listens_in t2 = PhaseB ∷ WaitTraining ∷ []
listens_in t1 = PhaseB ∷ WaitTraining ∷ Message ∷ []
listens_in (is_busy busy) = PhaseB ∷ WaitTraining ∷ Message ∷ []
listens_in _ = []

-- a frame of a block is open
abbrev pub HasOpen : Answerer → Type 0
HasOpen s = (number : ℕ) × (has_frame s.frames number ≡ true)

-- an input that an answerer ignores in a state in which it does something at others of its kind
abbrev pub IsIgnored : Answerer → AnswererInput → Type 0
IsIgnored s (listens (dcs params)) = allowed s.caps params ≡ false
IsIgnored s (listens (fcd number octets)) = IsTooLong s.params octets
IsIgnored s (listens (pps ends page block last)) = (s.state ≢ Message) × (¬ IsAccepted s page block)
IsIgnored s (listens rr) = (s.accepted ≡ None) ⊎ HasOpen s
IsIgnored s _ = ⊥

-- law: in all other states, and at an input that it ignores, an answerer stays as it is and is silent
abbrev pub AnswerersHearNothingElse : Type 0
AnswerersHearNothingElse =
    (s : Answerer) (input : AnswererInput) → (¬ Contains (listens_in input) s.state) ⊎ IsIgnored s input →
    answerer_step s input ≡ record { next = s; turn = Silent }

-- a block is confirmed again: by MCF, or by RNR while busy; nothing changes
pub record Confirms (s : Answerer) (answer : AnswererAnswer) : Type 0 where
  pub same : answer.next ≡ s
  pub free : s.busy ≡ false → answer.turn ≡ SendMcf
  pub busy : s.busy ≡ true → answer.turn ≡ SendRnr

-- what an answerer that runs always answers, whatever its state
pub record AlwaysAnswers (s : Answerer) : Type 0 where
  -- a PPS of the last accepted block
  pub repeated :
      (ends : PageEnd) (page block last : ℕ) → IsAccepted s page block →
      Confirms s (answerer_step s (listens (pps ends page block last)))
  -- RR, if a block was accepted and no frame is open
  pub asked : IsSome s.accepted → (¬ HasOpen s) → Confirms s (answerer_step s (listens rr))
  -- the end of the wait for a command, but in the message
  pub waited : s.state ≢ Message → (answerer_step s t2).turn ≡ SendDis
  -- a training check after a DCS
  pub trained : (octets : List ℕ) → s.state ≡ WaitTraining → is_good_training octets s.params ≡ true →
      (answerer_step s (trains octets)).turn ≡ SendCfr
  pub failed : (octets : List ℕ) → s.state ≡ WaitTraining → is_good_training octets s.params ≡ false →
      (answerer_step s (trains octets)).turn ≡ SendFtt
  -- a PPS in the message
  pub block : (ends : PageEnd) (page block last : ℕ) → s.state ≡ Message →
      (answerer_step s (listens (pps ends page block last))).turn ≢ Silent

-- law: in every state in which it hasn't ended an answerer sends MCF, or RNR while busy, for a PPS of the last accepted block, and for RR
-- if a block was accepted and no frame is open; DIS when T2 is over, except in the message; CFR or FTT for a training check after a DCS;
-- something for each PPS in the message
abbrev pub AnswerersAlwaysAnswer : Type 0
AnswerersAlwaysAnswer = (s : Answerer) → s.ending ≡ None → AlwaysAnswers s

-- a command is sent again, with one more try; or another one is sent, which is the first try
abbrev pub CountsTries : Caller → CallerInput → Caller → Type 0
CountsTries c input next = (Unanswered c input × (next.try ≡ suc c.try)) ⊎ ((¬ Unanswered c input) × (next.try ≡ 1))

-- what a turn of a caller that runs says: what the caller waits for afterwards, and how it counted its tries
abbrev pub CallerSends : Caller → CallerInput → Caller → Turn → Type 0
CallerSends c input next SendTraining = (next.state ≡ WaitCfr) × (next.ending ≡ None) × CountsTries c input next
CallerSends c input next (Burst map) =
    (next.state ≡ WaitBlock) × (next.ending ≡ None) × (next.try ≡ 1) ×
    (((input ≡ hears (ppr map)) × (next.pprs ≡ suc c.pprs)) ⊎
    (((input ≡ hears cfr) ⊎ (input ≡ hears mcf)) × (map ≡ all_frames) × (next.pprs ≡ 0)))
CallerSends c input next SendPps =
    (next.state ≡ WaitBlock) × (next.ending ≡ None) × (c.state ≡ WaitBlock) × (input ≡ timeout) × (next.try ≡ suc c.try)
CallerSends c input next SendRr =
    (next.state ≡ WaitReady) × (next.ending ≡ None) × HasSent c ×
    (((input ≡ hears rnr) × (next.try ≡ 1)) ⊎ ((input ≡ timeout) × (next.try ≡ suc c.try)))
CallerSends c input next SendDcn = (why : End) × (next.ending ≡ Some why) × (why ≢ PeerLeft)
-- silence: it does nothing here, or the answerer left, or a group is through
CallerSends c input next Silent =
    (¬ Contains (heard_in input) c.state) ⊎ (input ≡ hears dcn) ⊎
    ((input ≡ hears mcf) × ((slice_get (blocks_of c) c.place ≡ None) ⊎
    ((next.state ≡ WaitDis) × ((block : Block) × (slice_get (blocks_of c) c.place ≡ Some block) × (block.ends ≡ Eom)))))
-- no other turn is a caller's
CallerSends c input next _ = ⊥

-- law: each turn of a caller that runs says what the caller waits for afterwards, and how it counted its tries
abbrev pub CallersTurnsMean : Type 0
CallersTurnsMean =
    (c : Caller) (input : CallerInput) → c.ending ≡ None → CallerSends c input (caller_step c input).next (caller_step c input).turn

-- a confirmation leaves all as it was, or a block was accepted just now: after a group's last one a DCS is due, else the message goes on
abbrev pub AfterBlock : Answerer → Answerer → Type 0
AfterBlock s next =
    (next ≡ s) ⊎
    ((accepted : Accepted) × (next.accepted ≡ Some accepted) × (accepted.ends ≡ Eom → next.state ≡ PhaseB) ×
    (accepted.ends ≢ Eom → next.state ≡ Message))

-- what a turn of an answerer that runs says: what the answerer waits for afterwards
abbrev pub AnswererSends : Answerer → Answerer → Turn → Type 0
AnswererSends s next SendDis = (next.state ≡ PhaseB) × (next.ending ≡ None)
AnswererSends s next SendFtt = (next.state ≡ PhaseB) × (next.ending ≡ None)
AnswererSends s next SendCfr = (next.state ≡ Message) × (next.ending ≡ None)
AnswererSends s next SendMcf = (s.busy ≡ false) × (next.ending ≡ None) × AfterBlock s next
AnswererSends s next SendRnr = (s.busy ≡ true) × (next.ending ≡ None) × AfterBlock s next
AnswererSends s next (SendPpr map) = (next.state ≡ Message) × (next.ending ≡ None) × IsSome next.asked
AnswererSends s next SendDcn = next.ending ≡ Some BadPage
AnswererSends s next Silent = Unit {0}
-- no other turn is an answerer's
AnswererSends s next _ = ⊥

-- law: each turn of an answerer that runs says what the answerer waits for afterwards
abbrev pub AnswerersTurnsMean : Type 0
AnswerersTurnsMean =
    (s : Answerer) (input : AnswererInput) → s.ending ≡ None → AnswererSends s (answerer_step s input).next (answerer_step s input).turn
