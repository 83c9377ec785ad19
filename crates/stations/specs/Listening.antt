-- What a station listens for, and what it knows of the other one.
use Rattle.std.specs.Prelude.{ℕ, ◌≡◌, ◌≢◌, ◌⊎◌, Bool, true, false, cond, nat_lt, List, Option, Some, None, is_some, slice_get}
use Rattle.signals.specs.Signals.{fcd, mcf, pps, rnr}
use Rattle.signals.specs.declared.params.Caps.{Caps}
use Rattle.signals.specs.declared.params.Params.{Params}
use Rattle.signals.specs.declared.params.Speed.{Speed}
use Rattle.signals.specs.declared.signal.PageEnd.{PageEnd}
use Rattle.signals.specs.declared.signal.PageEnd.TheVariants.{Null, Mps, Eom, Eop}
use Rattle.stations.specs.AnswererStep.{Answerer, answerer_step}
use Rattle.stations.specs.Blocks.{Block, mark_of}
use Rattle.stations.specs.CallerStep.{Caller, blocks_of, caller_step}
use Rattle.stations.specs.EndsMean.{IsAccepted}
use Rattle.stations.specs.Inputs.{AnswererInput, hears, listens, trains}
use Rattle.stations.specs.declared.listening.Listening.{Listening}
use Rattle.stations.specs.declared.listening.Listening.TheVariants.{V21, Training, V21OrPage, V21ThenPage}
use Rattle.stations.specs.declared.mark.Accepted.{Accepted}
use Rattle.stations.specs.declared.turn.AnswererState.{AnswererState}
use Rattle.stations.specs.declared.turn.AnswererState.TheVariants.{PhaseB, WaitTraining, Message}
use Rattle.stations.specs.declared.turn.CallerState.{CallerState}
use Rattle.stations.specs.declared.turn.CallerState.TheVariants.{WaitDis, WaitCfr, WaitBlock, WaitReady}
use Rattle.stations.specs.declared.turn.End.{End}
use Rattle.stations.specs.declared.turn.Turn.{Turn}
use Rattle.stations.specs.declared.turn.Turn.TheVariants.{Silent, Cfr as SendCfr, Mcf as SendMcf, Ppr as SendPpr, Rnr as SendRnr, Burst}

-- the carriers on which an answerer gets what it waits for, at its message speed: V.21 in phase B, a training check after a DCS, V.21 or a
-- page in the message
abbrev pub listens_for : AnswererState → Speed → Listening
listens_for PhaseB speed = V21
listens_for WaitTraining speed = Training speed
listens_for Message speed = V21OrPage speed

-- after the end V.21, and nothing more is taken
abbrev pub unless_through : Option End → Listening → Listening
unless_through None listening = listening
unless_through (Some why) listening = V21

-- what an answerer listens for, at the speed of the DCS; V.21 after the end
abbrev pub answerer_listens : Answerer → Listening
answerer_listens s = unless_through s.ending (listens_for s.state s.params.speed)

-- the last reply of a station after a turn: silence leaves the one before
abbrev pub last_reply : Turn → Turn → Turn
last_reply reply Silent = reply
last_reply reply turn = turn

-- a block with this end is the last one of its group: after EOM comes a DCS, and after EOP a DCN (T.30, 5.3.6.1.6)
abbrev pub ends_group : PageEnd → Bool
ends_group Null = false
ends_group Mps = false
ends_group Eom = true
ends_group Eop = true

-- what follows a reply comes by V.21: RR after RNR (T.30, A.4.3), and after MCF what follows the last block of a group; what follows CFR,
-- PPR, and any other MCF is a page
abbrev pub is_v21_first : Turn → Option Accepted → Bool
is_v21_first SendRnr accepted = true
is_v21_first SendMcf (Some accepted) = ends_group accepted.ends
is_v21_first _ accepted = false

-- of V.21 and a page V.21 comes first
abbrev pub put_v21_first : Listening → Listening
put_v21_first (V21OrPage speed) = V21ThenPage speed
put_v21_first listening = listening

-- what an answerer listens for whose last reply this is
abbrev pub listens_after : Turn → Answerer → Listening
listens_after reply s = cond (is_v21_first reply s.accepted) (put_v21_first (answerer_listens s)) (answerer_listens s)

-- a training check does something exactly if the answerer listens for one, at the speed agreed; and an FCD that does something finds it
-- listening for a page at that speed
pub record AnswererHears (s : Answerer) : Type 0 where
  pub check :
      (octets : List ℕ) → answerer_step s (trains octets) ≢ record { next = s; turn = Silent } →
      answerer_listens s ≡ Training s.params.speed
  pub page :
      (number : ℕ) (octets : List ℕ) → answerer_step s (listens (fcd number octets)) ≢ record { next = s; turn = Silent } →
      answerer_listens s ≡ V21OrPage s.params.speed

-- law: a training check that does something finds the answerer listening for one, and an FCD that does something finds it listening for a
-- page, at the speed agreed
abbrev pub AnswerersHear : Type 0
AnswerersHear = (s : Answerer) → AnswererHears s

-- the same, whichever reply was the last: a training check that does something is listened for, and so is a page of which an FCD does
-- something, also where V.21 comes first
pub record HearsAfter (reply : Turn) (s : Answerer) : Type 0 where
  pub check :
      (octets : List ℕ) → answerer_step s (trains octets) ≢ record { next = s; turn = Silent } →
      listens_after reply s ≡ Training s.params.speed
  pub page :
      (number : ℕ) (octets : List ℕ) → answerer_step s (listens (fcd number octets)) ≢ record { next = s; turn = Silent } →
      (listens_after reply s ≡ V21OrPage s.params.speed) ⊎ (listens_after reply s ≡ V21ThenPage s.params.speed)

-- law: no reply makes an answerer deaf to what does something
abbrev pub RepliesLeaveEars : Type 0
RepliesLeaveEars = (reply : Turn) (s : Answerer) → HearsAfter reply s

-- what is listened for after the MCF to a new block with this end
abbrev pub heard_after_block : PageEnd → Speed → Listening
heard_after_block Null speed = V21OrPage speed
heard_after_block Mps speed = V21OrPage speed
heard_after_block Eom speed = V21
heard_after_block Eop speed = V21ThenPage speed

-- what an answerer listens for after a turn of its step, by the turn: in the message after RNR V.21 comes first; after CFR and PPR pages do;
-- after the MCF to a PPS of a new block its end decides
abbrev pub ComesFirst : Answerer → AnswererInput → Answerer → Turn → Type 0
ComesFirst s input next SendRnr = next.state ≡ Message → listens_after SendRnr next ≡ V21ThenPage next.params.speed
ComesFirst s input next SendCfr = listens_after SendCfr next ≡ V21OrPage next.params.speed
ComesFirst s input next (SendPpr map) = listens_after (SendPpr map) next ≡ V21OrPage next.params.speed
ComesFirst s input next SendMcf =
    (ends : PageEnd) (page block last : ℕ) → input ≡ listens (pps ends page block last) → (¬ IsAccepted s page block) →
    listens_after SendMcf next ≡ heard_after_block ends next.params.speed
ComesFirst s input next _ = Unit {0}

-- law: each step of an answerer that runs leaves it listening so
abbrev pub RepliesTellWhatIsFirst : Type 0
RepliesTellWhatIsFirst =
    (s : Answerer) (input : AnswererInput) → s.ending ≡ None → ComesFirst s input (answerer_step s input).next (answerer_step s input).turn

-- law: a silent step that leaves it in the message, and running, leaves it listening as before
abbrev pub SilenceLeavesWhatIsFirst : Type 0
SilenceLeavesWhatIsFirst =
    (s : Answerer) (input : AnswererInput) (reply : Turn) → s.ending ≡ None → (answerer_step s input).turn ≡ Silent →
    (answerer_step s input).next.state ≡ Message → (answerer_step s input).next.ending ≡ None →
    listens_after reply (answerer_step s input).next ≡ listens_after reply s

-- the other side of it: where a caller that runs sends pages next, they come first
pub record CallerSpeaks (c : Caller) (block : Block) : Type 0 where
  pub mcf :
      (map : List ℕ) → (caller_step c (hears mcf)).turn ≡ Burst map →
      is_v21_first SendMcf (Some (record { mark = mark_of block; ends = block.ends })) ≡ false
  pub rnr : (map : List ℕ) → (caller_step c (hears rnr)).turn ≢ Burst map

-- law: no caller sends a page after MCF or RNR where an answerer with its present block as the last accepted one expects V.21 first
abbrev pub PagesComeWhereHeard : Type 0
PagesComeWhereHeard =
    (c : Caller) (block : Block) → c.ending ≡ None → slice_get (blocks_of c) c.place ≡ Some block → CallerSpeaks c block

-- the parameters of a caller's group that is under way, from the DIS that agrees to the MCF that ends the group; None between groups
abbrev pub caller_params : CallerState → Params → Option Params
caller_params WaitDis params = None
caller_params WaitCfr params = Some params
caller_params WaitBlock params = Some params
caller_params WaitReady params = Some params

-- the capabilities of the last DIS that a caller agreed on; None before the first one
abbrev pub caller_peer : CallerState → ℕ → Caps → Option Caps
caller_peer WaitDis pages caps = cond (nat_lt 0 pages) (Some caps) None
caller_peer WaitCfr pages caps = Some caps
caller_peer WaitBlock pages caps = Some caps
caller_peer WaitReady pages caps = Some caps

-- the parameters of the DCS of an answerer's group that is under way; None in phase B
abbrev pub answerer_params : AnswererState → Params → Option Params
answerer_params PhaseB params = None
answerer_params WaitTraining params = Some params
answerer_params Message params = Some params

-- the last DCS that an answerer allowed, in phase B only if a block was accepted; None before the first one
abbrev pub answerer_peer : AnswererState → Option Accepted → Params → Option Params
answerer_peer PhaseB accepted params = cond (is_some accepted) (Some params) None
answerer_peer WaitTraining accepted params = Some params
answerer_peer Message accepted params = Some params
