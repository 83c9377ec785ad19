-- Why a call ends at each station: by the ends, each from its cause.
use Rattle.std.specs.Prelude.{ℕ, suc, ◌≡◌, ◌≢◌, ◌≤◌, ◌<◌, ◌+◌, ◌⊎◌, ◌↔◌, ◌++◌, true, List, length, Some, None, slice_get}
use Rattle.raster.specs.Pages.{PagePixels}
use Rattle.signals.specs.Signals.{dis, cfr, ftt, pps, ppr, mcf, dcn}
use Rattle.signals.specs.declared.params.Caps.{Caps}
use Rattle.signals.specs.declared.signal.PageEnd.{PageEnd}
use Rattle.signals.specs.declared.signal.PageEnd.TheVariants.{Null, Mps, Eop}
use Rattle.partial_page.specs.Store.{has_frame, joined_frames}
use Rattle.stations.specs.Layers.{IsPageOf, agreed_for, code_octets, lowered}
use Rattle.stations.specs.Blocks.{Block}
use Rattle.stations.specs.Inputs.{CallerInput, AnswererInput, hears, timeout, t5, listens, t1}
use Rattle.stations.specs.CallerStep.{Caller, caller_step, blocks_of, confirmed}
use Rattle.stations.specs.AnswererStep.{Answerer, answerer_step}
use Rattle.partial_page.specs.Assembling.{last_counted}
use Rattle.stations.specs.declared.mark.Accepted.{Accepted}
use Rattle.stations.specs.declared.turn.AnswererState.TheVariants.{Message}
use Rattle.stations.specs.declared.turn.CallerState.TheVariants.{WaitDis, WaitCfr, WaitBlock, WaitReady}
use Rattle.stations.specs.declared.turn.End.{End}
use Rattle.stations.specs.declared.turn.End.TheVariants.{Normal, NoAnswer, NotCompatible, Training, NoReply, Unreadable, StillBusy}
use Rattle.stations.specs.declared.turn.End.TheVariants.{PeerLeft, BadPage, PageTooLong}

-- the caller waits for the answer to a block that it sent
abbrev pub HasSent : Caller → Type 0
HasSent c = (c.state ≡ WaitBlock) ⊎ (c.state ≡ WaitReady)

-- an MCF confirms a block with an end
pub record ConfirmsBlock (c : Caller) (input : CallerInput) (end : PageEnd) : Type 0 where
  pub sent : HasSent c
  pub heard : input ≡ hears mcf
  pub block : Block
  pub present : slice_get (blocks_of c) c.place ≡ Some block
  pub end_is : block.ends ≡ end

-- an MCF confirms the last block of a page, and the code of the group's next page is too long
pub record MeetsLongPage (c : Caller) (input : CallerInput) : Type 0 where
  pub confirms : ConfirmsBlock c input Mps
  pub page : PagePixels
  pub due : slice_get c.document (suc confirms.block.page) ≡ Some page
  pub long : 8388608 < length (code_octets confirms.block.params page)

-- a command of the caller wasn't answered in time, or a DIS came in place of the answer to a DCS
abbrev pub Unanswered : Caller → CallerInput → Type 0
Unanswered c input = ((input ≡ timeout) × (c.state ≢ WaitDis)) ⊎ ((c.state ≡ WaitCfr) × ((caps : Caps) × (input ≡ hears (dis caps))))

-- why a caller ends, by each end
abbrev pub CallerEndsBy : Caller → CallerInput → End → Type 0
-- the last block of the document is confirmed
CallerEndsBy c input Normal = ConfirmsBlock c input Eop
-- no DIS came in time
CallerEndsBy c input NoAnswer = (c.state ≡ WaitDis) × (input ≡ timeout)
-- a DIS came with which nothing is agreed on for the page due
CallerEndsBy c input NotCompatible =
    (c.state ≡ WaitDis) ×
    ((caps : Caps) × (input ≡ hears (dis caps)) × (agreed_for caps c.wish (slice_get c.document (confirmed c)) ≡ None))
-- the training check failed, and there is no lower speed
CallerEndsBy c input Training = (c.state ≡ WaitCfr) × (input ≡ hears ftt) × (lowered c.caps c.wish c.params ≡ None)
-- three tries had no answer
CallerEndsBy c input NoReply = Unanswered c input × (3 ≤ c.try)
-- a block was asked for once more after three times
CallerEndsBy c input Unreadable = HasSent c × ((map : List ℕ) × (input ≡ hears (ppr map))) × (3 ≤ c.pprs)
-- the answerer was busy for as long as T5
CallerEndsBy c input StillBusy = (c.state ≡ WaitReady) × (input ≡ t5)
-- the answerer left
CallerEndsBy c input PeerLeft = input ≡ hears dcn
-- a caller reads no page
CallerEndsBy c input BadPage = ⊥
-- the next page of the group has a code that is too long; or after a CFR the page due has none
CallerEndsBy c input PageTooLong =
    ((c.state ≡ WaitCfr) × (input ≡ hears cfr) × (slice_get (blocks_of c) c.place ≡ None)) ⊎ MeetsLongPage c input

-- law: a caller that runs ends exactly by the cause of the end, one line for each end
abbrev pub CallersEndsMean : Type 0
CallersEndsMean =
    (c : Caller) (input : CallerInput) (why : End) → c.ending ≡ None →
    ((caller_step c input).next.ending ≡ Some why) ↔ CallerEndsBy c input why

-- a mark is that of the last accepted block
abbrev pub IsAccepted : Answerer → ℕ → ℕ → Type 0
IsAccepted s page block = (accepted : Accepted) × (s.accepted ≡ Some accepted) × (accepted.mark.page ≡ page) × (accepted.mark.block ≡ block)

-- octets are too many for a page; or a page ends with them, and they are no page by the grammar of its code
abbrev pub IsBad : Answerer → PageEnd → List ℕ → Type 0
IsBad s ends octets = (8388608 < length octets) ⊎ ((ends ≢ Null) × ((page : PagePixels) → ¬ IsPageOf s.params octets page))

-- a PPS came of a new block that is all there, and its octets after those of the open page are bad
pub record TakesBadBlock (s : Answerer) (input : AnswererInput) : Type 0 where
  pub in_message : s.state ≡ Message
  pub ends : PageEnd
  pub page : ℕ
  pub block : ℕ
  pub last : ℕ
  pub heard : input ≡ listens (pps ends page block last)
  pub is_new : ¬ IsAccepted s page block
  pub counted : ℕ
  pub counted_is : counted ≡ last_counted s.asked (record { page = page; block = block }) last
  pub all_there : (number : ℕ) → number ≤ counted → has_frame s.frames number ≡ true
  pub bad : IsBad s ends (s.octets ++ joined_frames s.frames (counted + 1))

-- why an answerer ends, by each end
abbrev pub AnswererEndsBy : Answerer → AnswererInput → End → Type 0
-- the caller left after the document's last block was accepted
AnswererEndsBy s input Normal = (input ≡ listens dcn) × ((accepted : Accepted) × (s.accepted ≡ Some accepted) × (accepted.ends ≡ Eop))
-- the caller left before
AnswererEndsBy s input PeerLeft = (input ≡ listens dcn) × ((accepted : Accepted) → s.accepted ≡ Some accepted → accepted.ends ≢ Eop)
-- T1 is over
AnswererEndsBy s input NoAnswer = input ≡ t1
-- a page can't be read, or is too long
AnswererEndsBy s input BadPage = TakesBadBlock s input
-- the other ends are those of callers
AnswererEndsBy s input _ = ⊥

-- law: an answerer that runs ends exactly by the cause of the end, one line for each end
abbrev pub AnswerersEndsMean : Type 0
AnswerersEndsMean =
    (s : Answerer) (input : AnswererInput) (why : End) → s.ending ≡ None →
    ((answerer_step s input).next.ending ≡ Some why) ↔ AnswererEndsBy s input why
