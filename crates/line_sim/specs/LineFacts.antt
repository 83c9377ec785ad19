-- What holds of every world that events lead to.
use Rattle.std.specs.Prelude.{◌≡◌, ◌≢◌, ℕ, zero, suc, ◌≤◌, ◌⊎◌, List, [], ◌∷◌, ◌++◌, length, take, drop, slice_get, Option, Some, None}
use Rattle.std.specs.Prelude.{option_map}
use Rattle.raster.specs.Pages.{PagePixels}
use Rattle.signals.specs.Signals.{dis, dcs, cfr, ftt, fcd, rcp, pps, ppr, mcf, rnr, rr, dcn}
use Rattle.signals.specs.declared.params.Params.{Params}
use Rattle.signals.specs.declared.signal.PageEnd.{PageEnd}
use Rattle.signals.specs.declared.signal.PageEnd.TheVariants.{Eom}
use Rattle.partial_page.specs.Store.{no_frames, frame_of}
use Rattle.stations.specs.Layers.{Document, IsFullPage, Fits}
use Rattle.stations.specs.Blocks.{Block, mark_of, last_frame_of, call_blocks, pages_before, open_before}
use Rattle.stations.specs.Inputs.{PlainItem, framed, checked}
use Rattle.stations.specs.Laws.{Each, AreReadable}
use Rattle.stations.specs.CallerFields.{IsSending}
use Rattle.stations.specs.CallerStep.{Caller, blocks_of}
use Rattle.stations.specs.AnswererStep.{Answerer, state_after}
use Rattle.partial_page.specs.Assembling.{Frames}
use Rattle.signals.specs.declared.mark.Mark.{Mark}
use Rattle.stations.specs.declared.mark.Accepted.{Accepted}
use Rattle.partial_page.specs.Assembling.{Asked}
use Rattle.stations.specs.declared.turn.CallerState.{CallerState}
use Rattle.stations.specs.declared.turn.AnswererState.{AnswererState}
use Rattle.stations.specs.declared.turn.CallerState.TheVariants.{WaitDis, WaitCfr, WaitBlock, WaitReady}
use Rattle.stations.specs.declared.turn.AnswererState.TheVariants.{PhaseB, WaitTraining, Message}
use Rattle.line_sim.specs.Line.{World}

-- what is kept of a block when it is accepted
abbrev pub accepted_of : Block → Accepted
accepted_of block = record { mark = mark_of block; ends = block.ends }

-- what is remembered of a block that is asked for again
abbrev pub asked_of : Block → Asked
asked_of block = record { mark = mark_of block; last = last_frame_of block }

-- the last one of the first blocks, as it was accepted
abbrev pub accepted_at : List Block → ℕ → Option Accepted
accepted_at blocks zero = None
accepted_at blocks (suc k) = option_map accepted_of (slice_get blocks k)

-- a frame of a block
abbrev pub frame_at : Option Block → ℕ → Option (List ℕ)
frame_at None number = None
frame_at (Some block) number = slice_get block.frames number

-- the store holds each frame of the list
abbrev pub HoldsAll : Frames → List (List ℕ) → Type 0
HoldsAll store frames = (number : ℕ) (octets : List ℕ) → slice_get frames number ≡ Some octets → frame_of store number ≡ Some octets

-- the state of an answerer that has accepted a block, or none
abbrev pub state_past : Option Block → AnswererState
state_past None = Message
state_past (Some block) = state_after block.ends

-- the blocks still to come are of one group, which its EOM ends
abbrev pub IsOneGroup : Params → List Block → Type 0
IsOneGroup params [] = Unit {0}
IsOneGroup params (block ∷ blocks) = (block.params ≡ params) × (block.ends ≡ Eom → blocks ≡ []) × IsOneGroup params blocks

-- the blocks of the groups that are through
abbrev pub finished_of : Caller → List Block
finished_of c = call_blocks c.finished 0 c.document

-- the number of the first page after the groups that are through
abbrev pub due : List Params → Document → ℕ
due finished document = pages_before (call_blocks finished 0 document) (length (call_blocks finished 0 document))

-- groups are through: whatever groups follow, their blocks follow those of the groups that are through, and all pages can be read if
-- those of the groups that follow can
pub record GroupsThrough (finished : List Params) (document : Document) : Type 0 where
  pub blocks :
      (more : List Params) →
      call_blocks (finished ++ more) 0 document ≡ call_blocks finished 0 document ++
      call_blocks more (due finished document) (drop (due finished document) document)
  pub readable : (more : List Params) → AreReadable more (drop (due finished document) document) → AreReadable (finished ++ more) document

-- what holds of a caller's document under the parameters of its groups
pub record CallFacts (finished present : List Params) (document : Document) : Type 0 where
  -- each page has rows, all of its width, 20,000 at most
  pub full : Each IsFullPage document
  pub through : GroupsThrough finished document
  pub readable : AreReadable (finished ++ present) document

-- a group is begun: its parameters fit its first page, and its pages can be read
pub record GroupBegun (finished present : List Params) (params : Params) (document : Document) : Type 0 where
  pub present_is : present ≡ params ∷ []
  pub fits : (page : PagePixels) → slice_get document (due finished document) ≡ Some page → Fits params page
  pub readable : AreReadable (params ∷ []) (drop (due finished document) document)

-- before a group's first block
pub record BeforeGroup (place : ℕ) (finished : List Block) (accepted : ℕ) (frames : Frames) (asked : Option Asked) : Type 0 where
  pub place_is : place ≡ length finished
  pub accepted_is : accepted ≡ place
  pub none_open : frames ≡ no_frames
  pub none_asked : asked ≡ None

-- while a group's blocks go out: the answerer is in Message, but in phase B after a group's last block
pub record InGroup (finished place : ℕ) (params : Params) (blocks : List Block) (accepted : ℕ) (state : AnswererState)
    (own : Params) : Type 0 where
  pub started : finished ≤ place
  pub same : own ≡ params
  pub ready : accepted ≡ place → state ≡ Message
  pub past : accepted ≡ suc place → state ≡ state_past (slice_get blocks place)
  pub group : IsOneGroup params (drop place blocks)

-- how far both are, in each state of the caller
abbrev pub Phase : CallerState → Caller → ℕ → Answerer → Type 0
Phase WaitDis c accepted s = (s.state ≡ PhaseB) × (c.present ≡ []) × BeforeGroup c.place (finished_of c) accepted s.frames s.asked
Phase WaitCfr c accepted s = (c.present ≡ c.params ∷ []) × BeforeGroup c.place (finished_of c) accepted s.frames s.asked
Phase WaitBlock c accepted s = InGroup (length (finished_of c)) c.place c.params (blocks_of c) accepted s.state s.params
Phase WaitReady c accepted s = InGroup (length (finished_of c)) c.place c.params (blocks_of c) accepted s.state s.params

-- past phase B both have the same parameters
abbrev pub Alike : AnswererState → Params → Params → Type 0
Alike PhaseB params others = Unit {0}
Alike WaitTraining params others = params ≡ others
Alike Message params others = params ≡ others

-- what was asked for is the present block, and it isn't accepted
abbrev pub AskedFits : Option Asked → Option Block → ℕ → ℕ → Type 0
AskedFits None block place accepted = Unit {0}
AskedFits (Some asked) None place accepted = ⊥
AskedFits (Some asked) (Some block) place accepted = (asked ≡ asked_of block) × (accepted ≡ place)

-- what holds of the two stations when the answerer has accepted `accepted` blocks
pub record StationFacts (c : Caller) (s : Answerer) (accepted : ℕ) : Type 0 where
  pub near : (accepted ≡ c.place) ⊎ (accepted ≡ suc c.place)
  pub phase : Phase c.state c accepted s
  -- a caller that waits for a busy answerer waits on an accepted block
  pub waits : c.ending ≡ None → c.state ≡ WaitReady → accepted ≡ suc c.place
  pub same_params : Alike s.state s.params c.params
  -- each open frame is a frame of the present block
  pub open_frames :
      (number : ℕ) (octets : List ℕ) → frame_of s.frames number ≡ Some octets →
      frame_at (slice_get (blocks_of c) c.place) number ≡ Some octets
  -- once the present block is accepted no frame is open
  pub cleared : accepted ≡ suc c.place → s.frames ≡ no_frames
  pub asked : AskedFits s.asked (slice_get (blocks_of c) c.place) c.place accepted
  -- what is stored, open and remembered is that of the blocks accepted
  pub pages : s.pages ≡ take (pages_before (blocks_of c) accepted) c.document
  pub octets : s.octets ≡ open_before (blocks_of c) accepted
  pub last : s.accepted ≡ accepted_at (blocks_of c) accepted
  pub call : CallFacts c.finished c.present c.document
  pub begun : c.state ≢ WaitDis → GroupBegun c.finished c.present c.params c.document
  -- each number 0 to 255 has a place for a frame
  pub places : length s.frames ≡ 256

-- a PPS says the present block
abbrev pub SaysBlock : Option Block → PageEnd → Mark → ℕ → Type 0
SaysBlock None ends mark last = ⊥
SaysBlock (Some block) ends mark last = (ends ≡ block.ends) × (mark ≡ mark_of block) × (last ≡ last_frame_of block)

-- what may be under way to the answerer
abbrev pub MayReachAnswerer : Caller → ℕ → PlainItem → Type 0
MayReachAnswerer c accepted (checked octets) = c.state ≡ WaitCfr
MayReachAnswerer c accepted (framed (dcs params)) = (c.state ≡ WaitCfr) × (params ≡ c.params)
MayReachAnswerer c accepted (framed (fcd number octets)) =
    IsSending c.state × (accepted ≡ c.place) × (frame_at (slice_get (blocks_of c) c.place) number ≡ Some octets)
MayReachAnswerer c accepted (framed rcp) = Unit {0}
MayReachAnswerer c accepted (framed (pps ends page block last)) = IsSending c.state ×
    SaysBlock (slice_get (blocks_of c) c.place) ends (record { page = page; block = block }) last
MayReachAnswerer c accepted (framed rr) = IsSending c.state × (accepted ≡ suc c.place)
MayReachAnswerer c accepted (framed dcn) = Unit {0}
MayReachAnswerer c accepted _ = ⊥

-- what may be under way to the caller
abbrev pub MayReachCaller : ℕ → AnswererState → ℕ → PlainItem → Type 0
MayReachCaller place state accepted (framed (dis caps)) = Unit {0}
MayReachCaller place state accepted (framed cfr) = state ≡ Message
MayReachCaller place state accepted (framed ftt) = state ≡ PhaseB
MayReachCaller place state accepted (framed mcf) = accepted ≡ suc place
MayReachCaller place state accepted (framed rnr) = accepted ≡ suc place
MayReachCaller place state accepted (framed (ppr map)) = (accepted ≡ place) × (length map ≡ 32)
MayReachCaller place state accepted _ = ⊥

-- the item is a DIS
abbrev pub IsDis : PlainItem → Type 0
IsDis (framed (dis caps)) = Unit {0}
IsDis _ = ⊥

-- after the first item only DIS are
abbrev pub OnlyDisAfterFirst : List PlainItem → Type 0
OnlyDisAfterFirst [] = Unit {0}
OnlyDisAfterFirst (item ∷ items) = Each IsDis items

-- What holds of every world that events lead to: the invariant of the line with all that its proof needs. How many blocks the answerer has
-- accepted, how far both stations are, and what may be under way to each.
pub record LineFacts (w : World) : Type 0 where
  -- blocks that the answerer has accepted
  pub accepted : ℕ
  pub stations : StationFacts w.caller w.answerer accepted
  pub one_way : (w.to_answerer ≡ []) ⊎ (w.to_caller ≡ [])
  pub to_answerer : Each (MayReachAnswerer w.caller accepted) w.to_answerer
  pub to_caller : Each (MayReachCaller w.caller.place w.answerer.state accepted) w.to_caller
  pub only_dis : OnlyDisAfterFirst w.to_caller
