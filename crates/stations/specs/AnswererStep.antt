-- The answering station: a tuple and its one step.
use Rattle.std.specs.Prelude.{◌≡◌, ◌⊎◌, Result, Ok, Err, ℕ, ◌+◌, Bool, true, false, cond, not, ◌&&◌, List, [], ◌∷◌, ◌++◌, map}
use Rattle.std.specs.Prelude.{slice_set, Option, Some, None, is_some}
use Rattle.std.specs.List.{list_all}
use Rattle.raster.specs.Pages.{PagePixels}
use Rattle.signals.specs.Agreement.{allowed}
use Rattle.signals.specs.Signals.{dis, dcs, cfr, ftt, fcd, pps, ppr, mcf, rnr, rr, dcn}
use Rattle.signals.specs.declared.params.Caps.{Caps}
use Rattle.signals.specs.declared.params.Params.{Params}
use Rattle.signals.specs.declared.signal.PageEnd.{PageEnd}
use Rattle.signals.specs.declared.signal.PageEnd.TheVariants.{Null, Mps, Eom, Eop}
use Rattle.partial_page.specs.Store.{no_frames, joined_frames}
use Rattle.stations.specs.Layers.{is_good_training, page_read, within_page_limit}
use Rattle.partial_page.specs.Assembling.{Asked, Frames, all_there, last_counted, ppr_map, within_frame_size}
use Rattle.signals.specs.Marks.{same_mark}
use Rattle.signals.specs.declared.mark.Mark.{Mark}
use Rattle.stations.specs.declared.mark.Accepted.{Accepted}
use Rattle.stations.specs.Inputs.{AnswererInput, listens, trains, t2, t1, is_busy, PlainItem, framed}
use Rattle.stations.specs.declared.turn.AnswererState.{AnswererState}
use Rattle.stations.specs.declared.turn.AnswererState.TheVariants.{PhaseB, WaitTraining, Message}
use Rattle.stations.specs.declared.turn.End.{End}
use Rattle.stations.specs.declared.turn.End.TheVariants.{Normal, NoAnswer, PeerLeft, BadPage}
use Rattle.stations.specs.declared.turn.Turn.{Turn}
use Rattle.stations.specs.declared.turn.Turn.TheVariants.{Silent, Dis as SendDis, Cfr as SendCfr, Ftt as SendFtt, Mcf as SendMcf}
use Rattle.stations.specs.declared.turn.Turn.TheVariants.{Ppr as SendPpr, Rnr as SendRnr, Dcn as SendDcn}

-- no frame of a block is open
unfoldable pub is_clear : Frames → Bool
is_clear frames = list_all (λ frame. not (is_some frame)) frames

-- the answerer's tuple: params count from the first DCS that is allowed; ready says that the memory for the open frames is taken
pub record Answerer : Type 0 where
  pub caps : Caps
  pub params : Params
  pub state : AnswererState
  pub busy : Bool
  pub accepted : Option Accepted
  pub asked : Option Asked
  pub octets : List ℕ
  pub frames : Frames
  pub ready : Bool
  pub pages : List PagePixels
  pub ending : Option End

-- what a step answers: the next tuple, and the turn
pub record AnswererAnswer : Type 0 where
  pub next : Answerer
  pub turn : Turn

-- nothing is sent, and nothing changes
abbrev pub answerer_silent : Answerer → AnswererAnswer
answerer_silent s = record { next = s; turn = Silent }

-- a mark is that of the last accepted block
abbrev pub is_repeated : Option Accepted → Mark → Bool
is_repeated None mark = false
is_repeated (Some accepted) mark = same_mark accepted.mark mark

-- MCF, or RNR while busy
abbrev pub confirms : Answerer → Turn
confirms s = cond s.busy SendRnr SendMcf

-- a DCS in phase B: the parameters are kept
abbrev pub first_dcs : Answerer → Params → AnswererAnswer
first_dcs s params =
    cond (allowed s.caps params)
    (record { next = record s { state = WaitTraining; params = params; ready = false }; turn = Silent })
    (answerer_silent s)

-- a DCS past phase B: the open frames are cleared too, and what was asked for is forgotten
abbrev pub later_dcs : Answerer → Params → AnswererAnswer
later_dcs s params =
    cond (allowed s.caps params)
    (record { next = record s { state = WaitTraining; params = params; frames = no_frames; ready = false; asked = None }; turn = Silent })
    (answerer_silent s)

-- a training check after a DCS: CFR if it is good, else FTT and phase B
abbrev pub judges_training : Answerer → List ℕ → AnswererAnswer
judges_training s octets =
    cond (is_good_training octets s.params)
    (record { next = record s { state = Message }; turn = SendCfr })
    (record { next = record s { state = PhaseB }; turn = SendFtt })

-- an FCD: data no longer than agreed are kept under their number
abbrev pub keeps_frame : Answerer → ℕ → List ℕ → AnswererAnswer
keeps_frame s number octets =
    cond (within_frame_size s.params octets)
    (record { next = record s { frames = slice_set s.frames number (Some octets); ready = true }; turn = Silent })
    (answerer_silent s)

-- a page that can't be read, or is too long
abbrev pub bad_page : Answerer → AnswererAnswer
bad_page s = record { next = record s { ending = Some BadPage }; turn = SendDcn }

-- after a group's last block the answerer is in phase B
abbrev pub state_after : PageEnd → AnswererState
state_after Eom = PhaseB
state_after _ = Message

-- a block is accepted: its frames are cleared
abbrev pub accepts : Answerer → PageEnd → Mark → List ℕ → List PagePixels → AnswererAnswer
accepts s ends mark octets pages =
    record {
      next = record s {
        state = state_after ends;
        accepted = Some (record { mark = mark; ends = ends });
        asked = None;
        octets = octets;
        frames = no_frames;
        pages = pages;
      };
      turn = confirms s;
    }

-- a page's last block: the page is stored, if it was read
abbrev pub stores : Answerer → PageEnd → Mark → Option PagePixels → AnswererAnswer
stores s ends mark None = bad_page s
stores s ends mark (Some page) = accepts s ends mark [] (s.pages ++ page ∷ [])

-- a block that is all there; the octets are those of the open page with the block's after them
abbrev pub takes_block : Answerer → PageEnd → Mark → List ℕ → AnswererAnswer
takes_block s Null mark octets = cond (within_page_limit octets) (accepts s Null mark octets s.pages) (bad_page s)
takes_block s Mps mark octets = stores s Mps mark (page_read s.params octets)
takes_block s Eom mark octets = stores s Eom mark (page_read s.params octets)
takes_block s Eop mark octets = stores s Eop mark (page_read s.params octets)

-- a PPS of a block that isn't accepted yet
abbrev pub judges_block : Answerer → PageEnd → Mark → ℕ → AnswererAnswer
judges_block s ends mark last =
    cond (all_there s.frames last)
    (takes_block s ends mark (s.octets ++ joined_frames s.frames (last + 1)))
    (record { next = record s { asked = Some (record { mark = mark; last = last }) }; turn = SendPpr (ppr_map s.frames last) })

-- a PPS in the message: of the last accepted block it is confirmed; a whole block is taken; else PPR asks for what is missing
abbrev pub answers_pps : Answerer → PageEnd → Mark → ℕ → AnswererAnswer
answers_pps s ends mark last =
    cond (is_repeated s.accepted mark)
    (record { next = s; turn = confirms s })
    (judges_block s ends mark (last_counted s.asked mark last))

-- a PPS outside Message: only the mark of the last accepted block is answered
abbrev pub answers_repeated : Answerer → Mark → AnswererAnswer
answers_repeated s mark = cond (is_repeated s.accepted mark) (record { next = s; turn = confirms s }) (answerer_silent s)

-- an RR: it is answered if a block was accepted and no frame is open
abbrev pub answers_rr : Answerer → AnswererAnswer
answers_rr s =
    cond (is_some s.accepted && is_clear s.frames)
    (record { next = s; turn = confirms s })
    (answerer_silent s)

-- why the call ends when the caller leaves after a block with this end: Normal after the document's last
abbrev pub end_after : PageEnd → End
end_after Eop = Normal
end_after _ = PeerLeft

-- why the call ends when the caller leaves, from the last accepted block, if there is one
abbrev pub leaves : Option Accepted → End
leaves None = PeerLeft
leaves (Some accepted) = end_after accepted.ends

-- the call ends in silence
abbrev pub answerer_ends : Answerer → End → AnswererAnswer
answerer_ends s why = record { next = record s { ending = Some why }; turn = Silent }

-- the answerer's table, a row for a state and an input
abbrev pub answerer_table : AnswererState → AnswererInput → Answerer → AnswererAnswer
answerer_table PhaseB (listens (dcs params)) s = first_dcs s params
answerer_table PhaseB t2 s = record { next = record s { state = PhaseB }; turn = SendDis }
answerer_table WaitTraining t2 s = record { next = record s { state = PhaseB }; turn = SendDis }
answerer_table WaitTraining (trains octets) s = judges_training s octets
answerer_table WaitTraining (listens (dcs params)) s = later_dcs s params
answerer_table Message (listens (dcs params)) s = later_dcs s params
answerer_table Message (listens (fcd number octets)) s = keeps_frame s number octets
answerer_table Message (listens (pps ends page block last)) s = answers_pps s ends (record { page = page; block = block }) last
answerer_table Message (listens rr) s = answers_rr s
answerer_table PhaseB (listens (pps ends page block last)) s = answers_repeated s (record { page = page; block = block })
answerer_table WaitTraining (listens (pps ends page block last)) s = answers_repeated s (record { page = page; block = block })
answerer_table PhaseB (listens rr) s = answers_rr s
answerer_table WaitTraining (listens rr) s = answers_rr s
answerer_table _ t1 s = answerer_ends s NoAnswer
answerer_table _ (listens dcn) s = answerer_ends s (leaves s.accepted)
answerer_table _ (is_busy busy) s = record { next = record s { busy = busy }; turn = Silent }
answerer_table _ _ s = answerer_silent s

-- an ended station is silent for good
abbrev pub unless_answerer_ended : Option End → AnswererInput → Answerer → AnswererAnswer
unless_answerer_ended (Some why) input s = answerer_silent s
unless_answerer_ended None input s = answerer_table s.state input s

-- the answerer's step: what the table says; an answerer that has ended is silent
abbrev pub answerer_step : Answerer → AnswererInput → AnswererAnswer
answerer_step s input = unless_answerer_ended s.ending input s

-- a new answerer, with nothing accepted, stored or under way; its parameters are made up until a DCS is allowed
abbrev pub new_answerer : Caps → Params → Answerer
new_answerer caps params =
    record {
      caps = caps;
      params = params;
      state = PhaseB;
      busy = false;
      accepted = None;
      asked = None;
      octets = [];
      frames = no_frames;
      ready = false;
      pages = [];
      ending = None;
    }

-- the items of an answerer's turn: the one frame of the turn, or none
abbrev pub answerer_items : Answerer → Turn → List PlainItem
answerer_items s SendDis = framed (dis s.caps) ∷ []
answerer_items s SendCfr = framed cfr ∷ []
answerer_items s SendFtt = framed ftt ∷ []
answerer_items s SendMcf = framed mcf ∷ []
answerer_items s (SendPpr map) = framed (ppr map) ∷ []
answerer_items s SendRnr = framed rnr ∷ []
answerer_items s SendDcn = framed dcn ∷ []
answerer_items s _ = []

-- the station afterwards and its turn are those of the answer
abbrev pub Steps : Answerer → Answerer → Turn → AnswererAnswer → Type 0
Steps old new turn answer = (new ≡ answer.next) × (turn ≡ answer.turn)

-- a step returns the turn of the answer and leaves its tuple; or memory was refused, and nothing has changed
abbrev pub StepsOrRefuses : {E : Type 0} → Answerer → Answerer → Result Turn E → AnswererAnswer → Type 0
StepsOrRefuses old new (Ok turn) answer = Steps old new turn answer
StepsOrRefuses old new (Err refused) answer = new ≡ old

-- an input that takes no memory: no FCD that is kept before the memory for frames is taken, and no PPS of a new block whose frames are all
-- there
abbrev pub AnswererTakesNoMemory : AnswererState → AnswererInput → Answerer → Type 0
AnswererTakesNoMemory Message (listens (fcd number octets)) s = (within_frame_size s.params octets ≡ false) ⊎ (s.ready ≡ true)
AnswererTakesNoMemory Message (listens (pps ends page block last)) s =
    (is_repeated s.accepted (record { page = page; block = block }) ≡ true) ⊎
    (all_there s.frames (last_counted s.asked (record { page = page; block = block }) last) ≡ false)
AnswererTakesNoMemory _ _ s = Unit {0}
