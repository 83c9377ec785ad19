-- The calling station: a tuple and its one step.
use Rattle.std.specs.Prelude.{ℕ, suc, false, cond, List, [], ◌∷◌, ◌++◌, slice_get, Option, Some, None, nat_lt, replicate}
use Rattle.signals.specs.Signals.{dis, dcs, cfr, ftt, fcd, rcp, pps, ppr, mcf, rnr, rr, dcn}
use Rattle.signals.specs.declared.params.Caps.{Caps}
use Rattle.signals.specs.declared.params.Params.{Params}
use Rattle.signals.specs.declared.params.Wish.{Wish}
use Rattle.signals.specs.declared.params.Modems.TheVariants.{Fallback}
use Rattle.signals.specs.declared.params.PageWidth.TheVariants.{W1728}
use Rattle.signals.specs.declared.params.Speed.TheVariants.{V27At2400}
use Rattle.raster.specs.declared.coding.Coding.TheVariants.{OneDim}
use Rattle.signals.specs.declared.signal.PageEnd.{PageEnd}
use Rattle.signals.specs.declared.signal.PageEnd.TheVariants.{Null, Mps, Eom, Eop}
use Rattle.partial_page.specs.Store.{bit_of}
use Rattle.stations.specs.Layers.{Document, agreed_for, lowered, training}
use Rattle.stations.specs.Blocks.{Block, mark_of, last_frame_of, call_blocks, pages_before}
use Rattle.stations.specs.Inputs.{CallerInput, hears, timeout, t5, PlainItem, framed, checked}
use Rattle.stations.specs.declared.turn.CallerState.{CallerState}
use Rattle.stations.specs.declared.turn.CallerState.TheVariants.{WaitDis, WaitCfr, WaitBlock, WaitReady}
use Rattle.stations.specs.declared.turn.End.{End}
use Rattle.stations.specs.declared.turn.End.TheVariants.{Normal, NoAnswer, NotCompatible, Training as BadTraining, NoReply, Unreadable}
use Rattle.stations.specs.declared.turn.End.TheVariants.{StillBusy, PeerLeft, PageTooLong}
use Rattle.stations.specs.declared.turn.Turn.{Turn}
use Rattle.stations.specs.declared.turn.Turn.TheVariants.{Silent, Training as SendTraining, Burst, Pps as SendPps, Rr as SendRr}
use Rattle.stations.specs.declared.turn.Turn.TheVariants.{Dcn as SendDcn}

-- the caller's tuple: caps and params count from the first DIS that agrees; place is that of the present block in the call's list
pub record Caller : Type 0 where
  pub document : Document
  pub wish : Wish
  pub caps : Caps
  -- the parameters of the groups that are through, and those of the present group if it is begun
  pub finished : List Params
  pub present : List Params
  pub params : Params
  pub state : CallerState
  pub place : ℕ
  pub try : ℕ
  pub pprs : ℕ
  pub ending : Option End

-- what a step answers: the next tuple, and the turn
pub record CallerAnswer : Type 0 where
  pub next : Caller
  pub turn : Turn

-- the call blocks of the groups that are begun
abbrev pub blocks_of : Caller → List Block
blocks_of c = call_blocks (c.finished ++ c.present) 0 c.document

-- the number of confirmed pages: those whose last block comes before the present one
abbrev pub confirmed : Caller → ℕ
confirmed c = pages_before (blocks_of c) c.place

-- the map of every frame of a block
unfoldable pub all_frames : List ℕ
all_frames = replicate 32 255

-- nothing is sent, and nothing changes
abbrev pub caller_silent : Caller → CallerAnswer
caller_silent c = record { next = c; turn = Silent }

-- DCN, and the call ends
abbrev pub caller_gives_up : Caller → End → CallerAnswer
caller_gives_up c why = record { next = record c { ending = Some why }; turn = SendDcn }

-- the turn once more; after the third try the call ends
abbrev pub tries_again : Caller → Turn → CallerAnswer
tries_again c turn =
    cond (nat_lt c.try 3)
    (record { next = record c { try = suc c.try }; turn = turn })
    (caller_gives_up c NoReply)

-- a DIS in WaitDis, with the parameters that it agrees on for the page due, if it does
abbrev pub answers_dis : Caller → Caps → Option Params → CallerAnswer
answers_dis c caps None = caller_gives_up c NotCompatible
answers_dis c caps (Some params) =
    record { next = record c { caps = caps; present = params ∷ []; params = params; state = WaitCfr; try = 1 }; turn = SendTraining }

-- an FTT in WaitCfr, with the parameters at the next lower speed, if there is one
abbrev pub answers_ftt : Caller → Option Params → CallerAnswer
answers_ftt c None = caller_gives_up c BadTraining
answers_ftt c (Some params) =
    record { next = record c { present = params ∷ []; params = params; try = 1 }; turn = SendTraining }

-- the whole block at the caller's place goes out for the first time
abbrev pub first_burst : Caller → CallerAnswer
first_burst c = record { next = record c { state = WaitBlock; try = 1; pprs = 0 }; turn = Burst all_frames }

-- after a block with this end: the next block goes out; or the document is through; or the next page's code is too long
abbrev pub goes_on : Caller → PageEnd → Option Block → CallerAnswer
goes_on c ends (Some next) = first_burst c
goes_on c Eop None = caller_gives_up c Normal
goes_on c Null None = caller_gives_up c PageTooLong
goes_on c Mps None = caller_gives_up c PageTooLong
goes_on c Eom None = caller_gives_up c PageTooLong

-- a group is through: the caller waits for another DIS
abbrev pub ends_group : Caller → CallerAnswer
ends_group c = record { next = record c { finished = c.finished ++ c.present; present = []; state = WaitDis }; turn = Silent }

-- after a block with this end is confirmed: a group is through, or the next block goes out
abbrev pub goes_on_or_waits : Caller → PageEnd → Option Block → CallerAnswer
goes_on_or_waits c Eom next = ends_group c
goes_on_or_waits c Null next = goes_on c Null next
goes_on_or_waits c Mps next = goes_on c Mps next
goes_on_or_waits c Eop next = goes_on c Eop next

-- an MCF: the present block is confirmed
abbrev pub answers_mcf : Caller → Option Block → CallerAnswer
answers_mcf c None = caller_silent c
answers_mcf c (Some block) =
    goes_on_or_waits (record c { place = suc c.place }) block.ends (slice_get (blocks_of c) (suc c.place))

-- a PPR: the marked frames go out again, three times for a block at most
abbrev pub answers_ppr : Caller → List ℕ → CallerAnswer
answers_ppr c map =
    cond (nat_lt c.pprs 3)
    (record { next = record c { state = WaitBlock; try = 1; pprs = suc c.pprs }; turn = Burst map })
    (caller_gives_up c Unreadable)

-- an RNR: the caller asks whether the answerer is ready
abbrev pub answers_rnr : Caller → CallerAnswer
answers_rnr c = record { next = record c { state = WaitReady; try = 1 }; turn = SendRr }

-- the caller's table, a row for a state and an input
abbrev pub caller_table : CallerState → CallerInput → Caller → CallerAnswer
caller_table WaitDis (hears (dis caps)) c = answers_dis c caps (agreed_for caps c.wish (slice_get c.document (confirmed c)))
caller_table WaitDis timeout c = caller_gives_up c NoAnswer
caller_table WaitCfr (hears cfr) c = goes_on c Mps (slice_get (blocks_of c) c.place)
caller_table WaitCfr (hears ftt) c = answers_ftt c (lowered c.caps c.wish c.params)
caller_table WaitCfr (hears (dis caps)) c = tries_again c SendTraining
caller_table WaitCfr timeout c = tries_again c SendTraining
caller_table WaitBlock (hears mcf) c = answers_mcf c (slice_get (blocks_of c) c.place)
caller_table WaitBlock (hears (ppr map)) c = answers_ppr c map
caller_table WaitBlock (hears rnr) c = answers_rnr c
caller_table WaitBlock timeout c = tries_again c SendPps
caller_table WaitReady (hears mcf) c = answers_mcf c (slice_get (blocks_of c) c.place)
caller_table WaitReady (hears (ppr map)) c = answers_ppr c map
caller_table WaitReady (hears rnr) c = answers_rnr c
caller_table WaitReady timeout c = tries_again c SendRr
caller_table WaitReady t5 c = caller_gives_up c StillBusy
caller_table _ (hears dcn) c = record { next = record c { ending = Some PeerLeft }; turn = Silent }
caller_table _ _ c = caller_silent c

-- an ended station is silent for good
abbrev pub unless_caller_ended : Option End → CallerInput → Caller → CallerAnswer
unless_caller_ended (Some why) input c = caller_silent c
unless_caller_ended None input c = caller_table c.state input c

-- the caller's step: what the table says; a caller that has ended is silent
abbrev pub caller_step : Caller → CallerInput → CallerAnswer
caller_step c input = unless_caller_ended c.ending input c

-- a new caller; its caps and params are those of no DIS yet
abbrev pub new_caller : Document → Wish → Caps → Params → Caller
new_caller document wish caps params =
    record {
      document = document;
      wish = wish;
      caps = caps;
      finished = [];
      present = [];
      params = params;
      state = WaitDis;
      place = 0;
      try = 0;
      pprs = 0;
      ending = None;
    }

-- the FCDs of frames, the first of which has the number, whose bit in the map is 1
abbrev pub fcds : List ℕ → ℕ → List (List ℕ) → List PlainItem
fcds map number [] = []
fcds map number (octets ∷ frames) =
    cond (bit_of map number)
    (framed (fcd number octets) ∷ fcds map (suc number) frames)
    (fcds map (suc number) frames)

-- the PPS of a block
abbrev pub pps_of : Block → PlainItem
pps_of block = framed (pps block.ends (mark_of block).page (mark_of block).block (last_frame_of block))

-- a burst: the marked frames of a block, three RCP and PPS
abbrev pub burst_of : List ℕ → Option Block → List PlainItem
burst_of map None = []
burst_of map (Some block) = fcds map 0 block.frames ++ framed rcp ∷ framed rcp ∷ framed rcp ∷ pps_of block ∷ []

-- the PPS of a block alone, if there is a block
abbrev pub pps_items : Option Block → List PlainItem
pps_items None = []
pps_items (Some block) = pps_of block ∷ []

-- the block that a caller is sending, if it is sending one
abbrev pub present_in : CallerState → Option End → Option Block → Option Block
present_in WaitBlock None block = block
present_in WaitReady None block = block
present_in _ _ block = None

-- the block that a caller is sending, by its tuple
abbrev pub present_block : Caller → Option Block
present_block c = present_in c.state c.ending (slice_get (blocks_of c) c.place)

-- DCS and a training check; none before a DIS agrees on parameters for the group
abbrev pub training_items : CallerState → Params → List PlainItem
training_items WaitDis params = []
training_items WaitCfr params = framed (dcs params) ∷ checked (training params) ∷ []
training_items WaitBlock params = framed (dcs params) ∷ checked (training params) ∷ []
training_items WaitReady params = framed (dcs params) ∷ checked (training params) ∷ []

-- the items of a caller's turn: DCS and a training check; the marked FCDs of the present block in rising order, three RCPs and PPS; or PPS,
-- RR or DCN alone. A turn for which the state has nothing has none
abbrev pub caller_items : Caller → Turn → List PlainItem
caller_items c SendTraining = training_items c.state c.params
caller_items c (Burst map) = burst_of map (present_block c)
caller_items c SendPps = pps_items (present_block c)
caller_items c SendRr = framed rr ∷ []
caller_items c SendDcn = framed dcn ∷ []
caller_items c _ = []

-- the capabilities of a new caller, made up until a DIS comes; no turn shows them
abbrev pub no_caps : Caps
no_caps = record { receiver = false; modems = Fallback; fine = false; widest = W1728; t6 = false; ecm = false }

-- the parameters of a new station, made up until a DCS is agreed on; no turn shows them
abbrev pub no_params : Params
no_params = record { speed = V27At2400; fine = false; width = W1728; coding = OneDim; small = false }
