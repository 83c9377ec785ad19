-- The bursts of a turn, by what may come in one piece of the line.
use Rattle.std.proofs.Common.{◌≡◌, inl, inr, ℕ, suc, Bool, true, false, cond, Option, Some, None, List, [], ◌∷◌, ◌++◌, map, refl, ap, sym, subst}
use Rattle.std.proofs.Common.{◌+◌}
use Rattle.partial_page.specs.Store.{bit_of}
use Rattle.signals.specs.Signals.{PlainSignal, dcs, fcd, rcp, rr, dcn}
use Rattle.signals.specs.declared.params.Params.{Params}
use Rattle.signals.specs.declared.params.Speed.{Speed}
use Rattle.stations.specs.AnswererStep.{Answerer, answerer_items}
use Rattle.stations.specs.Blocks.{Block}
use Rattle.stations.specs.Bursts.{PlainBurst, TurnsCut, bursts_of}
use Rattle.stations.specs.CallerStep.{Caller, burst_of, caller_items, fcds, pps_items, present_block, training_items}
use Rattle.stations.specs.Inputs.{PlainItem, framed, checked}
use Rattle.stations.specs.Laws.{Each}
use Rattle.stations.specs.Layers.{training}
use Rattle.stations.specs.declared.turn.CallerState.{CallerState}
use Rattle.stations.specs.declared.turn.CallerState.TheVariants.{WaitDis, WaitCfr, WaitBlock, WaitReady}
use Rattle.stations.specs.declared.turn.Turn.{Turn}
use Rattle.stations.specs.declared.turn.Turn.TheVariants.{Training as SendTraining, Burst, Pps as SendPps, Rr as SendRr, Dcn as SendDcn}
use Rattle.stations.specs.declared.turn.Turn.TheVariants.{Dis as SendDis, Cfr as SendCfr, Ftt as SendFtt, Mcf as SendMcf}
use Rattle.stations.specs.declared.turn.Turn.TheVariants.{Ppr as SendPpr, Rnr as SendRnr}
use Rattle.joined_terminals.specs.Joining.{if_clear}
use Rattle.joined_terminals.specs.Octets.{BurstsArePieces, IsOfPage, IsPiece, IsPieceOrCheck, SendingSends}

-- items that are frames of a page
record AreOfPage (items : List PlainItem) : Type 0 where
  pub signals : List PlainSignal
  pub are : items ≡ map framed signals
  pub of_page : Each IsOfPage signals

page_more : (signal : PlainSignal) (items : List PlainItem) → IsOfPage signal → AreOfPage items → AreOfPage (framed signal ∷ items)
page_more signal items is p =
    record { signals = signal ∷ p.signals; are = ap (λ l. framed signal ∷ l) p.are; of_page = (is, p.of_page) }

fcds_of_page : (map : List ℕ) (number : ℕ) (frames : List (List ℕ)) (items : List PlainItem) → AreOfPage items →
    AreOfPage (fcds map number frames ++ items)
fcds_of_page map number [] items p = p
fcds_of_page map number (octets ∷ frames) items p = marked (bit_of map number) (fcds_of_page map (suc number) frames items p)
  where
    marked : (b : Bool) → AreOfPage (fcds map (suc number) frames ++ items) →
        AreOfPage (cond b (framed (fcd number octets) ∷ fcds map (suc number) frames) (fcds map (suc number) frames) ++ items)
    marked true h = page_more (fcd number octets) (fcds map (suc number) frames ++ items) tt h
    marked false h = h

ends_of_page : AreOfPage (framed rcp ∷ framed rcp ∷ framed rcp ∷ [])
ends_of_page = record { signals = rcp ∷ rcp ∷ rcp ∷ []; are = refl; of_page = (tt, (tt, (tt, tt))) }

piece_of_page : (signals : List PlainSignal) → Each IsOfPage signals → IsPiece signals
piece_of_page [] h = tt
piece_of_page (signal ∷ []) h = tt
piece_of_page (signal ∷ next ∷ more) h = (h.0, piece_of_page (next ∷ more) h.1)

-- a burst of one frame
one_frame : (speed : Speed) (signal : PlainSignal) → Each IsPieceOrCheck (bursts_of speed (framed signal ∷ []))
unfolding bursts_of
one_frame speed signal = (inl (signal ∷ [], refl, tt), tt)

no_frame : (speed : Speed) → Each IsPieceOrCheck (bursts_of speed [])
unfolding bursts_of
no_frame speed = tt

dcs_and_check : (speed : Speed) (params : Params) (octets : List ℕ) →
    Each IsPieceOrCheck (bursts_of speed (framed (dcs params) ∷ checked octets ∷ []))
unfolding bursts_of
dcs_and_check speed params octets = (inl (dcs params ∷ [], refl, tt), (inr (octets, refl), tt))

in_training : (state : CallerState) (speed : Speed) (params : Params) → Each IsPieceOrCheck (bursts_of speed (training_items state params))
in_training WaitDis speed params = no_frame speed
in_training WaitCfr speed params = dcs_and_check speed params (training params)
in_training WaitBlock speed params = dcs_and_check speed params (training params)
in_training WaitReady speed params = dcs_and_check speed params (training params)

in_block : TurnsCut → (speed : Speed) (map : List ℕ) (block : Option Block) → Each IsPieceOrCheck (bursts_of speed (burst_of map block))
in_block cut speed map None = no_frame speed
in_block cut speed map (Some block) =
    let page = fcds_of_page map 0 block.frames (framed rcp ∷ framed rcp ∷ framed rcp ∷ []) ends_of_page in
    subst (Each IsPieceOrCheck) (sym (cut.block speed map block))
    (inl (page.signals, page.are, piece_of_page page.signals page.of_page), (inl (_ ∷ [], refl, tt), tt))

in_pps : (speed : Speed) (block : Option Block) → Each IsPieceOrCheck (bursts_of speed (pps_items block))
in_pps speed None = no_frame speed
in_pps speed (Some block) = one_frame speed _

caller_pieces : TurnsCut → (t : Caller) (turn : Turn) → Each IsPieceOrCheck (bursts_of t.params.speed (caller_items t turn))
caller_pieces cut t SendTraining = in_training t.state t.params.speed t.params
caller_pieces cut t (Burst map) = in_block cut t.params.speed map (present_block t)
caller_pieces cut t SendPps = in_pps t.params.speed (present_block t)
caller_pieces cut t SendRr = one_frame t.params.speed rr
caller_pieces cut t SendDcn = one_frame t.params.speed dcn
caller_pieces cut t _ = no_frame t.params.speed

-- the burst of an answerer is one frame
abbrev IsOneFrame : PlainBurst → Type 0
IsOneFrame burst = (signal : PlainSignal) × (burst.items ≡ framed signal ∷ [])

reply : (speed : Speed) (signal : PlainSignal) → Each IsOneFrame (bursts_of speed (framed signal ∷ []))
unfolding bursts_of
reply speed signal = ((signal, refl), tt)

no_reply : (speed : Speed) → Each IsOneFrame (bursts_of speed [])
unfolding bursts_of
no_reply speed = tt

answerer_pieces : (s : Answerer) (turn : Turn) → Each IsOneFrame (bursts_of s.params.speed (answerer_items s turn))
answerer_pieces s SendDis = reply s.params.speed _
answerer_pieces s SendCfr = reply s.params.speed _
answerer_pieces s SendFtt = reply s.params.speed _
answerer_pieces s SendMcf = reply s.params.speed _
answerer_pieces s (SendPpr map) = reply s.params.speed _
answerer_pieces s SendRnr = reply s.params.speed _
answerer_pieces s SendDcn = reply s.params.speed _
answerer_pieces s _ = no_reply s.params.speed

pub bursts_are_pieces : TurnsCut → BurstsArePieces
bursts_are_pieces cut = record { caller = caller_pieces cut; answerer = answerer_pieces }

-- what is sent goes onto the line
pub sending_sends : SendingSends
sending_sends = record {
  caller = λ j speaking sent h. (
    record j {
      caller = record j.caller { taken = j.caller.taken + 1 };
      to_answerer = j.to_answerer ++ if_clear j.caller_clear h.2.0.items;
    },
    record { bursts = h.0; lent = h.1; burst = h.2.0; later = h.2.1; next = h.2.2; is = refl },
    sym h.2.4,
    h.2.3,
  );
  answerer = λ j speaking sent h. (
    record j {
      answerer = record j.answerer { taken = j.answerer.taken + 1 };
      to_caller = j.to_caller ++ if_clear j.answerer_clear h.2.0.items;
    },
    record { bursts = h.0; lent = h.1; burst = h.2.0; later = h.2.1; next = h.2.2; is = refl },
    sym h.2.4,
    h.2.3,
  );
}
