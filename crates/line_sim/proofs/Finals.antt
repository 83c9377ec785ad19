-- The items of each turn of a station: its last frame is final, and no other one.
use Rattle.std.proofs.Common.{◌≡◌, ℕ, suc, Bool, true, false, cond, Option, Some, None, List, [], ◌∷◌, ◌++◌, refl}
use Rattle.partial_page.specs.Store.{bit_of}
use Rattle.signals.specs.Signals.{fcd, rcp}
use Rattle.signals.specs.declared.params.Params.{Params}
use Rattle.stations.specs.AnswererStep.{Answerer, answerer_items}
use Rattle.stations.specs.Blocks.{Block}
use Rattle.stations.specs.CallerStep.{Caller, burst_of, caller_items, fcds, pps_items, pps_of, present_block, training_items}
use Rattle.stations.specs.Inputs.{PlainItem, framed}
use Rattle.stations.specs.Lending.{has_no_frame}
use Rattle.stations.specs.declared.turn.CallerState.{CallerState}
use Rattle.stations.specs.declared.turn.CallerState.TheVariants.{WaitDis, WaitCfr, WaitBlock, WaitReady}
use Rattle.stations.specs.declared.turn.Turn.{Turn}
use Rattle.stations.specs.declared.turn.Turn.TheVariants.{Silent, Dis, Training, Cfr, Ftt, Burst, Pps, Mcf, Ppr, Rnr, Rr, Dcn}
use Rattle.line_sim.specs.Octets.{AreFinal}

-- what ends a burst
abbrev burst_end : Block → List PlainItem
burst_end block = framed rcp ∷ framed rcp ∷ framed rcp ∷ pps_of block ∷ []

-- frames follow each FCD of a burst
followed : (map : List ℕ) (number : ℕ) (frames : List (List ℕ)) (block : Block) →
    has_no_frame (fcds map number frames ++ burst_end block) ≡ false
followed map number [] block = refl
followed map number (octets ∷ frames) block = at (bit_of map number) (followed map (suc number) frames block)
  where
    at : (marked : Bool) → has_no_frame (fcds map (suc number) frames ++ burst_end block) ≡ false →
        has_no_frame (cond marked (framed (fcd number octets) ∷ fcds map (suc number) frames) (fcds map (suc number) frames) ++
        burst_end block) ≡ false
    at true rest = refl
    at false rest = rest

burst_final : (map : List ℕ) (number : ℕ) (frames : List (List ℕ)) (block : Block) →
    AreFinal (fcds map number frames ++ burst_end block)
burst_final map number [] block = (refl, (refl, (refl, (refl, tt))))
burst_final map number (octets ∷ frames) block =
    at (bit_of map number) (followed map (suc number) frames block) (burst_final map (suc number) frames block)
  where
    at : (marked : Bool) → has_no_frame (fcds map (suc number) frames ++ burst_end block) ≡ false →
        AreFinal (fcds map (suc number) frames ++ burst_end block) →
        AreFinal (cond marked (framed (fcd number octets) ∷ fcds map (suc number) frames) (fcds map (suc number) frames) ++
        burst_end block)
    at true others rest = (others, rest)
    at false others rest = rest

burst_items : (map : List ℕ) (block : Option Block) → AreFinal (burst_of map block)
burst_items map None = tt
burst_items map (Some block) = burst_final map 0 block.frames block

pps_final : (block : Option Block) → AreFinal (pps_items block)
pps_final None = tt
pps_final (Some block) = (refl, tt)

training_final : (state : CallerState) (params : Params) → AreFinal (training_items state params)
training_final WaitDis params = tt
training_final WaitCfr params = (refl, tt)
training_final WaitBlock params = (refl, tt)
training_final WaitReady params = (refl, tt)

pub caller_final : (c : Caller) (turn : Turn) → AreFinal (caller_items c turn)
caller_final c Silent = tt
caller_final c Dis = tt
caller_final c Training = training_final c.state c.params
caller_final c Cfr = tt
caller_final c Ftt = tt
caller_final c (Burst map) = burst_items map (present_block c)
caller_final c Pps = pps_final (present_block c)
caller_final c Mcf = tt
caller_final c (Ppr map) = tt
caller_final c Rnr = tt
caller_final c Rr = (refl, tt)
caller_final c Dcn = (refl, tt)

pub answerer_final : (s : Answerer) (turn : Turn) → AreFinal (answerer_items s turn)
answerer_final s Silent = tt
answerer_final s Dis = (refl, tt)
answerer_final s Training = tt
answerer_final s Cfr = (refl, tt)
answerer_final s Ftt = (refl, tt)
answerer_final s (Burst map) = tt
answerer_final s Pps = tt
answerer_final s Mcf = (refl, tt)
answerer_final s (Ppr map) = (refl, tt)
answerer_final s Rnr = (refl, tt)
answerer_final s Rr = tt
answerer_final s Dcn = (refl, tt)
