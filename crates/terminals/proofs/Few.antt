-- How many bursts the turn of a station has.
use Rattle.std.proofs.Common.{◌≡◌, ◌≤◌, ◌+◌, ℕ, List, [], ◌∷◌, length, arith, refl}
use Rattle.std.specs.Prelude.{Option, Some, None}
use Rattle.signals.specs.Signals.{cfr, dcn, dis, ftt, mcf, ppr, rnr, rr}
use Rattle.signals.specs.declared.params.Params.{Params}
use Rattle.signals.specs.declared.params.Speed.{Speed}
use Rattle.stations.specs.Blocks.{Block}
use Rattle.stations.specs.Bursts.{TurnsCut, bursts_of}
use Rattle.stations.specs.CallerStep.{burst_of, pps_items, pps_of, present_block, training_items}
use Rattle.stations.specs.Inputs.{PlainItem, framed}
use Rattle.stations.specs.declared.turn.CallerState.{CallerState}
use Rattle.stations.specs.declared.turn.CallerState.TheVariants.{WaitDis, WaitCfr, WaitBlock, WaitReady}
use Rattle.stations.specs.declared.turn.Turn.TheVariants.{Silent, Dis, Training, Cfr, Ftt, Burst, Pps, Mcf, Ppr, Rnr, Rr, Dcn}
use Rattle.terminals.specs.Bursts.{AnswerersSendOne, CallersSendTwo}

abbrev the_none : List PlainItem
the_none = []

none_of : (speed : Speed) (most : ℕ) → length (bursts_of speed the_none) ≤ most
unfolding bursts_of
none_of speed most = let e : length (bursts_of speed the_none) ≡ 0 = refl in rw e (omega arith)

one_of : (speed : Speed) (item : PlainItem) (more : ℕ) → length (bursts_of speed (item ∷ [])) ≤ more + 1
unfolding bursts_of
one_of speed item more = let e : length (bursts_of speed (item ∷ [])) ≡ 1 = refl in rw e (omega arith)

block_of_two : TurnsCut → (speed : Speed) (map : List ℕ) (block : Option Block) → length (bursts_of speed (burst_of map block)) ≤ 2
block_of_two cut speed map None = none_of speed 2
block_of_two cut speed map (Some block) = rw (cut.block speed map block) (omega arith)

pps_of_one : (speed : Speed) (block : Option Block) → length (bursts_of speed (pps_items block)) ≤ 2
pps_of_one speed None = none_of speed 2
pps_of_one speed (Some block) = one_of speed (pps_of block) 1

training_of_two : TurnsCut → (state : CallerState) (params : Params) → length (bursts_of params.speed (training_items state params)) ≤ 2
training_of_two cut WaitDis params = none_of params.speed 2
training_of_two cut WaitCfr params = rw (cut.check params) (omega arith)
training_of_two cut WaitBlock params = rw (cut.check params) (omega arith)
training_of_two cut WaitReady params = rw (cut.check params) (omega arith)

pub callers_send_two : TurnsCut → CallersSendTwo
callers_send_two cut t Training = training_of_two cut t.state t.params
callers_send_two cut t (Burst map) = block_of_two cut t.params.speed map (present_block t)
callers_send_two cut t Pps = pps_of_one t.params.speed (present_block t)
callers_send_two cut t Rr = one_of t.params.speed (framed rr) 1
callers_send_two cut t Dcn = one_of t.params.speed (framed dcn) 1
callers_send_two cut t Silent = none_of t.params.speed 2
callers_send_two cut t Dis = none_of t.params.speed 2
callers_send_two cut t Cfr = none_of t.params.speed 2
callers_send_two cut t Ftt = none_of t.params.speed 2
callers_send_two cut t Mcf = none_of t.params.speed 2
callers_send_two cut t (Ppr map) = none_of t.params.speed 2
callers_send_two cut t Rnr = none_of t.params.speed 2

pub answerers_send_one : AnswerersSendOne
answerers_send_one s Dis = one_of s.params.speed (framed (dis s.caps)) 0
answerers_send_one s Cfr = one_of s.params.speed (framed cfr) 0
answerers_send_one s Ftt = one_of s.params.speed (framed ftt) 0
answerers_send_one s Mcf = one_of s.params.speed (framed mcf) 0
answerers_send_one s (Ppr map) = one_of s.params.speed (framed (ppr map)) 0
answerers_send_one s Rnr = one_of s.params.speed (framed rnr) 0
answerers_send_one s Dcn = one_of s.params.speed (framed dcn) 0
answerers_send_one s Silent = none_of s.params.speed 1
answerers_send_one s Training = none_of s.params.speed 1
answerers_send_one s (Burst map) = none_of s.params.speed 1
answerers_send_one s Pps = none_of s.params.speed 1
answerers_send_one s Rr = none_of s.params.speed 1
