-- The items of a turn by the carriers that they go out on (T.30, 5.3 and Annex A).
use Rattle.std.specs.Prelude.{ℕ, ◌≡◌, ◌≢◌, Bool, true, false, cond, List, [], ◌∷◌, ◌++◌, Option, Some, None}
use Rattle.signals.specs.Signals.{dis, dcs, cfr, ftt, fcd, rcp, pps, ppr, mcf, rnr, rr, dcn, other}
use Rattle.signals.specs.declared.params.Params.{Params}
use Rattle.signals.specs.declared.params.Speed.{Speed}
use Rattle.stations.specs.AnswererStep.{Answerer, answerer_items}
use Rattle.stations.specs.Blocks.{Block}
use Rattle.stations.specs.CallerStep.{burst_of, fcds, pps_of, training_items}
use Rattle.stations.specs.Inputs.{PlainItem, framed, checked}
use Rattle.stations.specs.Laws.{Each}
use Rattle.stations.specs.Layers.{training}
use Rattle.stations.specs.Lending.{plain_item, TellsLast}
use Rattle.stations.specs.declared.carrier.Carrier.{Carrier}
use Rattle.stations.specs.declared.carrier.Carrier.TheVariants.{V21, Training, Page}
use Rattle.stations.specs.declared.lending.Item.{Item}
use Rattle.stations.specs.declared.turn.CallerState.TheVariants.{WaitCfr}
use Rattle.stations.specs.declared.turn.Turn.{Turn}

-- the carrier of an item: FCDs and RCPs go out at the message speed, and so does the training check; every other frame goes out by V.21
-- (T.30, 5.3 and Annex A)
abbrev pub carrier_of : Speed → PlainItem → Carrier
carrier_of speed (framed (fcd number octets)) = Page speed
carrier_of speed (framed rcp) = Page speed
carrier_of speed (framed (dis caps)) = V21
carrier_of speed (framed (dcs params)) = V21
carrier_of speed (framed cfr) = V21
carrier_of speed (framed ftt) = V21
carrier_of speed (framed (pps ends page block last)) = V21
carrier_of speed (framed (ppr map)) = V21
carrier_of speed (framed mcf) = V21
carrier_of speed (framed rnr) = V21
carrier_of speed (framed rr) = V21
carrier_of speed (framed dcn) = V21
carrier_of speed (framed (other octet)) = V21
carrier_of speed (checked octets) = Training speed

-- two carriers of one turn, which has one message speed, are the same
abbrev pub same_kind : Carrier → Carrier → Bool
same_kind V21 V21 = true
same_kind V21 (Training speed) = false
same_kind V21 (Page speed) = false
same_kind (Training speed) V21 = false
same_kind (Training speed) (Training other_speed) = true
same_kind (Training speed) (Page other_speed) = false
same_kind (Page speed) V21 = false
same_kind (Page speed) (Training other_speed) = false
same_kind (Page speed) (Page other_speed) = true

-- items that go out one after the other on one carrier
pub record PlainBurst : Type 0 where
  pub carrier : Carrier
  pub items : List PlainItem

-- an item before bursts: in the first one if that has its carrier, else alone
abbrev pub put_before : Carrier → PlainItem → List PlainBurst → List PlainBurst
put_before carrier item [] = record { carrier = carrier; items = item ∷ [] } ∷ []
put_before carrier item (burst ∷ bursts) =
    cond (same_kind carrier burst.carrier)
    (record { carrier = carrier; items = item ∷ burst.items } ∷ bursts)
    (record { carrier = carrier; items = item ∷ [] } ∷ burst ∷ bursts)

-- the items of a turn in bursts: a new burst begins exactly if the carrier changes
unfoldable pub bursts_of : Speed → List PlainItem → List PlainBurst
bursts_of speed [] = []
bursts_of speed (item ∷ items) = put_before (carrier_of speed item) item (bursts_of speed items)

-- all items of bursts, in order
abbrev pub items_of : List PlainBurst → List PlainItem
items_of [] = []
items_of (burst ∷ bursts) = burst.items ++ items_of bursts

-- the items on one carrier that items begin with
unfoldable pub front_by : Speed → Carrier → List PlainItem → List PlainItem
front_by speed carrier [] = []
front_by speed carrier (item ∷ items) =
    cond (same_kind (carrier_of speed item) carrier) (item ∷ front_by speed carrier items) []

-- the items after the front ones
unfoldable pub rest_by : Speed → Carrier → List PlainItem → List PlainItem
rest_by speed carrier [] = []
rest_by speed carrier (item ∷ items) =
    cond (same_kind (carrier_of speed item) carrier) (rest_by speed carrier items) (item ∷ items)

-- the items that a burst has left, and those of the turn's later bursts
pub record BurstLeft : Type 0 where
  pub burst : List PlainItem
  pub after : List PlainItem

-- the first item that a burst has left is given, and the others stay; a frame is marked as the last one exactly if no frame of the whole
-- turn is left
abbrev pub GivesBurstItem : BurstLeft → Option Item → BurstLeft → Type 0
GivesBurstItem old None new = (old.burst ≡ []) × (new ≡ old)
GivesBurstItem old (Some item) new =
    (old.burst ≡ plain_item item ∷ new.burst) × (new.after ≡ old.after) × TellsLast item (new.burst ++ new.after)

-- the first item, if there is one
abbrev pub BeginsWith : List PlainItem → Option Item → Type 0
BeginsWith items None = items ≡ []
BeginsWith items (Some item) = (more : List PlainItem) × (items ≡ plain_item item ∷ more)

-- neighbouring bursts are on different carriers
abbrev pub Differ : List PlainBurst → Type 0
Differ [] = Unit {0}
Differ (burst ∷ []) = Unit {0}
Differ (burst ∷ next ∷ bursts) = (burst.carrier ≢ next.carrier) × Differ (next ∷ bursts)

-- a burst has an item, and each of its items is one of its carrier
abbrev pub IsBurst : Speed → PlainBurst → Type 0
IsBurst speed burst = (burst.items ≢ []) × Each (λ item. carrier_of speed item ≡ burst.carrier) burst.items

-- bursts are those of items: in order they have the items and no others; each has items of its carrier; and the carrier changes after each
pub record AreBursts (speed : Speed) (items : List PlainItem) (bursts : List PlainBurst) : Type 0 where
  pub joined : items_of bursts ≡ items
  pub carried : Each (IsBurst speed) bursts
  pub change : Differ bursts

-- law: the bursts of any items have these items in order and no others; each has one item at least, and only items of its carrier;
-- neighbours have different carriers
abbrev pub CutByCarrier : Type 0
CutByCarrier = (speed : Speed) (items : List PlainItem) → AreBursts speed items (bursts_of speed items)

-- law: the bursts of a block are its FCDs with three RCPs at the message speed, then PPS by V.21; those of DCS are DCS by V.21, then the
-- training check; an answerer's turn goes out by V.21 alone
pub record TurnsCut : Type 0 where
  pub block :
      (speed : Speed) (map : List ℕ) (block : Block) →
      bursts_of speed (burst_of map (Some block)) ≡
      record { carrier = Page speed; items = fcds map 0 block.frames ++ framed rcp ∷ framed rcp ∷ framed rcp ∷ [] } ∷
      record { carrier = V21; items = pps_of block ∷ [] } ∷ []
  pub check :
      (params : Params) →
      bursts_of params.speed (training_items WaitCfr params) ≡
      record { carrier = V21; items = framed (dcs params) ∷ [] } ∷
      record { carrier = Training params.speed; items = checked (training params) ∷ [] } ∷ []
  pub answers :
      (s : Answerer) (turn : Turn) → Each (λ burst. burst.carrier ≡ V21) (bursts_of s.params.speed (answerer_items s turn))
