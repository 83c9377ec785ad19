-- The bursts of a turn, lent one at a time.
use Rattle.std.specs.Prelude.{◌≡◌, ◌↔◌, List, [], ◌∷◌, Option, Some, None, IsTrue}
use Rattle.stations.specs.Bursts.{PlainBurst, items_of}
use Rattle.stations.specs.declared.bursts.Burst.{Burst}

-- a burst that is given, with all its items left
abbrev pub plain_burst : Burst → PlainBurst
plain_burst burst = record { carrier = burst.carrier; items = burst.items.burst }

-- the first of the bursts left is given, and the others stay; it is marked as the last one exactly if none is left
abbrev pub GivesBurst : List PlainBurst → Option Burst → List PlainBurst → Type 0
GivesBurst old None new = (old ≡ []) × (new ≡ [])
GivesBurst old (Some burst) new =
    (old ≡ plain_burst burst ∷ new) × (burst.items.after ≡ items_of new) × (IsTrue burst.last ↔ (new ≡ []))
