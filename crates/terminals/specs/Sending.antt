-- A burst as it goes out on its carrier: frames and flags, or the zeros of a training check.
use Rattle.std.specs.Prelude.{ℕ, zero, suc, ◌≡◌, ◌≢◌, ◌⊎◌, ◌↔◌, ◌+◌, ◌*◌, ◌<◌, Bool, false, List, [], ◌∷◌, ◌++◌, length, drop, replicate, Option}
use Rattle.std.specs.Prelude.{Some}
use Rattle.std.specs.Prelude.{None, Result, Ok, Err, IsTrue}
use Rattle.raster.specs.Packed.{FillsOctets}
use Rattle.raster.specs.declared.packed.Order.TheVariants.{LsbFirst}
use Rattle.hdlc.specs.Flags.{flag}
use Rattle.hdlc.specs.Frames.{IsFrame}
use Rattle.signals.specs.Signals.{PlainSignal}
use Rattle.signals.specs.Writing.{IsWritable, content_of}
use Rattle.signals.specs.declared.signal.Side.{Side}
use Rattle.stations.specs.Bursts.{PlainBurst, items_of}
use Rattle.stations.specs.Inputs.{PlainItem, framed, checked}
use Rattle.stations.specs.Lending.{has_no_frame}
use Rattle.terminals.specs.Speaking.{Speaking, BurstsOf, AreLent}
use Rattle.terminals.specs.Timing.{flags_before, flags_after}
use Rattle.terminals.specs.declared.sending.SentBurst.{SentBurst}

-- flags, one after the other
abbrev pub idle : ℕ → List Bool
idle zero = []
idle (suc count) = flag ++ idle count

-- the frame of a signal, from the station that sends it, marked if it is the turn's last one; a signal that can't be written has none
pub record IsFrameOf (side : Side) (last : Bool) (signal : PlainSignal) (bits : List Bool) : Type 0 where
  pub writable : IsWritable signal
  pub frame : IsFrame (content_of signal side last) bits

-- the bits of an item, which other items follow in the turn: its frame, or eight 0 bits for each octet of a training check
abbrev pub AreBitsOf : Side → PlainItem → List PlainItem → List Bool → Type 0
AreBitsOf side (framed signal) following bits =
    IsFrameOf side (has_no_frame following) signal bits ⊎ ((¬ IsWritable signal) × (bits ≡ []))
AreBitsOf side (checked octets) following bits = bits ≡ replicate (8 * length octets) false

-- the bits of items, one after the other: a frame for each signal, marked if it is the turn's last one, and 0 bits for a training check
abbrev pub AreBits : Side → List PlainItem → List PlainItem → List Bool → Type 0
AreBits side [] later bits = bits ≡ []
AreBits side (item ∷ items) later bits =
    (front : List Bool) × (rest : List Bool) × AreBitsOf side item (items ++ later) front × AreBits side items later rest ×
    (bits ≡ front ++ rest)

-- a burst as it is sent: flags, the bits of its items and flags, in octets, with their number, and nothing else
pub record IsSent (side : Side) (burst : PlainBurst) (later : List PlainBurst) (sent : SentBurst) : Type 0 where
  pub bits : List Bool
  pub are : AreBits side burst.items (items_of later) bits
  pub carrier : sent.carrier ≡ burst.carrier
  pub count : sent.bits ≡ length (idle (flags_before burst.carrier) ++ (bits ++ idle (flags_after burst.carrier)))
  pub octets : FillsOctets LsbFirst (idle (flags_before burst.carrier) ++ (bits ++ idle (flags_after burst.carrier))) sent.octets.items
  pub last : IsTrue sent.last ↔ (later ≡ [])

-- the first of the turn's bursts that wasn't taken is sent, and counts as taken; None if all were taken, or 255, which are more than a turn
-- has; or memory was refused, and nothing has changed
abbrev pub SendsNext : {S E : Type 0} → Side → List PlainBurst → Speaking S → Speaking S → Result (Option SentBurst) E → Type 0
SendsNext side bursts old new (Ok None) = (old.taken < 255 → drop old.taken bursts ≡ []) × (new ≡ old)
SendsNext side bursts old new (Ok (Some sent)) =
    (burst : PlainBurst) × (later : List PlainBurst) × (drop old.taken bursts ≡ burst ∷ later) × IsSent side burst later sent ×
    (new ≡ record old { taken = old.taken + 1 })
SendsNext side bursts old new (Err refused) = new ≡ old

-- the first burst that wasn't taken of the turn that is kept is sent, and counts as taken
abbrev pub Sends : {S E : Type 0} → Side → BurstsOf S → Speaking S → Speaking S → Result (Option SentBurst) E → Type 0
Sends side lends old new result =
    (bursts : List PlainBurst) × AreLent lends old.station old.turn bursts × SendsNext side bursts old new result

-- a burst of the turn that is kept is left to be sent, of the first 255, which are more than a turn has
abbrev pub HasBurst : {S : Type 0} → BurstsOf S → Speaking S → Bool → Type 0
HasBurst lends now is =
    (bursts : List PlainBurst) × AreLent lends now.station now.turn bursts × (IsTrue is ↔ ((now.taken < 255) × (drop now.taken bursts ≢ [])))
