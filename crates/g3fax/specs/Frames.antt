-- What calls answer and make of frames.
use Rattle.std.specs.Prelude.{ℕ, ◌≡◌, ◌≢◌, ◌<◌, ◌≤◌, ◌-◌, ◌^◌, ◌++◌, ◌⊎◌, Bool, List, length, drop, min, slice_get}
use Rattle.std.specs.declared.option.Option.{Option}
use Rattle.std.specs.declared.option.Option.TheVariants.{None, Some}
use Rattle.raster.specs.Packed.{FillsOctets, bits_of}
use Rattle.raster.specs.declared.packed.Order.TheVariants.{LsbFirst}
use Rattle.hdlc.specs.DeframerState.{DeframerState, IsAfter}
use Rattle.hdlc.specs.Frames.{IsFrame}
use Rattle.hdlc.specs.Gaps.{count_of}
use Rattle.hdlc.specs.declared.counts.Class.TheVariants.{Good, Aborted, Ragged, Short, Long, Damaged}
use Rattle.g3fax.specs.Codes.{Tells}
use Rattle.g3fax.specs.Handles.{Copies, Fills, HasOctets}
use Rattle.g3fax.specs.Statuses.{ok, no_memory, no_room, bad_length, nothing_there}
use Rattle.g3fax.specs.declared.frames.G3Counts.{G3Counts}
use Rattle.g3fax.specs.declared.handle.Kept.{Kept}

-- a deframer has taken the bits of octets, the least significant of each first; if memory is refused it stays
pub record Feeds (octets : List ℕ) (old new : DeframerState) (status : ℕ) : Type 0 where
  pub done : status ≡ ok → (bits : List Bool) (handed : ℕ) → IsAfter old bits handed → IsAfter new (bits ++ bits_of LsbFirst octets) handed
  pub kept : status ≢ ok → new ≡ old
  pub only : (status ≡ ok) ⊎ (status ≡ no_memory)

-- the greatest number of octets of a content
abbrev pub longest_content : ℕ
longest_content = 300

-- the oldest content that waits is copied to a buffer, and doesn't wait any longer
abbrev pub HandsOut : Option (List ℕ) → DeframerState → DeframerState → List ℕ → List ℕ → ℕ → ℕ → Type 0
HandsOut None old new before after count status = (status ≡ nothing_there) × (new ≡ old) × (after ≡ before)
HandsOut (Some content) old new before after count status = (new ≡ record old { queue = drop 1 old.queue })
    × Copies content before after count status

-- The oldest content that waits is copied to a buffer and waits no longer. 106 if none waits. 103 if the buffer has fewer than 300 octets,
-- and nothing is handed out.
pub record NextContent (old new : DeframerState) (before after : List ℕ) (count status : ℕ) : Type 0 where
  pub small : length before < longest_content → (status ≡ no_room) × (new ≡ old) × (after ≡ before) × (count ≡ longest_content)
  pub fits : longest_content ≤ length before → HandsOut (slice_get old.queue 0) old new before after count status

-- how many gaps of each class the bits so far have, 2^64 - 1 at most
pub record TellsCounts (state : DeframerState) (counts : G3Counts) (status : ℕ) : Type 0 where
  pub done : status ≡ ok
  pub good : (bits : List Bool) (handed : ℕ) → IsAfter state bits handed → counts.good ≡ min (2 ^ 64 - 1) (count_of Good bits)
  pub aborted : (bits : List Bool) (handed : ℕ) → IsAfter state bits handed → counts.aborted ≡ min (2 ^ 64 - 1) (count_of Aborted bits)
  pub ragged : (bits : List Bool) (handed : ℕ) → IsAfter state bits handed → counts.ragged ≡ min (2 ^ 64 - 1) (count_of Ragged bits)
  pub short : (bits : List Bool) (handed : ℕ) → IsAfter state bits handed → counts.short ≡ min (2 ^ 64 - 1) (count_of Short bits)
  pub long : (bits : List Bool) (handed : ℕ) → IsAfter state bits handed → counts.long ≡ min (2 ^ 64 - 1) (count_of Long bits)
  pub damaged : (bits : List Bool) (handed : ℕ) → IsAfter state bits handed → counts.damaged ≡ min (2 ^ 64 - 1) (count_of Damaged bits)

-- octets hold the frame of a content, the least significant bit of each first, and then fewer than eight 0 bits; its bits are told
pub record HoldsFrame (content octets : List ℕ) (bits : ℕ) : Type 0 where
  pub frame : List Bool
  pub is : IsFrame content frame
  pub filled : FillsOctets LsbFirst frame octets
  pub told : Tells (length frame) bits

-- An empty handle is filled with octets that hold the frame of a content, and its number of bits is told. 105 exactly if the content hasn't
-- 3 to 300 octets; else 0, or 9.
pub record WritesFrame (content : List ℕ) (old : Option Kept) (status bits : ℕ) (new : Option Kept) : Type 0 where
  pub fills : Fills (HasOctets (λ octets. HoldsFrame content octets bits)) old status new
  pub short : old ≡ None → length content < 3 → status ≡ bad_length
  pub long : old ≡ None → longest_content < length content → status ≡ bad_length
  pub only : old ≡ None → 3 ≤ length content → length content ≤ longest_content → (status ≡ ok) ⊎ (status ≡ no_memory)
