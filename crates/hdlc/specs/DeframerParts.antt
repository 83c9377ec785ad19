-- What the parts of a deframer, its finder, counts and queue, have of the bits so far.
use Rattle.std.specs.Prelude.{ℕ, ◌≡◌, ◌-◌, ◌^◌, ◌≤◌, Bool, true, List, ◌++◌, length, min, drop}
use Rattle.hdlc.specs.declared.counts.Class.{Class}
use Rattle.hdlc.specs.declared.counts.Class.TheVariants.{Good, Aborted, Ragged, Short, Long, Damaged}
use Rattle.hdlc.specs.declared.counts.Counts.{Counts}
use Rattle.hdlc.specs.declared.flag_finder.FlagFinder.{FlagFinder}
use Rattle.raster.specs.Octets.{number}
use Rattle.hdlc.specs.Gaps.{good, count_of}
use Rattle.hdlc.specs.OpenGap.{begun, held, recent, unclosed}
use Rattle.hdlc.specs.Collects.{Collects}
use Rattle.hdlc.specs.Kept.{Kept}

-- the count of a class in a record of counts
abbrev pub count_in : Counts → Class → ℕ
count_in counts Good = counts.good
count_in counts Aborted = counts.aborted
count_in counts Ragged = counts.ragged
count_in counts Short = counts.short
count_in counts Long = counts.long
count_in counts Damaged = counts.damaged

-- a flag finder keeps what matters of the bits so far: whether a flag came, the bits after it, the last eight bits, the open gap
pub record Cuts (finder : FlagFinder) (bits : List Bool) : Type 0 where
  pub begun : finder.begun ≡ begun bits
  pub held : finder.held ≡ held bits
  pub window : finder.window ≡ number (recent true bits)
  pub gap : Collects finder.gap (unclosed bits)

-- what a flag finder keeps, as clauses see it
abbrev pub kept_in : FlagFinder → Kept
kept_in finder = record {
  begun = finder.begun;
  held = finder.held;
  last = finder.window;
  seen = finder.gap.seen;
  ones = finder.gap.ones;
  aborted = finder.gap.aborted;
  octets = finder.gap.unstuffed.whole.items;
  long = finder.gap.unstuffed.long;
  part = finder.gap.unstuffed.part;
  ending = finder.gap.unstuffed.window;
}

-- The parts of a deframer after these bits: what the finder keeps, the counts by class, and a queue of the good contents without the
-- first `handed`.
pub record PartsAfter (finder : FlagFinder) (counts : Counts) (queue : List (List ℕ)) (bits : List Bool) (handed : ℕ) : Type 0 where
  pub cuts : Cuts finder bits
  pub counted : (class : Class) → count_in counts class ≡ min (2 ^ 64 - 1) (count_of class bits)
  pub within : handed ≤ length (good bits)
  pub queued : queue ≡ drop handed (good bits)

-- the new list begins with the old one
pub record Grows {A : Type 0} (old new : List A) : Type 0 where
  pub rest : List A
  pub is : new ≡ old ++ rest
