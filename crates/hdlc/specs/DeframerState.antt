-- A deframer as clauses see it: what is kept of the bits so far, its counts, and the contents that wait.
use Rattle.std.specs.Prelude.{ℕ, ◌≡◌, ◌-◌, ◌^◌, ◌≤◌, Bool, List, length, min, drop}
use Rattle.hdlc.specs.declared.counts.Class.{Class}
use Rattle.hdlc.specs.declared.counts.Counts.{Counts}
use Rattle.hdlc.specs.Frames.{IsReady}
use Rattle.hdlc.specs.Gaps.{good, count_of}
use Rattle.hdlc.specs.Kept.{Kept, kept_of}
use Rattle.hdlc.specs.DeframerParts.{count_in}

-- a deframer as clauses see it: what it keeps of the bits so far, its counts, and the good contents that weren't handed out yet
pub record DeframerState : Type 0 where
  pub kept : Kept
  pub counts : Counts
  pub queue : List (List ℕ)

-- A deframer after these bits: it keeps what matters of them, has the counts of their gaps by class (each stays at 2^64 - 1), and its
-- queue is their good contents without the first `handed`.
pub record IsAfter (state : DeframerState) (bits : List Bool) (handed : ℕ) : Type 0 where
  pub kept : state.kept ≡ kept_of bits
  pub counted : (class : Class) → count_in state.counts class ≡ min (2 ^ 64 - 1) (count_of class bits)
  pub within : handed ≤ length (good bits)
  pub queued : state.queue ≡ drop handed (good bits)

-- a deframer after bits that a frame may follow, all of whose good contents were handed out
pub record IsIdle (state : DeframerState) : Type 0 where
  pub bits : List Bool
  pub ready : IsReady bits
  pub after : IsAfter state bits (length (good bits))
