-- Laws of flags, gaps and frames, which the functions of `laws` prove.
use Rattle.std.specs.Prelude.{ℕ, ◌≡◌, ◌+◌, ◌<◌, ◌≤◌, ◌↔◌, Bool, true, false, List, [], ◌∷◌, ◌++◌, length, drop, slice_get, replicate}
use Rattle.std.specs.List.{Contains}
use Rattle.raster.specs.Packed.{bits_of, FillsOctets}
use Rattle.raster.specs.declared.packed.Order.TheVariants.{LsbFirst}
use Rattle.hdlc.specs.Flags.{flag, flag_at, flags, gaps}
use Rattle.hdlc.specs.Gaps.{good}
use Rattle.hdlc.specs.DeframerState.{DeframerState, IsAfter, IsIdle}
use Rattle.hdlc.specs.Frames.{IsFrame, IsReady}

-- the flags of bits are exactly the places where there is a flag
abbrev pub FlagsStand : Type 0
FlagsStand = (bits : List Bool) (place : ℕ) → Contains (flags bits) place ↔ (flag_at bits place ≡ true)

-- after a flag all else is forgotten: the gaps after it don't depend on what came before
abbrev pub FlagForgets : Type 0
FlagForgets = (before later : List Bool) → gaps ((before ++ flag) ++ later) ≡ gaps (before ++ flag) ++ gaps (flag ++ later)

-- bits that follow leave the good contents that there are, and may add more after them
abbrev pub GoodContentsStay : Type 0
GoodContentsStay = (bits more : List Bool) → (new : List (List ℕ)) × (good (bits ++ more) ≡ good bits ++ new)

-- A frame and up to seven 0 bits to an octet, after bits that are empty or end with a flag and at most seven 0 bits, leave such bits; the
-- gaps grow by the frame's only gap, and the good contents by its content alone.
abbrev pub FrameGrows : Type 0
FrameGrows = (bits : List Bool) (content : List ℕ) (frame : List Bool) (zeros : ℕ) → IsReady bits → IsFrame content frame → zeros ≤ 7
    → IsReady (bits ++ (frame ++ replicate zeros false)) × (gaps (bits ++ (frame ++ replicate zeros false)) ≡ gaps bits ++ gaps frame)
    × (good (bits ++ (frame ++ replicate zeros false)) ≡ good bits ++ content ∷ [])

-- the octets that hold a frame, after bits that a frame may follow, leave such bits too, and add its content alone to the good contents
abbrev pub FrameOctetsGrow : Type 0
FrameOctetsGrow = (bits : List Bool) (content : List ℕ) (frame : List Bool) (octets : List ℕ) → IsReady bits
    → IsFrame content frame → FillsOctets LsbFirst frame octets
    → IsReady (bits ++ bits_of LsbFirst octets) × (good (bits ++ bits_of LsbFirst octets) ≡ good bits ++ content ∷ [])

-- a content has one frame alone
abbrev pub OneFrame : Type 0
OneFrame = (content : List ℕ) (one other : List Bool) → IsFrame content one → IsFrame content other → one ≡ other

-- a deframer's queue begins with the first good content that was not handed out
abbrev pub NextWaits : Type 0
NextWaits = (state : DeframerState) (bits : List Bool) (handed : ℕ) → IsAfter state bits handed
    → slice_get state.queue 0 ≡ slice_get (good bits) handed

-- without the first content of its queue it is the state after the same bits, with one content more handed out
abbrev pub NextStands : Type 0
NextStands = (state : DeframerState) (bits : List Bool) (handed : ℕ) → IsAfter state bits handed → handed < length (good bits)
    → IsAfter (record state { queue = drop 1 state.queue }) bits (handed + 1)

-- a deframer that has taken no bits is idle
abbrev pub NewIsIdle : Type 0
NewIsIdle = (state : DeframerState) → IsAfter state [] 0 → IsIdle state

-- An idle deframer that is fed the octets that hold a frame has the frame's content waiting and no other; once that is handed
-- out it is idle again.
abbrev pub FrameIsHeard : Type 0
FrameIsHeard = (old fed : DeframerState) (content : List ℕ) (frame : List Bool) (octets : List ℕ) → IsIdle old
    → IsFrame content frame → FillsOctets LsbFirst frame octets
    → ((bits : List Bool) (handed : ℕ) → IsAfter old bits handed → IsAfter fed (bits ++ bits_of LsbFirst octets) handed)
    → (fed.queue ≡ content ∷ []) × IsIdle (record fed { queue = drop 1 fed.queue })
