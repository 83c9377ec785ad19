-- A block that is put together from its frames: which are there, what a PPR asks for, and which last frame counts.
use Rattle.std.specs.Prelude.{ℕ, ◌≡◌, ◌⊎◌, ◌<◌, zero, suc, Bool, true, false, cond, ◌&&◌, List, length, map, nat_le, Option, Some, None, max}
use Rattle.std.specs.List.{range_with_len}
use Rattle.raster.specs.Octets.{packed}
use Rattle.signals.specs.Marks.{same_mark}
use Rattle.signals.specs.declared.mark.Mark.{Mark}
use Rattle.signals.specs.declared.mark.Pps.{Pps}
use Rattle.signals.specs.declared.params.Params.{Params}
use Rattle.partial_page.specs.Frames.{frame_size}
use Rattle.partial_page.specs.Store.{has_frame, is_marked}

-- the open frames: at each number 0 to 255 the data of its frame, if it is open
abbrev pub Frames : Type 0
Frames = List (Option (List ℕ))

-- each of the first numbers has a frame, up to a count
abbrev pub is_whole : Frames → ℕ → Bool
is_whole frames zero = true
is_whole frames (suc count) = is_whole frames count && has_frame frames count

-- the frames from 0 up to the last one are all there
unfoldable pub all_there : Frames → ℕ → Bool
all_there frames last = is_whole frames (suc last)

-- the map of a PPR: each missing frame up to the last one, and all numbers above it
unfoldable pub ppr_map : Frames → ℕ → List ℕ
ppr_map frames last = packed (map (λ n. is_marked frames last n) (range_with_len 0 256))

-- a PPS that was answered by PPR: its mark, and the last frame that counts
pub record Asked : Type 0 where
  pub mark : Mark
  pub last : ℕ

-- the last frame that counts for a PPS; if frames of the same mark were asked for, the greater of the two counts
abbrev pub last_counted : Option Asked → Mark → ℕ → ℕ
last_counted None mark last = last
last_counted (Some asked) mark last = cond (same_mark asked.mark mark) (max asked.last last) last

-- the data of a frame are at most as long as agreed
unfoldable pub within_frame_size : Params → List ℕ → Bool
within_frame_size params octets = nat_le (length octets) (frame_size params.small)

-- the data of a frame are more than 64 octets with small frames, else more than 256
abbrev pub IsTooLong : Params → List ℕ → Type 0
IsTooLong params octets = ((params.small ≡ true) × (64 < length octets)) ⊎ ((params.small ≡ false) × (256 < length octets))

-- what is remembered of a PPS that was answered by PPR: its mark and its last frame
abbrev pub asked_by : Pps → Asked
asked_by pps = record { mark = pps.mark; last = pps.last }
