-- Which answers come too late, and which calls are whole: rows worked by hand.
use Rattle.std.specs.Prelude.{◌≡◌, ℕ, true, false, Some, None}
use Rattle.signals.specs.Signals.{mcf, rnr}
use Rattle.signals.specs.declared.mark.Mark.{Mark}
use Rattle.signals.specs.declared.mark.Pps.{Pps}
use Rattle.signals.specs.declared.signal.PageEnd.{PageEnd}
use Rattle.signals.specs.declared.signal.PageEnd.TheVariants.{Mps, Eop}
use Rattle.station_commands.specs.CallNotes.{is_whole, no_notes, noted_said, with_pps}
use Rattle.station_commands.specs.Lateness.{first_after, is_late}
use Rattle.station_commands.specs.declared.station.lateness.Met.{Met}
use Rattle.station_commands.specs.declared.station.notes.Noted.{Noted}

-- a line of this time was read at this time of the clock
abbrev pub met : ℕ → ℕ → Met
met at clock = record { at = at; clock = clock }

-- The law, for answers that may be 2,000 ms late. The line of time 0 was read at 100, so that of 5,000 is in time until 7,100. A line that comes
-- earlier for its time is what the others are held against from then on.
pub record LateByTimes : Type 0 where
  pub in_time : is_late (Some 2000) (Some (met 0 100)) (Some (met 5000 7100)) ≡ false
  pub late : is_late (Some 2000) (Some (met 0 100)) (Some (met 5000 7101)) ≡ true
  pub off : is_late None (Some (met 0 100)) (Some (met 5000 99999)) ≡ false
  pub unread : is_late (Some 2000) (Some (met 0 100)) None ≡ false
  pub none : is_late (Some 2000) None (Some (met 5000 99999)) ≡ false
  pub first : first_after None (Some (met 0 100)) ≡ Some (met 0 100)
  pub earlier : first_after (Some (met 0 100)) (Some (met 5000 5099)) ≡ Some (met 5000 5099)
  pub later : first_after (Some (met 0 100)) (Some (met 5000 5101)) ≡ Some (met 0 100)

-- the first block of the first page
abbrev pub first_block : Mark
first_block = record { page = 0; block = 0 }

-- the block after the first one
abbrev pub next_block : Mark
next_block = record { page = 0; block = 1 }

-- a PPS of the first block, of four frames, with this end
abbrev pub asked : PageEnd → Pps
asked ends = record { ends = ends; mark = first_block; last = 3 }

-- what is noted once that PPS was heard, and MCF said
abbrev pub confirmed : PageEnd → Noted
confirmed ends = noted_said (with_pps no_notes (asked ends)) mcf

-- The law: a call is whole once the PPS of its last accepted block said EOP and MCF was said, if no page number was missing. A PPS that repeats
-- a block that was confirmed changes nothing.
pub record WholeByFrames : Type 0 where
  pub whole : is_whole (confirmed Eop) (Some first_block) false ≡ true
  pub more : is_whole (confirmed Mps) (Some first_block) false ≡ false
  pub missing : is_whole (confirmed Eop) (Some first_block) true ≡ false
  pub other : is_whole (confirmed Eop) (Some next_block) false ≡ false
  pub none : is_whole (confirmed Eop) None false ≡ false
  pub unasked : is_whole (noted_said no_notes mcf) (Some first_block) false ≡ false
  pub busy : is_whole (noted_said (with_pps no_notes (asked Eop)) rnr) (Some first_block) false ≡ false
  pub repeated : with_pps (confirmed Eop) (asked Mps) ≡ confirmed Eop
