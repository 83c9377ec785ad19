-- What can come of `frames`: which frames were listed, what was noted while the pages in them were written, and which were drawn.
use Rattle.std.specs.Prelude.{ℕ, ◌≡◌, ◌+◌, ◌&&◌, [], Bool, true, false, List, Option, Some, None, Result, Ok, Err, not}
use Rattle.call_pictures.specs.CapturedCalls.{AreFramesOf, IsDrawnOf}
use Rattle.call_pictures.specs.declared.captured_call.CapturedFrames.{CapturedFrames}
use Rattle.captures.specs.Captured.{captured}
use Rattle.captures.specs.Found.{FoundStep, TakesEach}
use Rattle.captures.specs.Frames.{ListsFrames}
use Rattle.captures.specs.Fronts.{FrontStep, SalvagesAll}
use Rattle.captures.specs.declared.captured.Captured.TheVariants.{Page}
use Rattle.captures.specs.declared.frames.ListOptions.{ListOptions}
use Rattle.command_files.specs.Runs.{completeness_of}
use Rattle.command_files.specs.declared.command.Completeness.{Completeness}
use Rattle.command_files.specs.declared.command.Completeness.TheVariants.{Lacking, Whole}
use Rattle.faults.specs.Faults.{IsOutside}
use Rattle.faults.specs.declared.fault.ToolFault.{ToolFault}
use Rattle.hdlc.specs.Gaps.{good}
use Rattle.line_sim.specs.declared.event.Entry.{Entry}
use Rattle.raster.specs.Packed.{bits_of}
use Rattle.raster.specs.declared.packed.Order.{Order}
use Rattle.commands.specs.declared.frames.Folder.{Folder}
use Rattle.commands.specs.declared.frames.FramesCommand.{FramesCommand}
use Rattle.commands.specs.declared.frames.two_captures.CapturesCommand.{CapturesCommand}

-- ---- the frames in a file

-- how the command lists frames
abbrev pub how_listed : FramesCommand → ListOptions
how_listed command = record { most = command.most; order = command.order; form = command.form }

-- the frames in these octets were listed
abbrev pub ListsOctets : FramesCommand → List ℕ → Type 0
ListsOctets command octets = (before after : Option (List ℕ)) × (worth : Bool)
    × ListsFrames (how_listed command) octets before after worth

-- ---- their pages

-- A folder takes what was found in a capture, and isn't empty then. A page has its PPS's own number, counted from 1. If something is
-- missing of a page, not all is whole.
abbrev pub takes_found : FoundStep Folder
takes_found old (Page mark page) new =
    (new.numbers.page ≡ mark.page + 1) × (new.is_whole ≡ old.is_whole) × (new.is_empty ≡ false)
takes_found old found new = (new.numbers ≡ old.numbers) × (new.is_whole ≡ false) × (new.is_empty ≡ false)

-- a folder takes the rows of a page before a gap: they are a page with its own number, and not all is whole
abbrev pub takes_front : FrontStep Folder
takes_front old number page new = (new.numbers.page ≡ number + 1) × (new.is_whole ≡ false) × (new.is_empty ≡ false)

-- a folder that has taken nothing yet
pub record IsNew (folder : Folder) : Type 0 where
  pub numbers : folder.numbers ≡ record { page = 0; file = 0 }
  pub empty : folder.is_empty ≡ true
  pub whole : folder.is_whole ≡ true

-- a folder was given what is in the good frames of a line; if that is asked for, also the rows of pages before their gaps
abbrev pub StoresCaptured : Bool → List (List ℕ) → Folder → Folder → Type 0
StoresCaptured false contents old new = TakesEach takes_found old (captured contents) new
StoresCaptured true contents old new = SalvagesAll takes_found takes_front contents old new

-- The frames in these octets were listed, and a new folder was given what is in them. It is complete if something was found, and nothing is
-- missing of a page.
abbrev pub StoresPagesOf : FramesCommand → List ℕ → Completeness → Type 0
StoresPagesOf command octets completeness = ListsOctets command octets × ((old new : Folder) × IsNew old
    × StoresCaptured command.salvage (good (bits_of command.order octets)) old new
    × (completeness ≡ completeness_of (new.is_whole && not new.is_empty)))

-- the frames were listed, and that is all; or, with a folder, their pages were stored too
abbrev pub ListsOrStores : {A : Type 0} → FramesCommand → Option A → List ℕ → Completeness → Type 0
ListsOrStores command None octets completeness = ListsOctets command octets × (completeness ≡ Whole)
ListsOrStores command (Some folder) octets completeness = StoresPagesOf command octets completeness

-- the frames in octets that were read were listed, and their pages stored if that is asked for; or reading, writing or memory failed
abbrev pub FramesGives : FramesCommand → Result Completeness ToolFault → Type 0
FramesGives command (Ok completeness) = (octets : List ℕ) × ListsOrStores command command.pages octets completeness
FramesGives command (Err fault) = IsOutside fault

-- ---- two captures

-- a capture was read that has these frames
abbrev pub IsCapture : Order → CapturedFrames → Type 0
IsCapture order frames = (octets : List ℕ) × AreFramesOf order octets frames

-- the frames of two captures were drawn; or neither has one that can be drawn
abbrev pub DrawsBoth : CapturedFrames → CapturedFrames → Completeness → Type 0
DrawsBoth caller answerer Whole = (entries : List Entry) × IsDrawnOf caller.known.items answerer.known.items entries
DrawsBoth caller answerer Lacking = (caller.known.items ≡ []) × (answerer.known.items ≡ [])

-- two captures were read, and their frames drawn; or reading, writing or memory failed
abbrev pub CapturesGives : CapturesCommand → Result Completeness ToolFault → Type 0
CapturesGives command (Ok completeness) = (caller answerer : CapturedFrames) × IsCapture command.order caller
    × IsCapture command.order answerer × DrawsBoth caller answerer completeness
CapturesGives command (Err fault) = IsOutside fault
