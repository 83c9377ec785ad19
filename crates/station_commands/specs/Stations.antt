-- What can come of `dial` and `answer`: the words of an end, how far a line led, and which pages are sent.
use Rattle.std.specs.Prelude.{◌≡◌, ◌⊎◌, ◌<◌, ◌&&◌, ◌-◌, ◌*◌, ℕ, Bool, List, Option, Some, None, Result, Ok, Err, false, true, codes, cond, drop, length}
use Rattle.std.specs.Prelude.{max, nat_eq}
use Rattle.calls.specs.Transcripts.{end_text}
use Rattle.command_files.specs.Runs.{completeness_of}
use Rattle.command_files.specs.declared.command.Completeness.{Completeness}
use Rattle.command_files.specs.declared.command.Completeness.TheVariants.{Lacking}
use Rattle.conversations.specs.declared.conversing.ConverseFault.{ConverseFault}
use Rattle.conversations.specs.declared.conversing.ConverseFault.TheVariants.{Line, NoMemory, Reader, Writer, TooManyLines}
use Rattle.faults.specs.Faults.{IsOutside, fault_of_io}
use Rattle.faults.specs.declared.fault.ToolFault.{ToolFault}
use Rattle.faults.specs.declared.fault.ToolFault.TheVariants.{No}
use Rattle.raster.specs.Faults.{number_of}
use Rattle.raster.specs.Pages.{PagePixels}
use Rattle.raster.specs.Pbm.{AreImages, read_images}
use Rattle.raster.specs.declared.fault.RasterFault.{RasterFault}
use Rattle.station_commands.specs.CallNotes.{has_left, is_given_up}
use Rattle.station_commands.specs.declared.station.Halted.{Halted}
use Rattle.station_commands.specs.declared.station.Halted.TheVariants as halted
use Rattle.station_commands.specs.declared.station.folder.StoppedBy.{StoppedBy}
use Rattle.station_commands.specs.declared.station.given.GivenWaits.{GivenWaits}
use Rattle.station_commands.specs.declared.station.no_line.NoLine.{NoLine}
use Rattle.stations.specs.CallerFields.{AreCallable}
use Rattle.stations.specs.declared.stopping.CallEnd.{CallEnd}
use Rattle.stations.specs.declared.stopping.CallEnd.TheVariants.{By, LineLost, Stopped}
use Rattle.stations.specs.declared.turn.End.{End}
use Rattle.stations.specs.declared.turn.End.TheVariants.{Normal, PeerLeft}
use Rattle.stations.specs.declared.waiting.Wait.{Wait}
use Rattle.stations.specs.declared.waiting.Wait.TheVariants.{T1, T2, T4, T5}
use Rattle.terminals.specs.declared.watching.Refusal.{Refusal}

-- the word of why a call was stopped: it was refused, for a reason, or something else stopped it
abbrev pub stopped_word : Option Refusal → List ℕ
stopped_word None = codes "stopped"
stopped_word (Some why) = codes "refused"

-- a call ended as it should by a station's table
abbrev pub ends_normal : End → Bool
ends_normal Normal = true
ends_normal end = false

-- the word of how a call ended by a station's table: of an answerer whose last page is unconfirmed (true) the caller has left it, and didn't
-- end the call
abbrev pub table_word : End → Bool → List ℕ
table_word end unconfirmed = cond (ends_normal end && unconfirmed) (end_text (Some PeerLeft)) (end_text (Some end))

-- the word of why the line of a call is gone: the program gave it up since it never fell quiet (true), or it is lost
abbrev pub lost_word : Bool → List ℕ
lost_word true = codes "never-quiet"
lost_word false = codes "line-lost"

-- the word of why the call of a station ended, or that it goes on
abbrev pub end_word : Option CallEnd → Bool → Option Refusal → Option StoppedBy → List ℕ
end_word (Some (By end)) unconfirmed refused by = table_word end unconfirmed
end_word (Some Stopped) unconfirmed refused by = stopped_word refused
end_word (Some LineLost) unconfirmed refused by = lost_word (is_given_up by)
end_word None unconfirmed refused by = end_text None

-- seconds in milliseconds, if they are given
abbrev pub millis_of : Option ℕ → Option ℕ
millis_of None = None
millis_of (Some seconds) = Some (1000 * seconds)

-- how long a wait is to run, if that is given
abbrev pub given_wait : GivenWaits → Wait → Option ℕ
given_wait given T1 = given.t1
given_wait given T2 = given.t2
given_wait given T4 = given.t4
given_wait given T5 = given.t5

-- how many pages wait in memory at most: one that is handed over (true), else the limit, at least one
abbrev pub page_limit : Bool → ℕ → ℕ
page_limit true limit = 1
page_limit false limit = max limit 1

-- the lines went no further at a line, or by a file or by memory
abbrev pub IsHalt : Halted → Type 0
IsHalt (halted.Line number reason) = Unit {0}
IsHalt (halted.Fault fault) = IsOutside fault

-- the lines went no further since reading, writing or memory failed
abbrev pub IsFailure : Halted → Type 0
IsFailure why = (fault : ToolFault) × (why ≡ halted.Fault fault) × IsOutside fault

-- the fault of a keeper, as the lines end by it: memory (9) stays, and any other is `Io` (8)
abbrev pub as_outside : ToolFault → ToolFault
as_outside (No number) = cond (nat_eq number 9) (No 9) (No 8)
as_outside fault = No 8

-- Why the lines go no further where a conversation stops for this fault: at a line that isn't answered, or by a fault. A line for which
-- memory is refused is lost, and the call goes on, unless the rest of it can't be read then or `wait` can't be written.
abbrev pub HaltsBy : ConverseFault → Halted → Type 0
HaltsBy (Line number) why = (at : ℕ) × (reason : NoLine) × (why ≡ halted.Line at reason)
HaltsBy NoMemory why = IsFailure why
HaltsBy (Reader kind) why = why ≡ halted.Fault (No 8)
HaltsBy (Writer kind) why = why ≡ halted.Fault (fault_of_io kind)
HaltsBy TooManyLines why = why ≡ halted.Fault (No 8)

-- What a station's command gives: a fault that stopped its lines; or all was done if the call is whole and lacks its last DCN at most.
abbrev pub ended_of : Option Halted → Option CallEnd → Option StoppedBy → Bool → Result Completeness ToolFault
ended_of (Some (halted.Fault fault)) end by whole = Err fault
ended_of (Some (halted.Line number reason)) end by whole = Ok Lacking
ended_of None end by whole = Ok (completeness_of (whole && has_left end by))

-- why images have no pages from this number on: the first fault of the images, or there are fewer pages (28)
abbrev pub HasNoPagesFrom : Bool → ℕ → List ℕ → ToolFault → Type 0
HasNoPagesFrom fine from images fault = ((first : RasterFault) × (read_images fine images ≡ Err first) × (fault ≡ No (number_of first)))
    ⊎ ((pages : List PagePixels) × AreImages fine images pages × (length pages < from) × (fault ≡ No 28))

-- the pages of the images in a file from this number on; or why there are none
abbrev pub SendsFrom : Bool → ℕ → Result (List PagePixels) ToolFault → Type 0
SendsFrom fine from (Ok document) = (images : List ℕ) × (pages : List PagePixels) × AreImages fine images pages
    × (document ≡ drop (from - 1) pages)
SendsFrom fine from (Err fault) = IsOutside fault ⊎ ((images : List ℕ) × HasNoPagesFrom fine from images fault)

-- the file has no document that a call carries: no pages from this number on, or one of them has a width that no call has (26)
abbrev pub IsNoDocument : Bool → ℕ → ToolFault → Type 0
IsNoDocument fine from fault = SendsFrom fine from (Err fault)
    ⊎ ((document : List PagePixels) × SendsFrom fine from (Ok document) × ¬ AreCallable document × (fault ≡ No 26))
