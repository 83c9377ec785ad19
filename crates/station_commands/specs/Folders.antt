-- What is noted while the pages of a call are written into a folder.
use Rattle.std.specs.Prelude.{◌≡◌, ◌≤◌, ◌&&◌, ◌||◌, ◌+◌, ◌-◌, ◌^◌, ℕ, Bool, false, true, Option, Some, None, is_some, length, min}
use Rattle.std.specs.Prelude.{◌<◌, ◌++◌, ◌∷◌, [], List, codes, nat_le, nat_lt, option_map, string_bytes, if◌then◌else◌}
use Rattle.captures.specs.PageNumbers.{after}
use Rattle.command_files.specs.Bounds.{image_octets}
use Rattle.conversations.specs.Answering.{StoresAll}
use Rattle.conversations.specs.Conversations.{ConversationFields}
use Rattle.conversations.specs.Holding.{HoldsPages}
use Rattle.conversations.specs.Refusing.{gap_in}
use Rattle.conversations.specs.Stores.{IsHolder, IsStore, Stock}
use Rattle.conversations.specs.Stores.Stock.{at_least}
use Rattle.conversations.specs.declared.line.Fate.TheVariants.{Kept, Lost}
use Rattle.conversations.specs.declared.line.Said.{Said}
use Rattle.conversations.specs.declared.line.Said.TheVariants.{Quiet, Busy, Received, NotReady, Ready, Missed, Told, Stop, End}
use Rattle.faults.specs.Faults.{IsOutside}
use Rattle.faults.specs.declared.fault.ToolFault.{ToolFault}
use Rattle.faults.specs.declared.fault.ToolFault.TheVariants.{No}
use Rattle.station_commands.specs.CallNotes.{file_name}
use Rattle.station_commands.specs.declared.station.given.GivenLimits.{GivenLimits}
use Rattle.station_commands.specs.declared.station.folder.CallLimits.{CallLimits}
use Rattle.station_commands.specs.declared.station.folder.Folder.{Folder}
use Rattle.station_commands.specs.declared.station.folder.HeldPage.{HeldPage}
use Rattle.station_commands.specs.declared.station.folder.NoRoom.{NoRoom}
use Rattle.station_commands.specs.declared.station.folder.NoRoom.TheVariants.{Full, Faulty}
use Rattle.station_commands.specs.declared.station.folder.StoppedBy.{StoppedBy}
use Rattle.station_commands.specs.declared.station.folder.StoppedBy.TheVariants.{Pages, Octets, Seconds, NeverQuiet, LostPage}
use Rattle.station_commands.specs.declared.station.folder.Tally.{Tally}
use Rattle.raster.specs.Pages.{PagePixels}
use Rattle.signals.specs.declared.params.Params.{Params}
use Rattle.stations.specs.Limiting.{LimitedFields}
use Rattle.stations.specs.Listening.{answerer_peer}
use Rattle.stations.specs.Stopping.{call_end}
use Rattle.stations.specs.declared.stopping.CallEnd.{CallEnd}

-- a limit, or 2^64 - 1 if none is given
abbrev pub most_of : Option ℕ → ℕ
most_of None = 2 ^ 64 - 1
most_of (Some most) = most

-- what a call may have at most
abbrev pub limits_of : GivenLimits → CallLimits
limits_of given = record { pages = most_of given.pages; octets = most_of given.octets }

-- the limit that a page of so many octets would exceed, of a call of which so much is stored; none if there is room for it
abbrev pub limit_met : CallLimits → Tally → ℕ → Option StoppedBy
limit_met limits tally more = if nat_le limits.pages tally.pages then Some Pages
    else if nat_lt limits.octets (tally.octets + more) then Some Octets else None

-- a call was stopped in place of a page for which there is no room
abbrev pub is_full : Option StoppedBy → Bool
is_full (Some Pages) = true
is_full (Some Octets) = true
is_full (Some Seconds) = false
is_full (Some NeverQuiet) = false
is_full (Some LostPage) = false
is_full None = false

-- so many octets are those of the file of a page that has rows, and with it neither they nor the pages are more than a call may have
pub record HasRoom (limits : CallLimits) (tally : Tally) (page : PagePixels) (octets : ℕ) : Type 0 where
  pub rows : 0 < length page.rows
  pub octets_are : octets ≡ image_octets page
  pub pages_fit : tally.pages + 1 ≤ limits.pages
  pub octets_fit : tally.octets + image_octets page ≤ limits.octets

-- A page is stored, for which there is room: it counts, with its octets. Its file has the number from which a free one was looked for or a
-- later one, and the next page's file a number after it. So of the names that were taken none is tried twice.
pub record StoresPage (limits : CallLimits) (old : Tally) (page : PagePixels) (new : Tally) : Type 0 where
  pub pages : new.pages ≡ old.pages + 1
  pub octets : new.octets ≡ old.octets + image_octets page
  pub pages_fit : new.pages ≤ limits.pages
  pub octets_fit : new.octets ≤ limits.octets
  pub file : ℕ
  pub later : old.next ≤ file
  pub next : new.next ≡ after file

-- why there is no room for a page: a limit of the call, or a fault of files or memory; of a page with no row it is `Io`
abbrev pub IsNoRoom : CallLimits → Tally → PagePixels → NoRoom → Type 0
IsNoRoom limits tally page (Full limit) = limit_met limits tally (image_octets page) ≡ Some limit
IsNoRoom limits tally page (Faulty fault) = IsOutside fault

-- why a page for which there is no room is refused
abbrev pub fault_of : NoRoom → ToolFault
fault_of (Full limit) = No 8
fault_of (Faulty fault) = fault

-- why the call is stopped, if it is, after a page for which there is no room
abbrev pub stopped_for : NoRoom → Option StoppedBy → Option StoppedBy
stopped_for (Full limit) before = Some limit
stopped_for (Faulty fault) before = before

-- the line that hands a page over, by the number of its file
abbrev pub page_line : ℕ → List ℕ
page_line file = codes "page " ++ (file_name file ++ 10 ∷ [])

-- the page in the file of this number is held, which has so many octets
abbrev pub IsHeld : Option HeldPage → ℕ → ℕ → Type 0
IsHeld None file octets = ⊥
IsHeld (Some held) file octets = (held.number ≡ file) × (held.octets ≡ octets) × (string_bytes held.name ≡ file_name file)

-- the name of the file of the page that is held, if one is
abbrev pub held_name : Option HeldPage → Option (List ℕ)
held_name held = option_map (λ (page : HeldPage). string_bytes page.name) held

-- A page is handed over, for which there is room: it is in a file, whose name is said, and is held; it doesn't count yet.
pub record HandsPage (limits : CallLimits) (old : Tally) (page : PagePixels) (new : Tally) (held : Option HeldPage) (told : List ℕ) :
    Type 0 where
  pub pages : new.pages ≡ old.pages
  pub octets : new.octets ≡ old.octets
  pub pages_fit : old.pages + 1 ≤ limits.pages
  pub octets_fit : old.octets + image_octets page ≤ limits.octets
  pub file : ℕ
  pub later : old.next ≤ file
  pub next : new.next ≡ after file
  pub is_held : IsHeld held file (image_octets page)
  pub says : told ≡ page_line file

-- the page that was held counts as stored, if one was; no number exceeds 2^64 - 1
abbrev pub CountsHeld : Option HeldPage → Tally → Tally → Type 0
CountsHeld None old new = new ≡ old
CountsHeld (Some held) old new = new ≡ record old {
  pages = min (old.pages + 1) (2 ^ 64 - 1);
  octets = min (old.octets + held.octets) (2 ^ 64 - 1);
}

-- a folder stores a page, and nothing else of it changes
abbrev pub FolderStores : Folder → PagePixels → Folder → Type 0
FolderStores old page new = StoresPage old.limits old.tally page new.tally × (new ≡ record old { tally = new.tally })

-- a folder hands a page over, and says its name
abbrev pub FolderHands : Folder → PagePixels → Folder → Type 0
FolderHands old page new = HandsPage old.limits old.tally page new.tally new.held (string_bytes new.told)
    × (new ≡ record old { tally = new.tally; held = new.held; told = new.told })

-- a page that a folder holds counts as stored
abbrev pub FolderCounts : Folder → Folder → Type 0
FolderCounts old new = CountsHeld old.held old.tally new.tally × (new ≡ record old { tally = new.tally; held = None })

-- a folder refuses a page: nothing counts, and if that is by a limit, the call is stopped for it
pub record FolderRefuses (old : Folder) (page : PagePixels) (new : Folder) : Type 0 where
  pub why : NoRoom
  pub is_why : IsNoRoom old.limits old.tally page why
  pub tally : new.tally ≡ old.tally
  pub limits : new.limits ≡ old.limits
  pub stopped : new.stopped ≡ stopped_for why old.stopped
  pub rest : new ≡ record old { stopped = new.stopped; failed = new.failed }

-- what is known of the pages in a folder: there are as many as it counts, or more
abbrev pub stock_of : Folder → Stock
stock_of folder = at_least folder.tally.pages

-- The law: whether a folder stores pages itself or hands them over, it has as many as it counts.
pub record FolderIsStore : Type 0 where
  pub stores : IsStore Folder FolderStores FolderRefuses stock_of
  pub holds : IsHolder Folder FolderHands FolderRefuses (λ old page new. FolderCounts old new) stock_of

-- the answerer's pages are handed over (true) or stored, after a line that says this; all were
abbrev pub KeepsPages : Bool → Said → ConversationFields LimitedFields → ConversationFields LimitedFields → Folder → Folder → Bool → Type 0
KeepsPages true said old new before after all =
    HoldsPages FolderHands FolderRefuses (λ first page last. FolderCounts first last) (held_name before.held) said old new before after all
KeepsPages false said old new before after all = StoresAll FolderStores FolderRefuses old new before after all

-- whether a gap in the numbers of pages was told, once there is one or none
abbrev pub gap_told : Bool → Option ℕ → Bool
gap_told told gap = told || is_some gap

-- a folder begins with a line of this time, whose caller sends so, after this gap in the numbers of pages: it says nothing of the line
-- before it
abbrev pub BeginsLine : ℕ → Option Params → Option ℕ → Folder → Folder → Type 0
BeginsLine at params gap old new = (new ≡ record old { at = at; params = params; told = new.told; has_gap = gap_told old.has_gap gap })
    × (string_bytes new.told ≡ [])

-- the last DCS that the answerer of a conversation allowed, if there was one
abbrev pub params_of : ConversationFields LimitedFields → Option Params
params_of c = let answerer = c.terminal.speaking.station.station in answerer_peer answerer.state answerer.accepted answerer.params

-- why the call of a conversation's answerer ended, if it has
abbrev pub end_of : ConversationFields LimitedFields → Option CallEnd
end_of c = call_end c.terminal.speaking.station.station.ending c.terminal.speaking.station.cut

-- why a call whose time is over ends: it is given up since its line never fell quiet (true), or stopped
abbrev pub late_by : Bool → StoppedBy
late_by true = NeverQuiet
late_by false = Seconds

-- why a call ends whose time is over, if that is so (first Bool), and that is given up, if it is (second)
abbrev pub late_stop : Bool → Bool → Option StoppedBy
late_stop true given_up = Some (late_by given_up)
late_stop false given_up = None

-- Why a call is stopped, if it is, after a line that says this: as it was if the call has all that it may have (Bool); since its time is
-- over, if it is; since a page is lost; or as it was.
abbrev pub stopped_after : Bool → Option StoppedBy → Said → Option StoppedBy → Option StoppedBy
stopped_after true late said before = before
stopped_after false (Some by) said before = Some by
stopped_after false None (Told Lost file) before = Some LostPage
stopped_after false None (Told Kept file) before = before
stopped_after false None Quiet before = before
stopped_after false None Busy before = before
stopped_after false None (Received channel kind bits octets) before = before
stopped_after false None NotReady before = before
stopped_after false None Ready before = before
stopped_after false None Missed before = before
stopped_after false None Stop before = before
stopped_after false None End before = before

-- What a folder keeps after a line: the pages of the answerer are kept, or one is refused, after which it hangs up. If that one is refused
-- since the call has all that it may have, all is well; and if none is refused, it notes that the call has lasted as long as it may.
pub record KeepsLine (said : Said) (old : Folder) (c : ConversationFields LimitedFields) (new : Folder)
    (after : ConversationFields LimitedFields) (kept : Bool) : Type 0 where
  pub first : Folder
  pub begins : BeginsLine c.clock.now (params_of c) (gap_in c.watch) old first
  pub last : Folder
  pub mid : ConversationFields LimitedFields
  pub all : Bool
  pub keeps : KeepsPages first.holds said c mid first last all
  pub kept_is : kept ≡ (is_full last.stopped || all)
  pub stops :
      new ≡ record last {
        stopped = stopped_after (is_full last.stopped) (late_stop (all && mid.watch.late) mid.watch.given_up) said last.stopped;
      }
  pub same : after ≡ mid
