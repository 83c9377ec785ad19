-- The pages in what is sent on a line, by its signals alone (ITU-T T.30, Annex A): what anyone who hears the caller can read,
-- with no station.
use Rattle.std.specs.Prelude.{ℕ, ◌≡◌, ◌+◌, ◌-◌, ◌++◌, ◌∷◌, [], ◌%◌, ◌&&◌, Bool, true, false, cond, not, map, max, nat_eq, nat_lt, List}
use Rattle.std.specs.Prelude.{suc, zero}
use Rattle.std.specs.Bool.{beq}
use Rattle.std.specs.Prelude.{bytes_eq}
use Rattle.std.specs.Prelude.{Option, Some, None, Result, Ok, Err, slice_set}
use Rattle.std.specs.List.{filter, range_with_len}
use Rattle.raster.specs.declared.packed.Order.TheVariants.{LsbFirst}
use Rattle.raster.specs.declared.row.Color.{Color}
use Rattle.raster.specs.Packed.{bits_of}
use Rattle.run_tables.specs.declared.fault.CodeFaultKind.{CodeFaultKind}
use Rattle.page_code.specs.Codings.{read_rows}
use Rattle.partial_page.specs.Store.{no_frames, frame_of, is_missing, joined_frames}
use Rattle.signals.specs.Agreement.{pixels_of}
use Rattle.signals.specs.Reading.{read_content}
use Rattle.signals.specs.Signals.{PlainSignal, dcn, dcs, fcd, pps}
use Rattle.signals.specs.declared.fault.SignalFault.{SignalFault}
use Rattle.signals.specs.declared.params.Params.{Params}
use Rattle.signals.specs.declared.signal.PageEnd.{PageEnd}
use Rattle.signals.specs.declared.signal.PageEnd.TheVariants.{Null, Mps, Eom, Eop}
use Rattle.partial_page.specs.Assembling.{Frames, all_there}
use Rattle.signals.specs.Marks.{same_mark}
use Rattle.partial_page.specs.Assembling.{within_frame_size}
use Rattle.signals.specs.declared.mark.Mark.{Mark}
use Rattle.signals.specs.declared.mark.Pps.{Pps}
use Rattle.captures.specs.declared.captured.Captured.{Captured}
use Rattle.captures.specs.declared.captured.Captured.TheVariants.{Page, MissingPage, Unread, MissingFrame, MissingBlocks, Unfinished}
use Rattle.captures.specs.declared.captured.Captured.TheVariants.{BlockBeforeDcs, BlockAfterEnd, MissingAfter, UsedNumber}

-- ---- what must follow

-- What is missing of a call if nothing follows, by what the last PPS said (T.30, Annex A), and the number of the page that comes next: after
-- NULL a block of the same page, which has no end then; after MPS a page; after EOM a DCS and a page. Nothing must follow after EOP, or
-- before the first PPS of a call.
abbrev pub missing_after : Option PageEnd → ℕ → List Captured
missing_after None page = []
missing_after (Some Null) page = Unfinished ∷ []
missing_after (Some Mps) page = MissingAfter page Mps ∷ []
missing_after (Some Eom) page = MissingAfter page Eom ∷ []
missing_after (Some Eop) page = []

-- What a DCS leaves open, by what the last PPS said: a page that goes on. The page after MPS or EOM can still come.
abbrev pub left_by_dcs : Option PageEnd → List Captured
left_by_dcs (Some Null) = Unfinished ∷ []
left_by_dcs said = []

-- what the last PPS said, after a DCS: MPS and EOM stay, as their page must still come; after EOP the DCS begins another call
abbrev pub said_after_dcs : Option PageEnd → Option PageEnd
said_after_dcs (Some Mps) = Some Mps
said_after_dcs (Some Eom) = Some Eom
said_after_dcs said = None

-- the number of the first page after a DCS: after EOP it begins another call
abbrev pub page_after_dcs : Option PageEnd → ℕ → ℕ
page_after_dcs (Some Eop) page = 0
page_after_dcs said page = page

-- the end of a page after which a DCS must come: EOM and EOP; after another end it is the one of before, if its DCS didn't come
abbrev pub dcs_must_follow : PageEnd → Option PageEnd → Option PageEnd
dcs_must_follow Eom ended = Some Eom
dcs_must_follow Eop ended = Some Eop
dcs_must_follow ends ended = ended

-- a PPS that is sent again says another end of the page than NULL, and the page was over
abbrev pub ends_again : PageEnd → Option PageEnd → Bool
ends_again Null said = false
ends_again ends (Some Null) = false
ends_again ends said = true

-- ---- what is known while signals come

-- how pages are sent, by the last DCS; EOM or EOP, if the DCS that must come after it didn't come yet; what the last PPS of the call said;
-- the frames since the last PPS, and whether there were any; the last block, where frames of it are missing, and those that are there; the
-- last block that was whole, or that no DCS went before, and the frames that it had; of the open page its number modulo 256, the octets of its blocks, the number that
-- its next block has modulo 256, and whether a block of it is missing
pub record Capture : Type 0 where
  pub params : Option Params
  pub ended : Option PageEnd
  pub said : Option PageEnd
  pub coming : Frames
  pub begun : Bool
  pub waiting : Option Pps
  pub kept : Frames
  pub taken : Option Mark
  pub held : Frames
  pub page : ℕ
  pub octets : List ℕ
  pub next : ℕ
  pub spoiled : Bool

-- before any signal, or after a DCS that begins a call
abbrev pub empty_capture : Option Params → Capture
empty_capture params = record {
  params = params;
  ended = None;
  said = None;
  coming = no_frames;
  begun = false;
  waiting = None;
  kept = no_frames;
  taken = None;
  held = no_frames;
  page = 0;
  octets = [];
  next = 0;
  spoiled = false;
}

-- a step: what is known then, and what was found
pub record Step : Type 0 where
  pub then : Capture
  pub found : List Captured

-- nothing was found
abbrev pub finds_none : Capture → Step
finds_none s = record { then = s; found = [] }

infixl 10 ◌>>>◌
-- a step after a step
abbrev pub ◌>>>◌ : Step → (Capture → Step) → Step
a >>> f = record { then = (f a.then).then; found = a.found ++ (f a.then).found }

-- ---- a block

-- the number of the block after one of a page, or of the page after one of a call
abbrev pub next_number : ℕ → ℕ
next_number number = (number + 1) % 256

-- a page is over, and the next one begins; after EOM and EOP a DCS must come before that
abbrev pub after_page : PageEnd → Mark → Capture → Capture
after_page ends mark s = record s {
  ended = dcs_must_follow ends s.ended;
  said = Some ends;
  page = next_number mark.page;
  octets = [];
  next = 0;
  spoiled = false;
}

-- after a block that is missing, its page can't be read; after the page's last one another begins
abbrev pub after_lack : PageEnd → Mark → Capture → Capture
after_lack Null mark s = record s { said = Some Null; octets = []; next = next_number mark.block; spoiled = true }
after_lack ends mark s = after_page ends mark s

-- how pages are sent by the DCS before them; None if no DCS came, or none after EOM or EOP
abbrev pub agreed_after : Option PageEnd → Option Params → Option Params
agreed_after None params = params
agreed_after (Some ended) params = None

-- how the pages that come are sent
abbrev pub agreed : Capture → Option Params
agreed s = agreed_after s.ended s.params

-- the numbers of a block's frames that are missing
abbrev pub lacking : Frames → ℕ → List ℕ
lacking frames last = filter (is_missing frames) (range_with_len 0 (last + 1))

-- the block that waits for frames is given up: each frame that is missing is named
unfoldable pub gives_up : Capture → Option Pps → Step
gives_up s None = finds_none s
gives_up s (Some waiting) = record {
  then = after_lack waiting.ends waiting.mark (record s { waiting = None; kept = no_frames });
  found = map (λ number. MissingFrame waiting.mark number) (lacking s.kept waiting.last);
}

-- a block is the one that waits for frames
abbrev pub is_waiting : Option Pps → Mark → Bool
is_waiting None mark = false
is_waiting (Some waiting) mark = same_mark waiting.mark mark

-- another block than the one that waits gives that up
abbrev pub turns_from : Mark → Capture → Step
turns_from mark s = cond (is_waiting s.waiting mark) (finds_none s) (gives_up s s.waiting)

-- how far a page is ahead of another one by their numbers modulo 256
abbrev pub ahead : ℕ → ℕ → ℕ
ahead page from = (page + 256 - from) % 256

-- the numbers of the pages from one on to another one, without that
unfoldable pub pages_before : ℕ → ℕ → List ℕ
pages_before from page = map (λ n. (from + n) % 256) (range_with_len 0 (ahead page from))

-- What is missing before a page with another number than the next one: the pages between, also the open one if blocks of it came, as its
-- end didn't. A page that is 128 or more ahead is taken as one of another call, whose pages begin with 0: what had to follow in the call
-- before is missing.
abbrev pub missing_before : ℕ → Capture → List Captured
missing_before page s = cond (nat_lt (ahead page s.page) 128)
    (map (λ number. MissingPage number) (pages_before s.page page))
    (missing_after s.said s.page ++ map (λ number. MissingPage number) (pages_before 0 page))

-- a block of another page than the open one
abbrev pub turns_page : Mark → Capture → Step
turns_page mark s = cond (nat_eq mark.page s.page) (finds_none s) (record {
  then = record s { page = mark.page; octets = []; next = 0; spoiled = false };
  found = missing_before mark.page s;
})

-- a block was whole already, or was named since no DCS went before
abbrev pub is_taken : Option Mark → Mark → Bool
is_taken None mark = false
is_taken (Some taken) mark = same_mark taken mark

-- What had to follow has a number that was used: after NULL a block has the mark of the last one, after MPS and EOM a page has the number of
-- the last one.
abbrev pub has_used_number : Option PageEnd → Mark → Capture → Bool
has_used_number (Some Null) mark s = is_taken s.taken mark && not (nat_eq mark.block s.next)
has_used_number (Some Mps) mark s = nat_eq (next_number mark.page) s.page
has_used_number (Some Eom) mark s = nat_eq (next_number mark.page) s.page
has_used_number said mark s = false

-- what comes under a number that was used is named, and is what had to follow
abbrev pub renumbers : Option PageEnd → Mark → Capture → Step
renumbers (Some Null) mark s = record { then = record s { next = mark.block }; found = UsedNumber mark Null ∷ [] }
renumbers (Some said) mark s = record { then = record s { page = mark.page }; found = UsedNumber mark said ∷ [] }
renumbers None mark s = finds_none s

-- a block under a number that was used
abbrev pub turns_number : Mark → Capture → Step
turns_number mark s = cond (has_used_number s.said mark s) (renumbers s.said mark s) (finds_none s)

-- a block whose number isn't the next one of its page: blocks before it are missing, and the page can't be read
abbrev pub turns_to : Mark → Capture → Step
turns_to mark s = cond (nat_eq mark.block s.next) (finds_none s) (record {
  then = record s { octets = []; next = mark.block; spoiled = true };
  found = MissingBlocks mark ∷ [];
})

-- the later of two frames with one number, if there is a later one
abbrev pub later_one : Option (List ℕ) → Option (List ℕ) → Option (List ℕ)
later_one old (Some octets) = Some octets
later_one old None = old

-- frames of a block that was sent again: at each number the later one
unfoldable pub overlaid : Frames → Frames → Frames
overlaid old later = map (λ n. later_one (frame_of old n) (frame_of later n)) (range_with_len 0 256)

-- the frames since the last PPS are those of the block, with the ones that are kept of it
abbrev pub gathers : Capture → Capture
gathers s = record s { coming = no_frames; begun = false; kept = overlaid s.kept s.coming }

-- the last frame that counts of a block that was sent again: the greater of the two
abbrev pub last_of : Option Pps → ℕ → ℕ
last_of None last = last
last_of (Some waiting) last = max waiting.last last

-- ---- a page

-- what reading a page's octets finds
abbrev pub found_of : Params → Mark → Result (List (List Color) × ℕ) (ℕ × CodeFaultKind) → Captured
found_of params mark (Ok read) = Page mark (record { width = pixels_of params.width; fine = params.fine; rows = read.0 })
found_of params mark (Err fault) = Unread mark (record { place = fault.0; kind = fault.1 })

-- the page that octets are, by the DCS
unfoldable pub page_in : Params → Mark → List ℕ → Captured
page_in params mark octets = found_of params mark (read_rows params.coding (pixels_of params.width) (bits_of LsbFirst octets))

-- the open page with a whole block after it; a page of which a block is missing has no octets
abbrev pub with_block : Capture → List ℕ → List ℕ
with_block s block = cond s.spoiled [] (s.octets ++ block)

-- a block is whole: the page goes on, or is at its end and is read, unless a block of it is missing
unfoldable pub takes_block : Params → PageEnd → Mark → List ℕ → Capture → Step
takes_block params Null mark block s = finds_none (record s {
  said = Some Null;
  waiting = None;
  kept = no_frames;
  taken = Some mark;
  held = s.kept;
  octets = with_block s block;
  next = next_number mark.block;
})
takes_block params ends mark block s = record {
  then = after_page ends mark (record s { waiting = None; kept = no_frames; taken = Some mark; held = s.kept });
  found = cond s.spoiled [] (page_in params mark (with_block s block) ∷ []);
}

-- a block is whole, or waits for the frames that are missing
unfoldable pub judges : Params → PageEnd → Mark → ℕ → Capture → Step
judges params ends mark last s =
    cond (all_there s.kept last)
    (takes_block params ends mark (joined_frames s.kept (last + 1)) s)
    (finds_none (record s { waiting = Some (record { mark = mark; ends = ends; last = last }) }))

-- why a block that comes can't be read: no DCS came at all, or none after the end of a page by EOM or EOP
abbrev pub no_dcs : Option PageEnd → Mark → Captured
no_dcs None mark = BlockBeforeDcs mark
no_dcs (Some ends) mark = BlockAfterEnd mark ends

-- a block that no DCS went before is named, and isn't kept; no DCS from before it counts from now on
abbrev pub refuses : PageEnd → Mark → Capture → Step
refuses ends mark s = record {
  then = record (after_lack ends mark (record s { waiting = None; kept = no_frames })) {
    params = None;
    coming = no_frames;
    begun = false;
    taken = Some mark;
    held = no_frames;
  };
  found = no_dcs s.ended mark ∷ [];
}

-- a block is judged by the last DCS, if one went before
abbrev pub judges_by : Option Params → PageEnd → Mark → ℕ → Capture → Step
judges_by None ends mark last s = refuses ends mark s
judges_by (Some params) ends mark last s = judges params ends mark last (gathers s)

-- ---- signals

-- frames that no PPS ends are a page without an end; without such frames something else is left
abbrev pub unless_begun : Bool → List Captured → List Captured
unless_begun begun left = cond begun (Unfinished ∷ []) left

-- what is missing if nothing follows: the end of the frames that came last, or what the last PPS said
unfoldable pub left_open : Capture → List Captured
left_open s = unless_begun s.begun (missing_after s.said s.page)

-- what there is at the end of a call: the frames that are missing, and what had to follow
unfoldable pub at_end : Capture → List Captured
at_end s = (gives_up s s.waiting).found ++ left_open (gives_up s s.waiting).then

-- what there is at a DCS: the frames that are missing, and whether a page has no end
unfoldable pub at_dcs : Capture → List Captured
at_dcs s = (gives_up s s.waiting).found
    ++ unless_begun (gives_up s s.waiting).then.begun (left_by_dcs (gives_up s s.waiting).then.said)

-- the block that was taken last, after a DCS: none if the DCS begins another call
abbrev pub taken_after_dcs : Option PageEnd → Option Mark → Option Mark
taken_after_dcs None taken = None
taken_after_dcs (Some said) taken = taken

-- its frames, after a DCS: those of another size can't be sent again
abbrev pub held_after_dcs : Option Params → Params → Frames → Frames
held_after_dcs None params held = no_frames
held_after_dcs (Some before) params held = cond (beq before.small params.small) held no_frames

-- after a DCS
abbrev pub after_dcs : Params → Capture → Capture
after_dcs params s = record (empty_capture (Some params)) {
  said = said_after_dcs s.said;
  taken = taken_after_dcs (said_after_dcs s.said) s.taken;
  held = held_after_dcs s.params params s.held;
  page = page_after_dcs s.said s.page;
}

-- a DCS: what is open is left, and pages are sent so from now on
abbrev pub hears_dcs : Params → Capture → Step
hears_dcs params s = record { then = after_dcs params (gives_up s s.waiting).then; found = at_dcs s }

-- an FCD: data that aren't longer than agreed are kept under their number. Without a DCS before it, or after EOM or EOP, a block has begun
-- by any data.
abbrev pub hears_fcd : Option PageEnd → Option Params → ℕ → List ℕ → Capture → Step
hears_fcd ended None number octets s = finds_none (record s { begun = true })
hears_fcd None (Some params) number octets s = finds_none (cond (within_frame_size params octets)
    (record s { coming = slice_set s.coming number (Some octets); begun = true }) s)
hears_fcd (Some ended) (Some params) number octets s = finds_none (cond (within_frame_size params octets)
    (record s { coming = slice_set s.coming number (Some octets); begun = true }) (record s { begun = true }))

-- a PPS of a block that isn't whole yet
unfoldable pub hears_block : PageEnd → Mark → ℕ → Capture → Step
hears_block ends mark last s = turns_from mark s >>> turns_number mark >>> turns_page mark >>> turns_to mark
    >>> λ s. judges_by (agreed s) ends mark (last_of s.waiting last) s

-- a PPS that is sent again after its block was whole: of two ends of the page the one that is said last counts, and nothing else changes
abbrev pub hears_again : PageEnd → Capture → Capture
hears_again ends s = cond (ends_again ends s.said)
    (record s { ended = dcs_must_follow ends None; said = Some ends; coming = no_frames; begun = false })
    (record s { coming = no_frames; begun = false })

-- a frame that comes is the one that the block has, if one comes
abbrev pub is_same_frame : Option (List ℕ) → Option (List ℕ) → Bool
is_same_frame had None = true
is_same_frame None (Some octets) = false
is_same_frame (Some had) (Some octets) = bytes_eq had octets

-- at each number below a count a frame that comes is the one that the block has
abbrev pub are_same_below : Frames → Frames → ℕ → Bool
are_same_below had coming zero = true
are_same_below had coming (suc count) = is_same_frame (frame_of had count) (frame_of coming count) && are_same_below had coming count

-- frames are a resend: all of them, or some, or none, of those that the block has
unfoldable pub is_resend : Frames → Frames → Bool
is_resend had coming = are_same_below had coming 256

-- a PPS is sent again: its block was taken last and waits for no frames, and no other frames came since
unfoldable pub is_again : Mark → Capture → Bool
is_again mark s = is_taken s.taken mark && (not (is_waiting s.waiting mark) && is_resend s.held s.coming)

-- a PPS: its block is the frames since the PPS before, unless it is sent again
abbrev pub hears_pps : PageEnd → Mark → ℕ → Capture → Step
hears_pps ends mark last s = cond (is_again mark s) (finds_none (hears_again ends s)) (hears_block ends mark last s)

-- a signal. After a DCN, as before any signal, nothing is known. Those of no page change nothing
unfoldable pub hears : PlainSignal → Capture → Step
hears (dcs params) s = hears_dcs params s
hears (fcd number octets) s = hears_fcd s.ended s.params number octets s
hears (pps ends page block last) s = hears_pps ends (record { page = page; block = block }) last s
hears dcn s = record { then = empty_capture None; found = at_end s }
hears _ s = finds_none s

-- a content; one that says no signal changes nothing
abbrev pub hears_read : Result PlainSignal SignalFault → Capture → Step
hears_read (Ok signal) s = hears signal s
hears_read (Err fault) s = finds_none s

-- ---- a line

-- contents, one after the other
unfoldable pub hears_all : List (List ℕ) → Capture → Step
hears_all [] s = finds_none s
hears_all (content ∷ contents) s = hears_read (read_content content) s >>> hears_all contents

-- The pages that contents carry, in their order, and between them what is missing of others (T.30, Annex A). A DCS says how pages are
-- sent, and what is open before it is left; a block before any DCS, or after a page's end by EOM or EOP and before the next DCS, is only
-- named. The data of FCDs, if they aren't longer than agreed, are kept under their numbers until a PPS: they are its block, together with
-- the frames that are kept of the same block from before. For one number the later data count, and the greatest last frame counts. A whole
-- block is joined to its page once: of the same PPS again only the end of the page counts, if no other frames than the block's came since. If
-- others came, they are what had to follow, under a number that was used, and that is named. A PPS with another end than NULL ends the page,
-- which is read by its DCS, or named with its fault. If another block, a DCS, a DCN or the end comes before a block is whole, each missing
-- frame is named; a block that isn't the next one of its page is named; a page with a missing block isn't read. A call's first page has the
-- number 0: at the beginning, after a DCN, and with a DCS after EOP. Each other page has the next number, 0 after 255; where a PPS has a
-- later one, each page between is named, and so are the first pages of a call whose beginning isn't there. What no PPS ends is named at a
-- DCS, a DCN and the end. What must follow by the last PPS and doesn't come is named at a DCN, at the end and at a page of another call:
-- after NULL the page has no end, after MPS and EOM a page is missing. Other signals, and contents that are none, change nothing.
unfoldable pub captured : List (List ℕ) → List Captured
captured contents =
    let heard = hears_all contents (empty_capture None) in
    heard.found ++ at_end heard.then

-- the state after a step, and what was found so far with what the step finds after it
pub record Takes (step : Step) (new : Capture) (before after : List Captured) : Type 0 where
  pub is : new ≡ step.then
  pub found : after ≡ before ++ step.found
