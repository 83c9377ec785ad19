-- What is noted of a station's call while it runs, whether the call is whole, and what is told of it as JSON for programs.
use Rattle.std.specs.Prelude.{◌≡◌, ◌≢◌, ◌⊎◌, ◌&&◌, ◌++◌, ◌+◌, ◌-◌, ℕ, Bool, true, false, List, [], ◌∷◌, Option, Some, None, Result, Ok, Err}
use Rattle.std.specs.Prelude.{codes, cond, drop, length, nat_eq, not, take, if◌then◌else◌}
use Rattle.std.specs.Fmt.{decimal}
use Rattle.captures.specs.Missing.{lines_word}
use Rattle.captures.specs.Names.{code_name}
use Rattle.captures.specs.Records.{other_record}
use Rattle.captures.specs.Texts.{content_text}
use Rattle.conversations.specs.Lines.{channel_name}
use Rattle.conversations.specs.declared.carrier.Channel.TheVariants.{Message}
use Rattle.terminals.specs.Figures.{figures_heard, no_figures, said_as}
use Rattle.terminals.specs.declared.figures.Figures.{Figures}
use Rattle.terminals.specs.declared.watching.Refusal.{Refusal}
use Rattle.terminals.specs.declared.watching.Refusal.TheVariants.{NoErrorCorrection as RefusedPlain, NotOffered, UsedNumber}
use Rattle.faults.specs.RecordLines.{count, words}
use Rattle.faults.specs.Explanations.{reason_words as system_words}
use Rattle.std.specs.declared.io.ErrorKind.{ErrorKind}
use Rattle.station_commands.specs.declared.station.folder.StoppedBy.{StoppedBy}
use Rattle.station_commands.specs.declared.station.folder.StoppedBy.TheVariants.{Pages, Octets, Seconds, NeverQuiet, LostPage}
use Rattle.station_commands.specs.declared.station.notes.Noted.{Noted}
use Rattle.station_commands.specs.declared.station.trace.FrameRun.{FrameRun}
use Rattle.raster.specs.Pages.{PagePixels}
use Rattle.serde_json.specs.Data.{Data, boolean, member, no_members, object}
use Rattle.signals.specs.Agreement.{agreed}
use Rattle.signals.specs.Marks.{same_mark}
use Rattle.signals.specs.Reasons.{IsFirstReason}
use Rattle.signals.specs.Signals.{PlainSignal, dis, fcd, mcf, pps}
use Rattle.signals.specs.declared.fault.SignalFault.{SignalFault}
use Rattle.signals.specs.declared.mark.Mark.{Mark}
use Rattle.signals.specs.declared.mark.Pps.{Pps}
use Rattle.signals.specs.declared.params.Caps.{Caps}
use Rattle.signals.specs.declared.params.PageWidth.TheVariants.{W1728}
use Rattle.signals.specs.declared.params.Params.{Params}
use Rattle.signals.specs.declared.params.Wish.{Wish}
use Rattle.signals.specs.declared.reason.Reason.{Reason}
use Rattle.signals.specs.declared.reason.Reason.TheVariants.{NoReceiver, NoErrorCorrection, TooWide, NoFineLines, NoCommonSpeed}
use Rattle.signals.specs.declared.signal.PageEnd.{PageEnd}
use Rattle.signals.specs.declared.signal.PageEnd.TheVariants.{Null, Mps, Eom, Eop}
use Rattle.stations.specs.declared.stopping.CallEnd.{CallEnd}
use Rattle.stations.specs.declared.stopping.CallEnd.TheVariants.{By, LineLost, Stopped}
use Rattle.stations.specs.declared.turn.End.TheVariants.{NoAnswer, Normal, NotCompatible}

-- ---- what is noted

-- the block of a PPS has this mark
abbrev pub is_of_mark : Option Pps → Mark → Bool
is_of_mark None mark = false
is_of_mark (Some heard) mark = same_mark heard.mark mark

-- nothing was heard or said
abbrev pub no_notes : Noted
no_notes = record { pps = None; caps = None; confirms = false; figures = no_figures }

-- What is noted of a PPS: a block that was confirmed has the end that its PPS said then, as a PPS that repeats it may say another one.
abbrev pub with_pps : Noted → Pps → Noted
with_pps old heard = if old.confirms && is_of_mark old.pps heard.mark then old else record old { pps = Some heard }

-- what is noted, beside the figures, once a content was heard: of a PPS what it says, of a DIS what it offers
abbrev pub known_heard : Noted → Result PlainSignal SignalFault → Noted
known_heard old (Ok (pps ends page block last)) = with_pps old
    (record { ends = ends; mark = record { page = page; block = block }; last = last })
known_heard old (Ok (dis caps)) = record old { caps = Some caps }
known_heard old (Ok signal) = old
known_heard old (Err fault) = old

-- the same with the figures
abbrev pub noted_heard : Noted → List ℕ → Result PlainSignal SignalFault → Noted
noted_heard old content said = record (known_heard old said) { figures = figures_heard old.figures content said }

-- a signal is MCF
abbrev pub is_confirmation : PlainSignal → Bool
is_confirmation mcf = true
is_confirmation signal = false

-- what is noted once a signal was said
abbrev pub noted_said : Noted → PlainSignal → Noted
noted_said old signal = record old { confirms = is_confirmation signal; figures = said_as old.figures signal }

-- ---- the trace

-- the word of what is said or heard
abbrev pub said_word : Bool → List ℕ
said_word true = codes "said"
said_word false = codes "heard"

-- the frame of a block that a content is
abbrev pub frame_read : Result PlainSignal SignalFault → Option FrameRun
frame_read (Ok (fcd number octets)) = Some (record { first = number; last = number; octets = length octets })
frame_read (Ok signal) = None
frame_read (Err fault) = None

-- frames that follow each other, with one more if it is the next
abbrev pub joined_run : Option FrameRun → Option FrameRun → Option FrameRun
joined_run (Some run) (Some frame) =
    cond (nat_eq (run.last + 1) frame.first) (Some (record { first = run.first; last = frame.last; octets = frame.octets })) None
joined_run (Some run) None = None
joined_run None frame = None

-- the frames that have no line yet after a content: those before it and its own, if it goes on, or else its own, if it is one
abbrev pub run_with : Option FrameRun → Option FrameRun → Option FrameRun
run_with (Some more) frame = Some more
run_with None frame = frame

-- what a line says of frames that follow each other: of one its number and its octets of data, of several the first and the last number
abbrev pub run_text : FrameRun → List ℕ
run_text run = cond (nat_eq run.first run.last) (decimal run.first ++ (codes " " ++ decimal run.octets))
    (decimal run.first ++ (codes ".." ++ decimal run.last))

-- the line of frames that follow each other, if there are some: the time, whether they are said or heard, and their numbers
abbrev pub run_line : ℕ → Bool → Option FrameRun → List ℕ
run_line at said None = []
run_line at said (Some run) = decimal at ++ (codes " " ++ (said_word said ++ (codes " FCD " ++ (run_text run ++ 10 ∷ []))))

-- ---- whether a call is whole

-- a block with this end is the last one of the document
abbrev pub ends_all : PageEnd → Bool
ends_all Null = false
ends_all Mps = false
ends_all Eom = false
ends_all Eop = true

-- the last PPS that was heard is that of the last accepted block, and ended the document
abbrev pub ends_document : Option Pps → Option Mark → Bool
ends_document None accepted = false
ends_document (Some last) None = false
ends_document (Some last) (Some accepted) = ends_all last.ends && same_mark last.mark accepted

-- The call of an answerer whose last accepted block has this mark is whole: that block ended the document, and was answered by MCF, and
-- there was no gap in the numbers of pages (Bool).
abbrev pub is_whole : Noted → Option Mark → Bool → Bool
is_whole noted accepted gap = (noted.confirms && ends_document noted.pps accepted) && not gap

-- the program gave the call up in silence, since its line never fell quiet
abbrev pub is_given_up : Option StoppedBy → Bool
is_given_up None = false
is_given_up (Some Pages) = false
is_given_up (Some Octets) = false
is_given_up (Some Seconds) = false
is_given_up (Some NeverQuiet) = true
is_given_up (Some LostPage) = false

-- The end of a call of which all was confirmed lacks its last DCN at most: the caller left, wasn't heard any more, or the line dropped.
abbrev pub has_left : Option CallEnd → Option StoppedBy → Bool
has_left None by = false
has_left (Some Stopped) by = false
has_left (Some LineLost) by = not (is_given_up by)
has_left (Some (By Normal)) by = true
has_left (Some (By NoAnswer)) by = true
has_left (Some (By end)) by = false

-- ---- why

-- why a call is refused, in words
abbrev pub refusal_words : Refusal → List ℕ
refusal_words RefusedPlain = codes "the caller sends without error correction"
refusal_words NotOffered = codes "the caller sends at a speed or pages that the answerer doesn't offer"
refusal_words UsedNumber = codes "a page came under the number of the last one"

-- what an answerer lacks, in words
abbrev pub reason_words : Reason → List ℕ
reason_words NoReceiver = codes "the answerer doesn't receive"
reason_words NoErrorCorrection = codes "the answerer has no error correction"
reason_words TooWide = codes "the page is wider than the answerer takes"
reason_words NoFineLines = codes "the answerer takes no fine lines"
reason_words NoCommonSpeed = codes "the stations have no common speed"

-- What an answerer lacks, by its last DIS, that isn't compatible with a caller: the first reason that holds of the narrowest pages, and the
-- width where there is none.
abbrev pub IsLack : Caps → Wish → Bool → Reason → Type 0
IsLack caps wish fine reason = IsFirstReason caps wish W1728 fine reason
    ⊎ ((agreed caps wish W1728 fine ≢ Err (record {})) × (reason ≡ TooWide))

-- what is missing, if a DIS was heard
abbrev pub IsMissing : Option Caps → Wish → Bool → Option Reason → Type 0
IsMissing None wish fine missing = missing ≡ None
IsMissing (Some caps) wish fine missing = (reason : Reason) × (missing ≡ Some reason) × IsLack caps wish fine reason

-- why an answerer's program stopped its call, in words
abbrev pub stopped_words : StoppedBy → List ℕ
stopped_words Pages = codes "a further page is dropped, and the call stopped: --most-pages"
stopped_words Octets = codes "a further page is dropped, and the call stopped: --most-octets"
stopped_words Seconds = codes "the call is stopped: --most-seconds"
stopped_words NeverQuiet = codes "the call is given up, as its line never fell quiet: --most-seconds"
stopped_words LostPage = codes "the call is stopped: a page that was handed over is lost"

-- why a call whose line is lost was given up, if it was
abbrev pub lost_why : Option StoppedBy → Option (List ℕ)
lost_why by = cond (is_given_up by) (Some (stopped_words NeverQuiet)) None

-- why a call that was stopped is refused, or else why the program stopped it
abbrev pub stopped_why : Option Refusal → Option StoppedBy → Option (List ℕ)
stopped_why (Some why) by = Some (refusal_words why)
stopped_why None None = None
stopped_why None (Some by) = Some (stopped_words by)

-- what is missing, of stations that aren't compatible
abbrev pub missing_why : Option Reason → Option (List ℕ)
missing_why None = None
missing_why (Some reason) = Some (reason_words reason)

-- why the caller of an answerer left after its last page, if that wasn't confirmed (true)
abbrev pub left_why : Bool → Option (List ℕ)
left_why true = Some (codes "the caller left before its last page was confirmed")
left_why false = None

-- Why a call ended so, in words, where more is known than its end. The last page of an answerer may be unconfirmed (Bool).
abbrev pub end_why : Option CallEnd → Bool → Option Refusal → Option StoppedBy → Option Reason → Option (List ℕ)
end_why (Some Stopped) unconfirmed refused by missing = stopped_why refused by
end_why (Some LineLost) unconfirmed refused by missing = lost_why by
end_why (Some (By NotCompatible)) unconfirmed refused by missing = missing_why missing
end_why (Some (By Normal)) unconfirmed refused by missing = left_why unconfirmed
end_why end unconfirmed refused by missing = None

-- why, or why a page's file couldn't be written
abbrev pub why_words : Option ErrorKind → Option (List ℕ) → Option (List ℕ)
why_words None why = why
why_words (Some kind) why = Some (system_words (Some kind))

-- ---- the records

-- a page's file
abbrev pub file_name : ℕ → List ℕ
file_name file = codes "page-" ++ (decimal file ++ codes ".pbm")

-- The record of a page that is in a file, at a time in milliseconds: `file` its name, `height` in rows, `lines`, `page` its number from 1,
-- `width` in pixels, and `code` and `speed` by the last DCS that was allowed.
abbrev pub page_record : ℕ → ℕ → ℕ → Option Params → PagePixels → Data
page_record at number file None page = object (member (codes "at") (count at)
    (member (codes "file") (words (file_name file))
    (member (codes "height") (count (length page.rows))
    (member (codes "lines") (words (lines_word page.fine))
    (member (codes "page") (count number)
    (member (codes "width") (count page.width) no_members))))))
page_record at number file (Some params) page = object (member (codes "at") (count at)
    (member (codes "code") (words (code_name params.coding))
    (member (codes "file") (words (file_name file))
    (member (codes "height") (count (length page.rows))
    (member (codes "lines") (words (lines_word page.fine))
    (member (codes "page") (count number)
    (member (codes "speed") (words (channel_name (Message params.speed)))
    (member (codes "width") (count page.width) no_members))))))))

-- how a page was sent, in words
abbrev pub sent_words : Option Params → List ℕ
sent_words None = []
sent_words (Some params) = codes ", " ++ (code_name params.coding ++ (codes ", " ++ channel_name (Message params.speed)))

-- the same in words, as a line
abbrev pub page_words : ℕ → ℕ → ℕ → Option Params → PagePixels → List ℕ
page_words at number file params page = decimal at ++ (codes " page " ++ (decimal number ++ (codes " in " ++ (file_name file ++ (codes ": "
    ++ (decimal page.width ++ (codes " x " ++ (decimal (length page.rows) ++ (codes ", " ++ (lines_word page.fine
    ++ (sent_words params ++ 10 ∷ [])))))))))))

-- the record of the page that a caller counts as confirmed at a time, by its number from 1 among those that are sent
abbrev pub confirmed_record : ℕ → ℕ → Data
confirmed_record at number = object (member (codes "at") (count at) (member (codes "confirmed") (count number) no_members))

-- the same in words, as a line
abbrev pub confirmed_words : ℕ → ℕ → List ℕ
confirmed_words at number = decimal at ++ (codes " page " ++ (decimal number ++ codes " confirmed\n"))

-- the record of a PPS whose page number, from 1, doesn't follow that of the one before it
abbrev pub gap_record : ℕ → ℕ → Data
gap_record at page = object (member (codes "at") (count at) (member (codes "gap") (count page) no_members))

-- the same in words, as a line
abbrev pub gap_words : ℕ → ℕ → List ℕ
gap_words at page = decimal at ++ (codes " gap before page " ++ (decimal page ++ codes ": one may be missing\n"))

-- a line of words without the four spaces before it, and its end
abbrev pub bare : List ℕ → List ℕ
bare line = take (length line - 5) (drop 4 line)

-- the record of what was heard at a time, and of its words, if there are some
abbrev pub heard_as : ℕ → Data → List ℕ → Data
heard_as at heard [] = object (member (codes "at") (count at) (member (codes "heard") heard no_members))
heard_as at heard text = object (member (codes "at") (count at)
    (member (codes "heard") heard
    (member (codes "words") (words text) no_members)))

-- the record of a frame that is no signal of these stations, heard at a time, by its control field and its words, if it has a name
abbrev pub heard_record : ℕ → ℕ → List ℕ → Data
heard_record at octet text = heard_as at (other_record octet) text

-- what a content that is no signal of these stations is called: its words, or what the list of frames says of it
abbrev pub heard_name : List ℕ → List ℕ → List ℕ
heard_name content [] = content_text content
heard_name content text = text

-- the same in words, as a line
abbrev pub heard_words : ℕ → List ℕ → List ℕ → List ℕ
heard_words at content text = decimal at ++ (codes " heard " ++ (heard_name content text ++ 10 ∷ []))

-- That so many lines are lost at a time since memory was refused, as a record (true) or in words. The record is `{"at":T,"lost":N}`.
abbrev pub lost_line : Bool → ℕ → ℕ → List ℕ
lost_line true at lines = codes "{\"at\":" ++ (decimal at ++ (codes ",\"lost\":" ++ (decimal lines ++ codes "}\n")))
lost_line false at lines = decimal at ++ (codes " memory was refused, lines lost: " ++ (decimal lines ++ 10 ∷ []))

-- The record of how a call stands at its end, also after a fault: the pages that a caller counts as confirmed, or that an answerer has
-- stored, whether the call is whole, and why it ended so, if that is known.
abbrev pub state_record : Bool → ℕ → Bool → Option (List ℕ) → Data
state_record true pages whole None = object (member (codes "confirmed") (count pages) (member (codes "whole") (boolean whole) no_members))
state_record true pages whole (Some why) = object (member (codes "confirmed") (count pages)
    (member (codes "whole") (boolean whole)
    (member (codes "why") (words why) no_members)))
state_record false pages whole None = object (member (codes "pages") (count pages) (member (codes "whole") (boolean whole) no_members))
state_record false pages whole (Some why) = object (member (codes "pages") (count pages)
    (member (codes "whole") (boolean whole)
    (member (codes "why") (words why) no_members)))
