-- What an answerer watches its caller for: DCSs that it doesn't allow, of which the second one ends its call, page numbers that jump, and a
-- page that comes under the number of the last one.
use Rattle.std.specs.Prelude.{ℕ, ◌≡◌, ◌⊎◌, ◌+◌, ◌++◌, ◌%◌, ◌||◌, ◌&&◌, Bool, true, false, cond, nat_eq}
use Rattle.std.specs.Prelude.{List, [], ◌∷◌, drop, Option, Some, None, Result, Ok, Err}
use Rattle.hdlc.specs.DeframerState.{DeframerState}
use Rattle.signals.specs.Agreement.{allowed}
use Rattle.signals.specs.Marks.{same_mark}
use Rattle.signals.specs.Reading.{late_bit, read_content, with_x}
use Rattle.signals.specs.Signals.{PlainSignal, dcs, fcd, other, pps}
use Rattle.signals.specs.Writing.{IsWritable, content_of}
use Rattle.signals.specs.declared.fault.SignalFault.{SignalFault}
use Rattle.signals.specs.declared.mark.Mark.{Mark}
use Rattle.signals.specs.declared.params.Caps.{Caps}
use Rattle.signals.specs.declared.signal.Side.{Side}
use Rattle.stations.specs.Bursts.{PlainBurst, items_of}
use Rattle.stations.specs.Inputs.{PlainItem, framed, checked}
use Rattle.stations.specs.Lending.{has_no_frame}
use Rattle.terminals.specs.Hearing.{HasHeard, new_contents}
use Rattle.terminals.specs.Speaking.{AreLent, BurstsOf, Speaking}
use Rattle.terminals.specs.declared.fault.HearFault.{HearFault}
use Rattle.terminals.specs.declared.fault.HearFault.TheVariants.{NothingTaken, FrameLost}
use Rattle.terminals.specs.declared.sending.SentBurst.{SentBurst}
use Rattle.terminals.specs.declared.watching.PageNumbers.{PageNumbers}
use Rattle.terminals.specs.declared.watching.Refusal.{Refusal}
use Rattle.terminals.specs.declared.watching.Refusal.TheVariants.{NoErrorCorrection, NotOffered, UsedNumber}
use Rattle.terminals.specs.declared.watching.Refused.{Refused}
use Rattle.terminals.specs.declared.watching.Refused.TheVariants.{Never, Once, Twice}
use Rattle.terminals.specs.declared.watching.UsedMark.{UsedMark}
use Rattle.terminals.specs.declared.watching.Watched.{Watched}

-- a DCS whose parameters no station here knows, by bit 27, error correction: it is without it, or its code, speed or width isn't known
abbrev pub unknown_dcs : Bool → Refusal
unknown_dcs true = NotOffered
unknown_dcs false = NoErrorCorrection

-- why a signal is a DCS that isn't allowed; none if it is allowed, or no DCS. The control field of a DCS is 82, or 83 of a caller
abbrev pub refusal_read : Caps → List ℕ → Result PlainSignal SignalFault → Option Refusal
refusal_read caps fields (Ok (dcs params)) = cond (allowed caps params) None (Some NotOffered)
refusal_read caps fields (Ok (other octet)) = cond (with_x 0x82 octet) (Some (unknown_dcs (late_bit fields 27))) None
refusal_read caps fields (Ok signal) = None
refusal_read caps fields (Err fault) = None

-- why the content of a frame is a DCS that isn't allowed, if it is one
unfoldable pub refusal_of : Caps → List ℕ → Option Refusal
refusal_of caps content = refusal_read caps (drop 3 content) (read_content content)

-- how often a DCS wasn't allowed, with one that isn't for this reason
abbrev pub once_more : Refused → Refusal → Refused
once_more Never why = Once
once_more Once why = Twice why
once_more (Twice first) why = Twice first

-- how often, after a content
abbrev pub refused_by : Refused → Option Refusal → Refused
refused_by refused None = refused
refused_by refused (Some why) = once_more refused why

-- how often, after contents in order
abbrev pub refused_after : Caps → Refused → List (List ℕ) → Refused
refused_after caps refused [] = refused
refused_after caps refused (content ∷ contents) = refused_after caps (refused_by refused (refusal_of caps content)) contents

-- why the second DCS wasn't allowed, if there was a second
abbrev pub second_refusal : Refused → Option Refusal
second_refusal Never = None
second_refusal Once = None
second_refusal (Twice why) = Some why

-- the page number in a PPS; none in another signal
abbrev pub page_read : Result PlainSignal SignalFault → Option ℕ
page_read (Ok (pps ends page block last)) = Some page
page_read (Ok signal) = None
page_read (Err fault) = None

-- the page number of the content of a frame, if it is a PPS
unfoldable pub page_of : List ℕ → Option ℕ
page_of content = page_read (read_content content)

-- A page number follows the last one of its call if it is the same or the next, of 256; the first one is 0 (T.30, A.4.3.1).
abbrev pub follows : Option ℕ → ℕ → Bool
follows None page = nat_eq page 0
follows (Some last) page = nat_eq page last || nat_eq page ((last + 1) % 256)

-- the first page number that didn't follow, by this one, which does or doesn't
abbrev pub first_gap : Option ℕ → Bool → ℕ → Option ℕ
first_gap (Some page) so next = Some page
first_gap None true next = None
first_gap None false next = Some next

-- the page numbers after a content, if it has one
abbrev pub numbered_by : PageNumbers → Option ℕ → PageNumbers
numbered_by pages None = pages
numbered_by pages (Some page) = record { last = Some page; gap = first_gap pages.gap (follows pages.last page) page }

-- the page numbers after contents in order
abbrev pub numbered_after : PageNumbers → List (List ℕ) → PageNumbers
numbered_after pages [] = pages
numbered_after pages (content ∷ contents) = numbered_after (numbered_by pages (page_of content)) contents

-- no page number yet
abbrev pub no_numbers : PageNumbers
no_numbers = record { last = None; gap = None }

-- whether this is the mark of a block that was accepted
abbrev pub is_marked : Option Mark → Mark → Bool
is_marked None mark = false
is_marked (Some accepted) mark = same_mark accepted mark

-- whether two blocks that were accepted last have one mark
abbrev pub is_still : Option Mark → Option Mark → Bool
is_still None now = false
is_still (Some mark) now = is_marked now mark

-- the used mark, if a station has accepted this block last: after another one no frame has come
abbrev pub used_now : Option Mark → UsedMark → UsedMark
used_now mark used = record { mark = mark; frames = is_still used.mark mark && used.frames; again = used.again }

-- The used mark after a signal. A PPS with the mark of the block that was accepted last repeats that PPS (T.30, A.4.3.2), and brings no frames:
-- if an FCD came between, it is of another page or block under the same numbers.
abbrev pub used_read : UsedMark → Result PlainSignal SignalFault → UsedMark
used_read used (Ok (fcd number octets)) = record used { frames = true }
used_read used (Ok (pps ends page block last)) =
    record used { again = used.again || (used.frames && is_marked used.mark (record { page = page; block = block })) }
used_read used (Ok signal) = used
used_read used (Err fault) = used

-- the used mark after the content of a frame
unfoldable pub used_by : UsedMark → List ℕ → UsedMark
used_by used content = used_read used (read_content content)

-- the used mark after contents in order
abbrev pub used_after : UsedMark → List (List ℕ) → UsedMark
used_after used [] = used
used_after used (content ∷ contents) = used_after (used_by used content) contents

-- no block was accepted yet
abbrev pub nothing_used : UsedMark
nothing_used = record { mark = None; frames = false; again = false }

-- nothing was seen yet, by an answerer with these capabilities
abbrev pub nothing_watched : Caps → Watched
nothing_watched caps = record { caps = caps; refused = Never; pages = no_numbers; used = nothing_used }

-- why a call is refused: for a page under a used number, or for the second DCS that isn't allowed; none if it isn't
abbrev pub refusal_for : Option Refusal → Bool → Option Refusal
refusal_for second true = Some UsedNumber
refusal_for second false = second

-- why a call is refused, by what was seen
abbrev pub refusal_of_seen : Watched → Option Refusal
refusal_of_seen w = refusal_for (second_refusal w.refused) w.used.again

-- what was seen, if a station has accepted this block last, if anything is watched
abbrev pub noted : Option Mark → Option Watched → Option Watched
noted mark None = None
noted mark (Some w) = Some (record w { used = used_now mark w.used })

-- what was seen, with a content
abbrev pub watched_by : Watched → List ℕ → Watched
watched_by w content = record {
  caps = w.caps;
  refused = refused_by w.refused (refusal_of w.caps content);
  pages = numbered_by w.pages (page_of content);
  used = used_by w.used content;
}

-- what was seen, with contents in order
abbrev pub watched_after : Watched → List (List ℕ) → Watched
watched_after w contents = record {
  caps = w.caps;
  refused = refused_after w.caps w.refused contents;
  pages = numbered_after w.pages contents;
  used = used_after w.used contents;
}

-- what was seen, with a content and what it says
abbrev pub watched_reading : Watched → List ℕ → Result PlainSignal SignalFault → Watched
watched_reading w content said = record {
  caps = w.caps;
  refused = refused_by w.refused (refusal_read w.caps (drop 3 content) said);
  pages = numbered_by w.pages (page_read said);
  used = used_read w.used said;
}

-- what was seen, with a content and what it says, if anything is watched
abbrev pub seen_reading : Option Watched → List ℕ → Result PlainSignal SignalFault → Option Watched
seen_reading None content said = None
seen_reading (Some w) content said = Some (watched_reading w content said)

-- what sees contents, after one and what it says
abbrev pub SeesOne : Type 0 → Type 0
SeesOne W = W → List ℕ → Result PlainSignal SignalFault → W

-- what sees contents, after these in order, each with what it says
abbrev pub saw_all : {W : Type 0} → SeesOne W → W → List (List ℕ) → W
saw_all saw w [] = w
saw_all saw w (content ∷ contents) = saw_all saw (saw w content (read_content content)) contents

-- contents were seen by this, in order: those that octets completed which came after those before
abbrev pub SeesBy : {W : Type 0} → SeesOne W → DeframerState → List ℕ → W → W → Type 0
SeesBy saw framing octets old new = (seen : List (List ℕ)) × (new ≡ saw_all saw old seen)
    × ((before : List ℕ) → HasHeard framing before → seen ≡ new_contents before octets)

-- they were, also if a step lost them; nothing was if no octet was taken
abbrev pub SeesByIfTaken : {W : Type 0} → SeesOne W → DeframerState → List ℕ → W → W → Result (Unit {0}) HearFault → Type 0
SeesByIfTaken saw framing octets old new (Ok done) = SeesBy saw framing octets old new
SeesByIfTaken saw framing octets old new (Err FrameLost) = SeesBy saw framing octets old new
SeesByIfTaken saw framing octets old new (Err NothingTaken) = new ≡ old

-- what sees contents that a station says, after one and its signal
abbrev pub SeesSaid : Type 0 → Type 0
SeesSaid W = W → List ℕ → PlainSignal → W

-- an item that a station says was seen, which other items follow in its turn: of a signal that can be written its content, and it; of another
-- one, and of a training check, nothing
abbrev pub SawItem : {W : Type 0} → SeesSaid W → Side → PlainItem → List PlainItem → W → W → Type 0
SawItem saw side (framed signal) following old new =
    (IsWritable signal × (new ≡ saw old (content_of signal side (has_no_frame following)) signal)) ⊎ ((¬ IsWritable signal) × (new ≡ old))
SawItem saw side (checked octets) following old new = new ≡ old

-- items that a station says were seen in order
abbrev pub SawItems : {W : Type 0} → SeesSaid W → Side → List PlainItem → List PlainItem → W → W → Type 0
SawItems saw side [] later old new = new ≡ old
SawItems {W} saw side (item ∷ items) later old new =
    (mid : W) × SawItem saw side item (items ++ later) old mid × SawItems saw side items later mid new

-- the items of the first of bursts were seen, if there is one
abbrev pub SawFirst : {W : Type 0} → SeesSaid W → Side → List PlainBurst → W → W → Type 0
SawFirst saw side [] old new = new ≡ old
SawFirst saw side (burst ∷ later) old new = SawItems saw side burst.items (items_of later) old new

-- the items of the burst that was sent, the first of the turn's bursts that wasn't taken, were seen; and nothing if none was sent
abbrev pub SawSent :
    {W S E : Type 0} → SeesSaid W → Side → BurstsOf S → Speaking S → W → W → Result (Option SentBurst) E → Type 0
SawSent saw side lends speaking old new (Ok (Some sent)) =
    (bursts : List PlainBurst) × AreLent lends speaking.station speaking.turn bursts × SawFirst saw side (drop speaking.taken bursts) old new
SawSent saw side lends speaking old new (Ok None) = new ≡ old
SawSent saw side lends speaking old new (Err refused) = new ≡ old

-- what was seen, with contents in order, if anything is watched
abbrev pub seen_after : Option Watched → List (List ℕ) → Option Watched
seen_after None contents = None
seen_after (Some w) contents = Some (watched_after w contents)

-- the contents that octets completed, which came after those before, were seen
abbrev pub Sees : DeframerState → List ℕ → Option Watched → Option Watched → Type 0
Sees framing octets old new =
    (before : List ℕ) → HasHeard framing before → new ≡ seen_after old (new_contents before octets)

-- the contents that octets completed were seen, also if a step lost them; nothing was if no octet was taken
abbrev pub SeesIfTaken : DeframerState → List ℕ → Option Watched → Option Watched → Result (Unit {0}) HearFault → Type 0
SeesIfTaken framing octets old new (Ok done) = Sees framing octets old new
SeesIfTaken framing octets old new (Err FrameLost) = Sees framing octets old new
SeesIfTaken framing octets old new (Err NothingTaken) = new ≡ old
