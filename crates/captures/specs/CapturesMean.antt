-- What is found in a capture (ITU-T T.30, Annex A), said by whole sequences of signals, by the ends of a PPS and by what changes nothing.
use Rattle.std.specs.Prelude.{ℕ, ◌≡◌, ◌≢◌, ◌≤◌, ◌<◌, ◌+◌, ◌⊎◌, ◌↔◌, ◌++◌, ◌∷◌, [], List, length, map, false, true, Option, Some, None}
use Rattle.std.specs.List.{range_with_len}
use Rattle.partial_page.specs.Assembling.{Frames}
use Rattle.partial_page.specs.Store.{IsKept, frame_of, no_frames}
use Rattle.signals.specs.Signals.{PlainSignal, dcn, dcs, fcd, pps}
use Rattle.signals.specs.declared.params.Params.{Params}
use Rattle.signals.specs.declared.signal.PageEnd.{PageEnd}
use Rattle.signals.specs.declared.signal.PageEnd.TheVariants.{Null, Mps, Eom, Eop}
use Rattle.partial_page.specs.Assembling.{IsTooLong}
use Rattle.signals.specs.declared.mark.Mark.{Mark}
use Rattle.signals.specs.declared.mark.Pps.{Pps}
use Rattle.captures.specs.Captured.{Capture, Step, agreed, at_end, empty_capture, finds_none, hears, is_again, is_resend, is_waiting, page_in}
use Rattle.captures.specs.Captured.{◌>>>◌}
use Rattle.captures.specs.declared.captured.Captured.{Captured}
use Rattle.captures.specs.declared.captured.Captured.TheVariants.{MissingPage, MissingFrame, MissingBlocks, Unfinished, BlockBeforeDcs}
use Rattle.captures.specs.declared.captured.Captured.TheVariants.{BlockAfterEnd, MissingAfter, UsedNumber}

-- signals, one after the other
abbrev pub hears_signals : List PlainSignal → Capture → Step
hears_signals [] s = finds_none s
hears_signals (signal ∷ signals) s = hears signal s >>> hears_signals signals

-- what is found in the signals of a line, from the beginning to its end
abbrev pub found_in : List PlainSignal → List Captured
found_in signals = (hears_signals signals (empty_capture None)).found ++ at_end (hears_signals signals (empty_capture None)).then

-- the mark of a block of a page
abbrev pub mark_of : ℕ → ℕ → Mark
mark_of page block = record { page = page; block = block }

-- what is missing if nothing follows a first page whose PPS says this
abbrev pub after_first : PageEnd → List Captured
after_first Null = Unfinished ∷ []
after_first Mps = MissingAfter 1 Mps ∷ []
after_first Eom = MissingAfter 1 Eom ∷ []
after_first Eop = []

-- What is found if data of at most 64 octets are sent, which frames of either size may have: `a` and `b` in frames, after a DCS. Pages,
-- blocks and frames are counted from 0, and of a block with one frame the PPS has 0 as its last one.
pub record SequencesMean (params next : Params) (a b : List ℕ) : Type 0 where
  -- each end but NULL ends the page, and after MPS and EOM another one must follow
  pub one_block : (ends : PageEnd) → ends ≢ Null → found_in (dcs params ∷ fcd 0 a ∷ pps ends 0 0 0 ∷ [])
      ≡ page_in params (mark_of 0 0) a ∷ after_first ends
  -- after NULL the page goes on
  pub two_blocks : (ends : PageEnd) → ends ≢ Null →
      found_in (dcs params ∷ fcd 0 a ∷ pps Null 0 0 0 ∷ fcd 0 b ∷ pps ends 0 1 0 ∷ []) ≡
      page_in params (mark_of 0 1) (a ++ b) ∷ after_first ends
  -- after MPS another page comes
  pub two_pages : found_in (dcs params ∷ fcd 0 a ∷ pps Mps 0 0 0 ∷ fcd 0 b ∷ pps Eop 1 0 0 ∷ []) ≡
      page_in params (mark_of 0 0) a ∷ page_in params (mark_of 1 0) b ∷ []
  -- after EOM another group comes, with a DCS of its own
  pub two_groups : found_in (dcs params ∷ fcd 0 a ∷ pps Eom 0 0 0 ∷ dcs next ∷ fcd 0 b ∷ pps Eop 1 0 0 ∷ []) ≡
      page_in params (mark_of 0 0) a ∷ page_in next (mark_of 1 0) b ∷ []
  -- a whole block that is sent again, since its MCF was lost, isn't found again
  pub page_again : (ends : PageEnd) → ends ≢ Null →
      found_in (dcs params ∷ fcd 0 a ∷ pps ends 0 0 0 ∷ fcd 0 a ∷ pps ends 0 0 0 ∷ []) ≡ page_in params (mark_of 0 0) a ∷ after_first ends
  pub block_again :
      found_in (dcs params ∷ fcd 0 a ∷ pps Null 0 0 0 ∷ fcd 0 a ∷ pps Null 0 0 0 ∷ fcd 0 b ∷ pps Eop 0 1 0 ∷ []) ≡
      page_in params (mark_of 0 1) (a ++ b) ∷ []
  -- a frame that is missing comes after a PPR; the PPS of the resend may count only what is sent again
  pub frame_again : found_in (dcs params ∷ fcd 1 b ∷ pps Eop 0 0 1 ∷ fcd 0 a ∷ pps Eop 0 0 1 ∷ []) ≡
      page_in params (mark_of 0 0) (a ++ b) ∷ []
  pub smaller_last : found_in (dcs params ∷ fcd 1 b ∷ pps Eop 0 0 1 ∷ fcd 0 a ∷ pps Eop 0 0 0 ∷ []) ≡
      page_in params (mark_of 0 0) (a ++ b) ∷ []
  -- of two frames of one number the later one counts, also after a PPS
  pub later_frame : found_in (dcs params ∷ fcd 0 a ∷ fcd 0 b ∷ pps Eop 0 0 0 ∷ []) ≡ page_in params (mark_of 0 0) b ∷ []
  pub later_block : found_in (dcs params ∷ fcd 0 a ∷ pps Eop 0 0 1 ∷ fcd 0 b ∷ fcd 1 a ∷ pps Eop 0 0 1 ∷ []) ≡
      page_in params (mark_of 0 0) (b ++ a) ∷ []
  -- a frame that never comes is named when the signals end, or when another page comes, which is found
  pub never_came : (ends : PageEnd) → found_in (dcs params ∷ fcd 1 b ∷ pps ends 0 0 1 ∷ []) ≡
      MissingFrame (mark_of 0 0) 0 ∷ after_first ends
  pub page_after : found_in (dcs params ∷ fcd 1 b ∷ pps Mps 0 0 1 ∷ fcd 0 a ∷ pps Eop 1 0 0 ∷ []) ≡
      MissingFrame (mark_of 0 0) 0 ∷ page_in params (mark_of 1 0) a ∷ []
  -- a page without one of its blocks isn't read, and the next one is
  pub block_after : found_in (dcs params ∷ fcd 1 b ∷ pps Null 0 0 1 ∷ fcd 0 a ∷ pps Eop 0 1 0 ∷ []) ≡ MissingFrame (mark_of 0 0) 0 ∷ []
  pub no_block : found_in (dcs params ∷ fcd 0 a ∷ pps Mps 0 1 0 ∷ fcd 0 b ∷ pps Eop 1 0 0 ∷ []) ≡
      MissingBlocks (mark_of 0 1) ∷ page_in params (mark_of 1 0) b ∷ []
  -- what no PPS ends is named at a DCS, which begins anew, and when the signals end
  pub no_end : found_in (dcs params ∷ fcd 0 a ∷ []) ≡ Unfinished ∷ []
  pub dcs_in_block : found_in (dcs params ∷ fcd 0 a ∷ dcs next ∷ fcd 0 b ∷ pps Eop 0 0 0 ∷ []) ≡
      Unfinished ∷ page_in next (mark_of 0 0) b ∷ []
  pub dcs_in_page : found_in (dcs params ∷ fcd 0 a ∷ pps Null 0 0 0 ∷ dcs next ∷ fcd 0 b ∷ pps Eop 0 0 0 ∷ []) ≡
      Unfinished ∷ page_in next (mark_of 0 0) b ∷ []
  -- frames before a DCS aren't part of a block after it
  pub dcs_in_resend : found_in (dcs params ∷ fcd 0 a ∷ pps Eop 0 0 1 ∷ dcs next ∷ fcd 1 b ∷ pps Eop 0 0 1 ∷ []) ≡
      MissingFrame (mark_of 0 0) 1 ∷ MissingFrame (mark_of 0 0) 0 ∷ []
  -- before any DCS nothing can be read
  pub no_dcs : (ends : PageEnd) → found_in (fcd 0 a ∷ pps ends 0 0 0 ∷ []) ≡ BlockBeforeDcs (mark_of 0 0) ∷ after_first ends
  -- after EOM and EOP a DCS must come: without it a page isn't read, even if its PPS doesn't come either; nor is one after a DCN
  pub lost_dcs : found_in (dcs params ∷ fcd 0 a ∷ pps Eom 0 0 0 ∷ fcd 0 b ∷ pps Mps 1 0 0 ∷ fcd 0 a ∷ pps Eop 2 0 0 ∷ []) ≡
      page_in params (mark_of 0 0) a ∷ BlockAfterEnd (mark_of 1 0) Eom ∷ BlockAfterEnd (mark_of 2 0) Eom ∷ []
  pub lost_dcs_of_call : found_in (dcs params ∷ fcd 0 a ∷ pps Eop 0 0 0 ∷ fcd 0 b ∷ pps Eop 0 1 0 ∷ []) ≡
      page_in params (mark_of 0 0) a ∷ MissingBlocks (mark_of 0 1) ∷ BlockAfterEnd (mark_of 0 1) Eop ∷ []
  pub lost_dcs_and_frame : found_in (dcs params ∷ fcd 1 b ∷ pps Eom 0 0 1 ∷ fcd 0 a ∷ pps Eop 1 0 0 ∷ []) ≡
      MissingFrame (mark_of 0 0) 0 ∷ BlockAfterEnd (mark_of 1 0) Eom ∷ []
  pub lost_dcs_and_pps : found_in (dcs params ∷ fcd 0 a ∷ pps Eom 0 0 0 ∷ fcd 0 b ∷ []) ≡
      page_in params (mark_of 0 0) a ∷ Unfinished ∷ []
  pub lost_dcs_after_dcn : found_in (dcs params ∷ fcd 0 a ∷ pps Mps 0 0 0 ∷ dcn ∷ fcd 0 b ∷ pps Eop 0 0 0 ∷ []) ≡
      page_in params (mark_of 0 0) a ∷ MissingAfter 1 Mps ∷ BlockBeforeDcs (mark_of 0 0) ∷ []
  -- a page that is missing is named by the next one, also if a block of it came; those before the first one too
  pub no_page : found_in (dcs params ∷ fcd 0 a ∷ pps Mps 0 0 0 ∷ fcd 0 b ∷ pps Eop 2 0 0 ∷ []) ≡
      page_in params (mark_of 0 0) a ∷ MissingPage 1 ∷ page_in params (mark_of 2 0) b ∷ []
  pub no_page_end : found_in (dcs params ∷ fcd 0 a ∷ pps Null 0 0 0 ∷ fcd 0 b ∷ pps Eop 1 0 0 ∷ []) ≡
      MissingPage 0 ∷ page_in params (mark_of 1 0) b ∷ []
  pub no_first_page : found_in (dcs params ∷ fcd 0 a ∷ pps Eop 2 0 0 ∷ []) ≡
      MissingPage 0 ∷ MissingPage 1 ∷ page_in params (mark_of 2 0) a ∷ []
  -- after page 255 comes page 0
  pub page_255 : found_in (dcs params ∷ fcd 0 a ∷ pps Mps 255 0 0 ∷ fcd 0 b ∷ pps Eop 0 0 0 ∷ []) ≡
      map (λ number. MissingPage number) (range_with_len 0 255) ++ page_in params (mark_of 255 0) a ∷ page_in params (mark_of 0 0) b ∷ []
  pub no_page_255 : found_in (dcs params ∷ fcd 0 a ∷ pps Mps 127 0 0 ∷ fcd 0 b ∷ pps Mps 254 0 0 ∷ fcd 0 a ∷ pps Eop 1 0 0 ∷ []) ≡
      map (λ number. MissingPage number) (range_with_len 0 127) ++ page_in params (mark_of 127 0) a
      ∷ map (λ number. MissingPage number) (range_with_len 128 126) ++ page_in params (mark_of 254 0) b
      ∷ MissingPage 255 ∷ MissingPage 0 ∷ page_in params (mark_of 1 0) a ∷ []
  -- another call begins with page 0: after a DCN, with a DCS after EOP, and with a lower number; a page that had to follow before it is named
  pub next_call : found_in (dcs params ∷ fcd 0 a ∷ pps Mps 0 0 0 ∷ dcn ∷ dcs next ∷ fcd 0 b ∷ pps Eop 1 0 0 ∷ []) ≡
      page_in params (mark_of 0 0) a ∷ MissingAfter 1 Mps ∷ MissingPage 0 ∷ page_in next (mark_of 1 0) b ∷ []
  pub call_after_eop : found_in (dcs params ∷ fcd 0 a ∷ pps Eop 0 0 0 ∷ dcs next ∷ fcd 0 b ∷ pps Eop 1 0 0 ∷ []) ≡
      page_in params (mark_of 0 0) a ∷ MissingPage 0 ∷ page_in next (mark_of 1 0) b ∷ []
  pub lost_dcn : found_in (dcs params ∷ fcd 0 a ∷ pps Mps 0 0 0 ∷ fcd 0 b ∷ pps Mps 1 0 0 ∷ dcs next ∷ fcd 0 b ∷ pps Eop 0 0 0 ∷ []) ≡
      page_in params (mark_of 0 0) a ∷ page_in params (mark_of 1 0) b ∷ MissingAfter 2 Mps ∷ page_in next (mark_of 0 0) b ∷ []
  pub lost_in_page : found_in (dcs params ∷ fcd 0 a ∷ pps Mps 0 0 0 ∷ fcd 0 a ∷ pps Null 1 0 0 ∷ fcd 0 b ∷ pps Eop 0 0 0 ∷ []) ≡
      page_in params (mark_of 0 0) a ∷ Unfinished ∷ page_in params (mark_of 0 0) b ∷ []
  -- a page that had to follow can come after another DCS; without it the page is named, also after a resend
  pub after_dcs : (ends : PageEnd) → ends ≡ Mps ⊎ ends ≡ Eom → found_in (dcs params ∷ fcd 0 a ∷ pps ends 0 0 0 ∷ dcs next ∷ []) ≡
      page_in params (mark_of 0 0) a ∷ after_first ends
  pub two_dcs : found_in (dcs params ∷ fcd 0 a ∷ pps Mps 0 0 0 ∷ dcs next ∷ fcd 0 b ∷ pps Eop 1 0 0 ∷ []) ≡
      page_in params (mark_of 0 0) a ∷ page_in next (mark_of 1 0) b ∷ []
  -- a page that ends anew by the same PPS has the end that is said last
  pub end_again : found_in (dcs params ∷ fcd 0 a ∷ pps Mps 0 0 0 ∷ pps Eop 0 0 0 ∷ []) ≡ page_in params (mark_of 0 0) a ∷ []
  pub goes_on_again : found_in (dcs params ∷ fcd 0 a ∷ pps Eop 0 0 0 ∷ pps Mps 0 0 0 ∷ fcd 0 b ∷ pps Eop 1 0 0 ∷ []) ≡
      page_in params (mark_of 0 0) a ∷ page_in params (mark_of 1 0) b ∷ []
  -- a block whose frames were sent before is a resend, also after a DCS; with others its number was used already, and it is what had to
  -- follow: the next page, or after NULL the next block
  pub dcs_in_page_again : found_in (dcs params ∷ fcd 0 a ∷ pps Mps 0 0 0 ∷ dcs params ∷ fcd 0 a ∷ pps Eop 0 0 0 ∷ []) ≡
      page_in params (mark_of 0 0) a ∷ []
  pub same_page_number : a ≢ b → found_in (dcs params ∷ fcd 0 a ∷ pps Mps 0 0 0 ∷ fcd 0 b ∷ pps Eop 0 0 0 ∷ []) ≡
      page_in params (mark_of 0 0) a ∷ UsedNumber (mark_of 0 0) Mps ∷ page_in params (mark_of 0 0) b ∷ []
  pub same_number_after_dcs : a ≢ b → found_in (dcs params ∷ fcd 0 a ∷ pps Eom 0 0 0 ∷ dcs next ∷ fcd 0 b ∷ pps Eop 0 0 0 ∷ []) ≡
      page_in params (mark_of 0 0) a ∷ UsedNumber (mark_of 0 0) Eom ∷ page_in next (mark_of 0 0) b ∷ []
  pub same_block_number : a ≢ b → found_in (dcs params ∷ fcd 0 a ∷ pps Null 0 0 0 ∷ fcd 0 b ∷ pps Eop 0 0 0 ∷ []) ≡
      UsedNumber (mark_of 0 0) Null ∷ page_in params (mark_of 0 0) (a ++ b) ∷ []
  pub same_number_after_eop : a ≢ b → found_in (dcs params ∷ fcd 0 a ∷ pps Eop 0 0 0 ∷ fcd 0 b ∷ pps Eop 0 0 0 ∷ []) ≡
      page_in params (mark_of 0 0) a ∷ BlockAfterEnd (mark_of 0 0) Eop ∷ []
  -- a DCN leaves what is open
  pub dcn_in_page : found_in (dcs params ∷ fcd 0 a ∷ dcn ∷ []) ≡ Unfinished ∷ []

-- law: what is found in the 43 sequences of `SequencesMean`, whatever the parameters and the data are
abbrev pub CapturesMean : Type 0
CapturesMean = (params next : Params) (a b : List ℕ) → length a ≤ 64 → length b ≤ 64 → SequencesMean params next a b

-- a signal has nothing to do with pages: it isn't DCS, FCD, PPS or DCN
abbrev pub IsOfNoPage : PlainSignal → Type 0
IsOfNoPage (dcs params) = ⊥
IsOfNoPage (fcd number octets) = ⊥
IsOfNoPage (pps ends page block last) = ⊥
IsOfNoPage dcn = ⊥
IsOfNoPage signal = Unit {0}

-- law: in every state, each signal but DCS, FCD, PPS and DCN changes nothing and ends nothing
abbrev pub OthersChangeNothing : Type 0
OthersChangeNothing = (signal : PlainSignal) (s : Capture) → IsOfNoPage signal → hears signal s ≡ finds_none s

-- law: in every state, an FCD's data are kept under their number if they aren't too long, and nothing else changes; longer data change
-- nothing
abbrev pub FramesAreKept : Type 0
FramesAreKept = (params : Params) (number : ℕ) (octets : List ℕ) (s : Capture) → agreed s ≡ Some params → number < length s.coming →
    ((IsTooLong params octets → ⊥) → (coming : List (Option (List ℕ))) × IsKept s.coming number octets coming
    × (hears (fcd number octets) s ≡ finds_none (record s { coming = coming; begun = true })))
    × (IsTooLong params octets → hears (fcd number octets) s ≡ finds_none s)

-- after a whole block, whose PPS counts from now on: the page goes on with the next block, which after 255 has the number 0; or it is over, and the next one begins
abbrev pub IsAfterBlock : PageEnd → Mark → Capture → Type 0
IsAfterBlock Null mark s = (s.said ≡ Some Null) × (mark.block < 255 → s.next ≡ mark.block + 1) × (mark.block ≡ 255 → s.next ≡ 0)
IsAfterBlock ends mark s = (s.said ≡ Some ends) × (s.octets ≡ []) × (s.next ≡ 0) × (s.spoiled ≡ false)

-- a block waits for frames: its last frame is the one of the PPS, or the greater one of a PPS of this block before it
pub record IsAwaited (ends : PageEnd) (mark : Mark) (last : ℕ) (before after : Option Pps) : Type 0 where
  pub counts : ℕ
  pub waits : after ≡ Some (record { mark = mark; ends = ends; last = counts })
  pub new : last ≤ counts
  pub old : (waiting : Pps) → before ≡ Some waiting → is_waiting before mark ≡ true → waiting.last ≤ counts

-- law: frames are a resend of those of a block exactly if each one that comes is the block's own
abbrev pub ResendsAreTheSame : Type 0
ResendsAreTheSame = (had coming : Frames) → (is_resend had coming ≡ true)
    ↔ ((n : ℕ) → n < 256 → (octets : List ℕ) → frame_of coming n ≡ Some octets → frame_of had n ≡ Some octets)

-- law: in every state, a PPS of a block that isn't sent again takes the frames since the PPS before it. The block waits for its missing
-- frames, and the greatest last frame counts; or it is whole, or isn't read, and then its page goes on with the next block (0 after 255) or
-- is over.
abbrev pub BlocksEnd : Type 0
BlocksEnd = (ends : PageEnd) (mark : Mark) (last : ℕ) (s : Capture) →
    is_again mark s ≡ false → let t = (hears (pps ends mark.page mark.block last) s).then in
    (t.coming ≡ no_frames) × (t.begun ≡ false)
    × (IsAwaited ends mark last s.waiting t.waiting ⊎ ((t.waiting ≡ None) × (t.taken ≡ Some mark) × IsAfterBlock ends mark t))
