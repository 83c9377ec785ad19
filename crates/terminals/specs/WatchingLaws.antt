-- Laws of what is watched: DCSs that aren't allowed, page numbers that jump, and marks that are used again, by their octets and in a whole
-- call.
use Rattle.std.specs.Prelude.{ℕ, ◌≡◌, ◌||◌, Bool, true, false, cond, List, [], ◌∷◌, Option, Some, None, Result, Ok, Err}
use Rattle.terminals.specs.Watching.{follows, no_numbers, nothing_used, numbered_after, page_of, refusal_of, refused_after, second_refusal}
use Rattle.terminals.specs.Watching.{used_after, used_now}
use Rattle.terminals.specs.declared.watching.Refusal.{Refusal}
use Rattle.terminals.specs.declared.watching.Refusal.TheVariants.{NoErrorCorrection, NotOffered}
use Rattle.terminals.specs.declared.watching.Refused.TheVariants.{Never}
use Rattle.signals.specs.Marks.{same_mark}
use Rattle.signals.specs.Reading.{read_content}
use Rattle.signals.specs.Signals.{PlainSignal, fcd, pps}
use Rattle.signals.specs.declared.fault.SignalFault.{SignalFault}
use Rattle.signals.specs.declared.mark.Mark.{Mark}
use Rattle.signals.specs.declared.params.Caps.{Caps}
use Rattle.signals.specs.declared.params.Modems.TheVariants.{V29, V17}
use Rattle.signals.specs.declared.params.PageWidth.TheVariants.{W1728, W2432}

-- an answerer that takes all
abbrev pub takes_all : Caps
takes_all = record { receiver = true; modems = V17; fine = true; widest = W2432; t6 = true; ecm = true }

-- and one that takes little: V.29, normal lines, 1,728 pixels, one-dimensional T.4
abbrev pub takes_little : Caps
takes_little = record { receiver = true; modems = V29; fine = false; widest = W1728; t6 = false; ecm = true }

-- a DCS of these fields
abbrev pub dcs_octets : List ℕ → List ℕ
dcs_octets fields = 0xFF ∷ 0x13 ∷ 0x83 ∷ fields

-- The law: which DCS isn't allowed, and why, by its octets (T.30, table 2).
pub record RefusedByOctets : Type 0 where
  -- 14,400 bit/s by V.17, bit 14; 1,728 pixels; bit 27, error correction; bit 31, T.6
  pub allowed : refusal_of takes_all (dcs_octets (0x00 ∷ 0x22 ∷ 0xF8 ∷ 0x44 ∷ [])) ≡ None
  -- without bit 27, and without a fourth octet, which bit 24 announces
  pub no_correction : refusal_of takes_all (dcs_octets (0x00 ∷ 0x22 ∷ 0xF8 ∷ 0x40 ∷ [])) ≡ Some NoErrorCorrection
  pub three_octets : refusal_of takes_all (dcs_octets (0x00 ∷ 0x22 ∷ 0x78 ∷ [])) ≡ Some NoErrorCorrection
  pub of_an_answerer : refusal_of takes_all (0xFF ∷ 0x13 ∷ 0x82 ∷ 0x00 ∷ 0x22 ∷ 0x78 ∷ []) ≡ Some NoErrorCorrection
  -- bits 11 to 14 that name no speed; bit 16 without bit 31, two-dimensional T.4; bits 17 and 18, no width
  pub no_speed : refusal_of takes_all (dcs_octets (0x00 ∷ 0x12 ∷ 0xF8 ∷ 0x44 ∷ [])) ≡ Some NotOffered
  pub two_dimensional : refusal_of takes_all (dcs_octets (0x00 ∷ 0xA2 ∷ 0xF8 ∷ 0x04 ∷ [])) ≡ Some NotOffered
  pub no_width : refusal_of takes_all (dcs_octets (0x00 ∷ 0x22 ∷ 0xFB ∷ 0x44 ∷ [])) ≡ Some NotOffered
  -- 9,600 bit/s by V.29, bit 11, in one-dimensional T.4; and with bit 14, bit 15 (fine lines), bit 18 (2,432 pixels) and bit 31 (T.6)
  pub of_little : refusal_of takes_little (dcs_octets (0x00 ∷ 0x06 ∷ 0xF8 ∷ 0x04 ∷ [])) ≡ None
  pub faster : refusal_of takes_little (dcs_octets (0x00 ∷ 0x26 ∷ 0xF8 ∷ 0x04 ∷ [])) ≡ Some NotOffered
  pub finer : refusal_of takes_little (dcs_octets (0x00 ∷ 0x46 ∷ 0xF8 ∷ 0x04 ∷ [])) ≡ Some NotOffered
  pub wider : refusal_of takes_little (dcs_octets (0x00 ∷ 0x06 ∷ 0xFA ∷ 0x04 ∷ [])) ≡ Some NotOffered
  pub another_code : refusal_of takes_little (dcs_octets (0x00 ∷ 0x06 ∷ 0xF8 ∷ 0x44 ∷ [])) ≡ Some NotOffered
  -- no DCS: DIS, CFR, DCN, two octets of a DCS's three, and a control field that nothing here knows
  pub dis_of_one : refusal_of takes_little (0xFF ∷ 0x13 ∷ 0x80 ∷ 0x00 ∷ 0x6E ∷ 0xFA ∷ 0x44 ∷ []) ≡ None
  pub cfr_of_one : refusal_of takes_little (0xFF ∷ 0x13 ∷ 0x84 ∷ []) ≡ None
  pub dcn_of_one : refusal_of takes_little (0xFF ∷ 0x13 ∷ 0xFB ∷ []) ≡ None
  pub cut_short : refusal_of takes_little (dcs_octets (0x00 ∷ 0x22 ∷ [])) ≡ None
  pub another : refusal_of takes_little (0xFF ∷ 0x13 ∷ 0x43 ∷ 0x00 ∷ 0x22 ∷ 0x78 ∷ []) ≡ None

-- a reason before others, if there is one
abbrev pub put_reason : Option Refusal → List Refusal → List Refusal
put_reason None whys = whys
put_reason (Some why) whys = why ∷ whys

-- why contents are DCSs that aren't allowed, in order
abbrev pub reasons : Caps → List (List ℕ) → List Refusal
reasons caps [] = []
reasons caps (content ∷ contents) = put_reason (refusal_of caps content) (reasons caps contents)

-- the second of a list, if it has two
abbrev pub second_of : List Refusal → Option Refusal
second_of [] = None
second_of (first ∷ []) = None
second_of (first ∷ second ∷ rest) = Some second

-- The law: a call is refused for the second DCS in it that isn't allowed, and for no other one, whatever comes between and after.
abbrev pub SecondIsRefused : Type 0
SecondIsRefused =
    (caps : Caps) (contents : List (List ℕ)) →
    second_refusal (refused_after caps Never contents) ≡ second_of (reasons caps contents)

-- a PPS-MPS of this page: block 0, of 256 frames, ends a page that another one follows
abbrev pub mps_octets : ℕ → List ℕ
mps_octets page = 0xFF ∷ 0x13 ∷ 0xBF ∷ 0x4F ∷ page ∷ 0x00 ∷ 0xFF ∷ []

-- a PPS-EOP of this page: the same block ends the last page
abbrev pub eop_octets : ℕ → List ℕ
eop_octets page = 0xFF ∷ 0x13 ∷ 0xBF ∷ 0x2F ∷ page ∷ 0x00 ∷ 0xFF ∷ []

-- the gap in contents that are a whole call
abbrev pub gap_in : List (List ℕ) → Option ℕ
gap_in contents = (numbered_after no_numbers contents).gap

-- The law: page numbers that jump, by octets (T.30, A.4.3.1).
pub record GapsByOctets : Type 0 where
  -- a PPS has a page number; a CFR and a PPS cut short have none
  pub of_mps : page_of (mps_octets 7) ≡ Some 7
  pub of_cfr : page_of (0xFF ∷ 0x13 ∷ 0x84 ∷ []) ≡ None
  pub cut_short : page_of (0xFF ∷ 0x13 ∷ 0xBF ∷ 0x4F ∷ 0x07 ∷ 0x00 ∷ []) ≡ None
  -- pages 0, 0 again, and 1; page 255 and then 0
  pub in_order : gap_in (mps_octets 0 ∷ mps_octets 0 ∷ eop_octets 1 ∷ []) ≡ None
  pub last_to_first : follows (Some 255) 0 ≡ true
  -- pages 0 and 7; a call that begins with page 1; a page that goes back
  pub jumps : gap_in (mps_octets 0 ∷ eop_octets 7 ∷ []) ≡ Some 7
  pub first_is_one : gap_in (eop_octets 1 ∷ []) ≡ Some 1
  pub goes_back : gap_in (mps_octets 0 ∷ mps_octets 1 ∷ eop_octets 0 ∷ []) ≡ Some 0
  -- the first jump of two
  pub first_of_two : gap_in (mps_octets 0 ∷ mps_octets 7 ∷ eop_octets 9 ∷ []) ≡ Some 7

-- an FCD of frame 0 with one octet
abbrev pub fcd_octets : List ℕ
fcd_octets = 0xFF ∷ 0x03 ∷ 0x06 ∷ 0x00 ∷ 0x5A ∷ []

-- a PPS-NULL of page 0: its block 1, of 256 frames, with which the page goes on
abbrev pub null_octets : List ℕ
null_octets = 0xFF ∷ 0x13 ∷ 0xBF ∷ 0x00 ∷ 0x00 ∷ 0x01 ∷ 0xFF ∷ []

-- the mark of block 0 of page 0
abbrev pub first_mark : Option Mark
first_mark = Some (record { page = 0; block = 0 })

-- a signal is an FCD
abbrev pub is_fcd : Result PlainSignal SignalFault → Bool
is_fcd (Ok (fcd number octets)) = true
is_fcd (Ok signal) = false
is_fcd (Err fault) = false

-- a signal is a PPS of this mark
abbrev pub is_pps_of : Mark → Result PlainSignal SignalFault → Bool
is_pps_of mark (Ok (pps ends page block last)) = same_mark mark (record { page = page; block = block })
is_pps_of mark (Ok signal) = false
is_pps_of mark (Err fault) = false

-- whether a page came under a used number in contents, after that block was accepted
abbrev pub comes_again : Option Mark → List (List ℕ) → Bool
comes_again mark contents = (used_after (used_now mark nothing_used) contents).again

-- The law: pages under the number of the last one, by octets (T.30, A.4.3.2).
pub record UsedByOctets : Type 0 where
  -- a PPS that is repeated brings no frame; nor does the first one of a call
  pub repeated : comes_again first_mark (mps_octets 0 ∷ mps_octets 0 ∷ []) ≡ false
  pub first : comes_again None (fcd_octets ∷ mps_octets 0 ∷ []) ≡ false
  -- a frame and the same mark: by the same PPS, and by the PPS of the last page
  pub brought : comes_again first_mark (fcd_octets ∷ mps_octets 0 ∷ []) ≡ true
  pub of_the_last : comes_again first_mark (fcd_octets ∷ eop_octets 0 ∷ []) ≡ true
  -- another end alone brings no frame
  pub of_another_end : comes_again first_mark (eop_octets 0 ∷ []) ≡ false
  -- the next page and the next block; a frame alone
  pub next_page : comes_again first_mark (fcd_octets ∷ mps_octets 1 ∷ []) ≡ false
  pub next_block : comes_again first_mark (fcd_octets ∷ null_octets ∷ []) ≡ false
  pub none_before : comes_again first_mark (fcd_octets ∷ []) ≡ false
  -- frames that came before a block was accepted are its own; those after it stay known until another block is
  pub another_now : (used_now first_mark (used_after nothing_used (fcd_octets ∷ []))).frames ≡ false
  pub still_so : (used_now first_mark (used_after (used_now first_mark nothing_used) (fcd_octets ∷ []))).frames ≡ true

-- the contents after the first FCD among these
abbrev pub after_fcd : List (List ℕ) → List (List ℕ)
after_fcd [] = []
after_fcd (content ∷ contents) = cond (is_fcd (read_content content)) contents (after_fcd contents)

-- whether one of contents is a PPS of this mark
abbrev pub names_mark : Mark → List (List ℕ) → Bool
names_mark mark [] = false
names_mark mark (content ∷ contents) = is_pps_of mark (read_content content) || names_mark mark contents

-- The law: after a block was accepted, a page came under its number exactly if one of the contents after the first FCD is a PPS of its mark.
abbrev pub UsedIsBrought : Type 0
UsedIsBrought = (mark : Mark) (contents : List (List ℕ)) → comes_again (Some mark) contents ≡ names_mark mark (after_fcd contents)

-- a number before others, if there is one
abbrev pub put_number : Option ℕ → List ℕ → List ℕ
put_number None pages = pages
put_number (Some page) pages = page ∷ pages

-- the page numbers of the PPSs among contents, in order
abbrev pub page_numbers : List (List ℕ) → List ℕ
page_numbers [] = []
page_numbers (content ∷ contents) = put_number (page_of content) (page_numbers contents)

-- the first of page numbers that doesn't follow the one before it
abbrev pub first_jump : Option ℕ → List ℕ → Option ℕ
first_jump last [] = None
first_jump last (page ∷ pages) = cond (follows last page) (first_jump (Some page) pages) (Some page)

-- The law: the gap of a call is the first page number in its PPSs that doesn't follow the one before it, whatever else comes between.
abbrev pub GapIsFirstJump : Type 0
GapIsFirstJump = (contents : List (List ℕ)) → gap_in contents ≡ first_jump None (page_numbers contents)
