-- Pages of octets that are turned, as pages of the octets of the file.
use Rattle.std.proofs.Common.{ℕ, ◌≡◌, ◌≢◌, ◌+◌, ◌-◌, ◌*◌, ◌/◌, ◌%◌, ◌<◌, ◌≤◌, ◌∙◌, Bool, true, false, List, [], ap, arith, length, map}
use Rattle.std.proofs.Common.{nat_eq, refl, slice_index, subst, sym, Some, None, inl, inr}
use Rattle.std.specs.Prelude.{◌↔◌, Option, Result}
use Rattle.std.specs.Int.{bit_at, div_ceil, reverse_bits_onto}
use Rattle.std.proofs.lemmas.Bool.{agree_below_at, cases_lt, eqb-true}
use Rattle.std.proofs.lemmas.List.{get_or-map, get_or_past, length-map}
use Rattle.raster.proofs.WordLemmas.{bit_at_turned8}
use Rattle.page_code.specs.Codings.{ReadsIn}
use Rattle.raster.specs.declared.row.Color.{Color}
use Rattle.raster.specs.declared.packed.Order.{Order}
use Rattle.raster.specs.declared.packed.Order.TheVariants.{LsbFirst, MsbFirst}
use Rattle.raster.specs.Packed.{bit_in, bits_of}
use Rattle.raster.specs.Words.{turned_octet}
use Rattle.page_code.proofs.TurnedOctets.{turned_back}
use Rattle.page_code.specs.declared.page_reader.RefusedCode.{RefusedCode}
use Rattle.raster.specs.declared.coding.Coding.{Coding}
use Rattle.raster.specs.declared.coding.Coding.TheVariants.{OneDim, T6}
use Rattle.page_files.specs.Answers.{TellsPage}
use Rattle.page_files.specs.CodedPages.{DecodesPage, RefusesCode, RefusesShow, SalvagesRows}
use Rattle.page_files.specs.Decodings.{GivesPage, GivesRepaired, RefusesDecoding, RefusesKept, RefusesRepaired}
use Rattle.page_files.specs.TurnedPages.{in_msb, msb_form}
use Rattle.page_files.specs.Marks.{end_of_mark, mark_end}
use Rattle.page_files.specs.LaterPages.{AfterMark, AfterPage, BeginsWith, IsFrom, IsLater, IsLaterIn, IsLaterT6}
use Rattle.page_files.specs.PageEnds.{HasItsEnd, LacksEnd, gaps}
use Rattle.page_files.specs.Repairs.{RefusesRepair, RepairsPage}
use Rattle.page_files.specs.RepairsT6.{BreaksOff, EndsWithoutEofb, RepairsT6}
use Rattle.page_files.specs.declared.decoding.Broken.{Broken}
use Rattle.page_files.specs.declared.decoding.Broken.TheVariants.{Nothing, WholeRows, AllRows}
use Rattle.page_files.specs.declared.decoding.ReadTo.{ReadTo}
use Rattle.page_files.specs.declared.decoding.ReadTo.TheVariants.{End, Fault, Lines, NoEnd}
use Rattle.page_files.specs.declared.options.DecodeOptions.{DecodeOptions}
use Rattle.page_files.specs.declared.options.PageForm.{PageForm}
use Rattle.page_files.specs.declared.repair.Repair.{Repair}
use Rattle.faults.specs.declared.fault.ToolFault.{ToolFault}

-- the octets of the file have the bits of those that are turned
pub same_bits : (order : Order) (octets : List ℕ) → bits_of order (in_msb order octets) ≡ bits_of MsbFirst octets
same_bits MsbFirst octets = refl
same_bits LsbFirst octets = turned_back octets

pub same_length : (order : Order) (octets : List ℕ) → length (in_msb order octets) ≡ length octets
same_length MsbFirst octets = refl
same_length LsbFirst octets = length-map octets turned_octet

-- an octet that is turned, also past the end
turned_at : (octets : List ℕ) (j : ℕ) → slice_index (map turned_octet octets) j ≡ turned_octet (slice_index octets j)
unfolding reverse_bits_onto
turned_at octets j = elim (cases_lt j (length octets)) [
  | inl there ↦ get_or-map turned_octet octets j 0 0 there
  | inr past ↦
      let long : length (map turned_octet octets) ≤ j = omega (arith, past, length-map octets turned_octet) in
      get_or_past (map turned_octet octets) j 0 long ∙ ap turned_octet (sym (get_or_past octets j 0 past))
]

-- a bit of them
pub same_bit : (order : Order) (octets : List ℕ) (k : ℕ) → bit_in order (in_msb order octets) k ≡ bit_in MsbFirst octets k
same_bit MsbFirst octets k = refl
same_bit LsbFirst octets k =
    let place : 7 - (7 - k % 8) ≡ k % 8 = omega arith in
    ap (λ x. nat_eq x 1) (ap (λ octet. bit_at octet (k % 8)) (turned_at octets (k / 8))
    ∙ (ap (bit_at (turned_octet (slice_index octets (k / 8)))) (sym place)
    ∙ bit_at_turned8 (slice_index octets (k / 8)) (7 - k % 8) (omega arith)))

-- an octet that is turned is 0 where it was 0, and only there
turned_zero : (octet : ℕ) → octet < 256 → nat_eq (turned_octet octet) 0 ≡ nat_eq octet 0
unfolding reverse_bits_onto
turned_zero octet small = agree_below_at (λ n. nat_eq (turned_octet n) 0) (λ n. nat_eq n 0) 256 octet refl small

pub zero_at : (order : Order) (octets : List ℕ) (k : ℕ) → ((j : ℕ) → slice_index octets j < 256)
    → nat_eq (slice_index (in_msb order octets) k) 0 ≡ nat_eq (slice_index octets k) 0
zero_at MsbFirst octets k small = refl
zero_at LsbFirst octets k small = ap (λ x. nat_eq x 0) (turned_at octets k) ∙ turned_zero (slice_index octets k) (small k)

stays_zero : (order : Order) (octets : List ℕ) (k : ℕ) → ((j : ℕ) → slice_index octets j < 256)
    → slice_index octets k ≡ 0 → slice_index (in_msb order octets) k ≡ 0
stays_zero order octets k small is =
    eqb-true (slice_index (in_msb order octets) k) 0 (zero_at order octets k small ∙ ap (λ x. nat_eq x 0) is)

stays_some : (order : Order) (octets : List ℕ) (k : ℕ) → ((j : ℕ) → slice_index octets j < 256)
    → slice_index octets k ≢ 0 → slice_index (in_msb order octets) k ≢ 0
stays_some order octets k small not is =
    not (eqb-true (slice_index octets k) 0 (sym (zero_at order octets k small) ∙ ap (λ x. nat_eq x 0) is))

-- the page that follows one of T.6
later_t6 : (order : Order) (octets : List ℕ) (from : ℕ) (start : Option ℕ) → ((j : ℕ) → slice_index octets j < 256)
    → IsLaterT6 from octets start → IsLaterT6 from (in_msb order octets) start
later_t6 order octets from (Some start) small later = (
  later.0,
  later.1,
  later.2,
  omega (arith, later.3, same_length order octets),
  stays_some order octets later.0 small later.4,
  λ k past before. stays_zero order octets k small (later.5 k past before),
)
later_t6 order octets from None small later =
    λ k past within. stays_zero order octets k small (later k past (omega (arith, within, same_length order octets)))

is_later : (coding : Coding) (order : Order) (octets : List ℕ) (used : ℕ) (start : Option ℕ) → ((j : ℕ) → slice_index octets j < 256)
    → IsLaterIn coding MsbFirst octets used start → IsLaterIn coding order (in_msb order octets) used start
is_later OneDim order octets used start small later = rw (same_bits order octets) later
is_later T6 order octets used start small later = later_t6 order octets (div_ceil used 8) start small later

-- the octets from a bit on
is_from : (order : Order) (start : ℕ) (octets later : List ℕ) → IsFrom MsbFirst start octets later
    → IsFrom order start (in_msb order octets) (in_msb order later)
is_from order start octets later from = record {
  size = omega (arith, from.size, same_length order octets, same_length order later);
  fill = λ k h. same_bit order later k ∙ from.fill k h;
  same = λ k h. same_bit order later k ∙ (from.same k h ∙ sym (same_bit order octets (8 * (start / 8) + k)));
}

-- another page follows
pub after_page : (form : PageForm) (octets later : List ℕ) (used start : ℕ) → ((j : ℕ) → slice_index octets j < 256)
    → BeginsWith (msb_form form) octets used → IsLater (msb_form form) octets used (Some start) → IsFrom MsbFirst start octets later
    → AfterPage true form (in_msb form.order octets) (in_msb form.order later)
after_page form octets later used start small begins is from = (
  used,
  start,
  rw (same_bits form.order octets) begins,
  is_later form.coding form.order octets used (Some start) small is,
  is_from form.order start octets later from,
)

-- the page that turned octets begin with
pub turned_page : (form : PageForm) (octets : List ℕ) (used : ℕ) → BeginsWith form (in_msb form.order octets) used
    → BeginsWith (msb_form form) octets used
turned_page form octets used begins =
    subst (λ (x : List Bool). (rows : List (List Color)) × ReadsIn form.coding form.width x rows used) (same_bits form.order octets) begins

-- none follows
pub last_page : (form : PageForm) (octets : List ℕ) (used : ℕ) → ((j : ℕ) → slice_index octets j < 256)
    → BeginsWith (msb_form form) octets used → IsLater (msb_form form) octets used None
    → AfterPage false form (in_msb form.order octets) (in_msb form.order octets)
last_page form octets used small begins is = (
  used,
  rw (same_bits form.order octets) begins,
  is_later form.coding form.order octets used None small is,
  refl,
)

-- the mark of a page's end
pub same_mark : (form : PageForm) (octets : List ℕ) → end_of_mark form (in_msb form.order octets) ≡ end_of_mark (msb_form form) octets
same_mark form octets = ap (λ (x : List Bool). mark_end form.coding 0 (gaps 0 x)) (same_bits form.order octets)

-- another page follows the mark
pub after_mark : (form : PageForm) (octets later : List ℕ) (used start : ℕ) → ((j : ℕ) → slice_index octets j < 256)
    → end_of_mark (msb_form form) octets ≡ Some used → IsLater (msb_form form) octets used (Some start)
    → IsFrom MsbFirst start octets later → AfterMark true form (in_msb form.order octets) (in_msb form.order later)
after_mark form octets later used start small mark is from = (
  used,
  start,
  same_mark form octets ∙ mark,
  is_later form.coding form.order octets used (Some start) small is,
  is_from form.order start octets later from,
)

-- none follows it
pub last_marked : (form : PageForm) (octets : List ℕ) (used : ℕ) → ((j : ℕ) → slice_index octets j < 256)
    → end_of_mark (msb_form form) octets ≡ Some used → IsLater (msb_form form) octets used None
    → AfterMark false form (in_msb form.order octets) (in_msb form.order octets)
last_marked form octets used small mark is =
    (used, same_mark form octets ∙ mark, is_later form.coding form.order octets used None small is, refl)

-- a refusal
pub refuses_code : (coding : Coding) (order : Order) (width : ℕ) (octets : List ℕ) (fault : ToolFault)
    → RefusesCode coding MsbFirst width octets fault → RefusesCode coding order width (in_msb order octets) fault
refuses_code coding order width octets fault refuses = record {
  code_fault = refuses.code_fault;
  refuses = rw (same_bits order octets) refuses.refuses;
  other = refuses.other;
  is = refuses.is;
}

pub refuses_kept : (kept : Option RefusedCode) (form : PageForm) (octets : List ℕ) (fault : ToolFault)
    → RefusesKept kept (msb_form form) octets fault → RefusesKept kept form (in_msb form.order octets) fault
refuses_kept None form octets fault refuses = refuses
refuses_kept (Some code) form octets fault refuses = (refuses.0, refuses_code form.coding form.order form.width octets fault refuses.1)

-- ---- what decoding gives

decodes_page : (coding : Coding) (order : Order) (width : ℕ) (fine : Bool) (before after : Option (List ℕ)) (rows used : ℕ)
    (octets : List ℕ) → DecodesPage coding MsbFirst width fine before after rows used octets
    → DecodesPage coding order width fine before after rows used (in_msb order octets)
decodes_page coding order width fine before after rows used octets decodes = record {
  page = decodes.page;
  read = rw (same_bits order octets) decodes.read;
  rows_are = decodes.rows_are;
  written = decodes.written;
}

salvages_rows : (coding : Coding) (order : Order) (width : ℕ) (fine : Bool) (before after : Option (List ℕ)) (rows : ℕ)
    (fault : ToolFault) (octets : List ℕ) → SalvagesRows coding MsbFirst width fine before after rows fault octets
    → SalvagesRows coding order width fine before after rows fault (in_msb order octets)
salvages_rows coding order width fine before after rows fault octets salvages = record {
  refused = refuses_code coding order width octets fault salvages.refused;
  page = salvages.page;
  width_is = salvages.width_is;
  fine_is = salvages.fine_is;
  whole = rw (same_bits order octets) salvages.whole;
  rows_are = salvages.rows_are;
  written = salvages.written;
  not_written = salvages.not_written;
}

repairs_page : (order : Order) (width : ℕ) (fine : Bool) (before after lines_before lines_after : Option (List ℕ)) (repair : Repair)
    (octets : List ℕ) → RepairsPage MsbFirst width fine before after lines_before lines_after repair octets
    → RepairsPage order width fine before after lines_before lines_after repair (in_msb order octets)
repairs_page order width fine before after lines_before lines_after repair octets repairs = record {
  page = repairs.page;
  repaired = repairs.repaired;
  width_is = repairs.width_is;
  fine_is = repairs.fine_is;
  gives = rw (same_bits order octets) repairs.gives;
  some = repairs.some;
  rows_are = repairs.rows_are;
  repaired_are = repairs.repaired_are;
  written = repairs.written;
  listed = repairs.listed;
}

ends_without_eofb : (order : Order) (width : ℕ) (fine : Bool) (before after : Option (List ℕ)) (rows bit : ℕ) (octets : List ℕ)
    → EndsWithoutEofb MsbFirst width fine before after rows bit octets
    → EndsWithoutEofb order width fine before after rows bit (in_msb order octets)
ends_without_eofb order width fine before after rows bit octets ends = record {
  fault = ends.fault;
  refused = refuses_code T6 order width octets ends.fault ends.refused;
  page = ends.page;
  width_is = ends.width_is;
  fine_is = ends.fine_is;
  whole = rw (same_bits order octets) ends.whole;
  there = rw (same_bits order octets) ends.there;
  ends = rw (same_bits order octets) ends.ends;
  some = ends.some;
  rows_are = ends.rows_are;
  written = ends.written;
}

breaks_off : (order : Order) (width : ℕ) (fine : Bool) (before after : Option (List ℕ)) (rows : ℕ) (fault : ToolFault) (octets : List ℕ)
    → BreaksOff MsbFirst width fine before after rows fault octets
    → BreaksOff order width fine before after rows fault (in_msb order octets)
unfolding salvages_rows
breaks_off order width fine before after rows fault octets breaks = record {
  salvaged = salvages_rows T6 order width fine before after rows fault octets breaks.salvaged;
  lost = rw (same_bits order octets) breaks.lost;
}

repairs_t6 : (form : PageForm) (octets : List ℕ) (read_to : ReadTo) (rows : ℕ) (image lines : List ℕ)
    → RepairsT6 (msb_form form) octets read_to rows image lines → RepairsT6 form (in_msb form.order octets) read_to rows image lines
repairs_t6 form octets (End bits) rows image lines given =
    (decodes_page T6 form.order form.width form.fine (Some []) (Some image) rows bits octets given.0, given.1)
repairs_t6 form octets (NoEnd bit) rows image lines given =
    (ends_without_eofb form.order form.width form.fine (Some []) (Some image) rows bit octets given.0, given.1)
repairs_t6 form octets (Fault fault) rows image lines given =
    (breaks_off form.order form.width form.fine (Some []) (Some image) rows fault octets given.0, given.1)
repairs_t6 form octets (Lines count) rows image lines given = given

gives_repaired : (coding : Coding) (form : PageForm) (octets : List ℕ) (read_to : ReadTo) (rows : ℕ) (image lines : List ℕ)
    → GivesRepaired coding (msb_form form) octets read_to rows image lines
    → GivesRepaired coding form (in_msb form.order octets) read_to rows image lines
gives_repaired OneDim form octets (Lines count) rows image lines given =
    repairs_page form.order form.width form.fine (Some []) (Some image) (Some []) (Some lines) (record { rows = rows; repaired = count })
    octets given
gives_repaired OneDim form octets (End bits) rows image lines given = given
gives_repaired OneDim form octets (NoEnd bit) rows image lines given = given
gives_repaired OneDim form octets (Fault fault) rows image lines given = given
gives_repaired T6 form octets read_to rows image lines given = repairs_t6 form octets read_to rows image lines given

pub gives_page : (broken : Broken) (form : PageForm) (octets : List ℕ) (read_to : ReadTo) (rows : ℕ) (image lines : List ℕ)
    → GivesPage broken (msb_form form) octets read_to rows image lines
    → GivesPage broken form (in_msb form.order octets) read_to rows image lines
gives_page Nothing form octets (End bits) rows image lines given =
    (decodes_page form.coding form.order form.width form.fine (Some []) (Some image) rows bits octets given.0, given.1)
gives_page Nothing form octets (NoEnd bit) rows image lines given = given
gives_page Nothing form octets (Fault fault) rows image lines given = given
gives_page Nothing form octets (Lines count) rows image lines given = given
gives_page WholeRows form octets (End bits) rows image lines given =
    (decodes_page form.coding form.order form.width form.fine (Some []) (Some image) rows bits octets given.0, given.1)
gives_page WholeRows form octets (Fault fault) rows image lines given =
    (salvages_rows form.coding form.order form.width form.fine (Some []) (Some image) rows fault octets given.0, given.1)
gives_page WholeRows form octets (NoEnd bit) rows image lines given = given
gives_page WholeRows form octets (Lines count) rows image lines given = given
gives_page AllRows form octets read_to rows image lines given = gives_repaired form.coding form octets read_to rows image lines given

refuses_repair : (order : Order) (width : ℕ) (octets : List ℕ) (fault : ToolFault) → RefusesRepair MsbFirst width octets fault
    → RefusesRepair order width (in_msb order octets) fault
refuses_repair order width octets fault (inl outside) = inl outside
refuses_repair order width octets fault (inr refuses) = inr (record {
  code_fault = refuses.code_fault;
  refuses = rw (same_bits order octets) refuses.refuses;
  other = refuses.other;
  is = refuses.is;
})

refuses_repaired : (coding : Coding) (form : PageForm) (octets : List ℕ) (fault : ToolFault)
    → RefusesRepaired coding (msb_form form) octets fault → RefusesRepaired coding form (in_msb form.order octets) fault
refuses_repaired OneDim form octets fault refuses = refuses_repair form.order form.width octets fault refuses
refuses_repaired T6 form octets fault refuses = refuses

refuses_show : (coding : Coding) (order : Order) (width : ℕ) (octets : List ℕ) (fault : ToolFault)
    → RefusesShow coding MsbFirst width octets fault → RefusesShow coding order width (in_msb order octets) fault
refuses_show coding order width octets fault (inl outside) = inl outside
refuses_show coding order width octets fault (inr refuses) = inr (refuses_code coding order width octets fault refuses)

pub refuses_decoding : (broken : Broken) (form : PageForm) (octets : List ℕ) (fault : ToolFault)
    → RefusesDecoding broken (msb_form form) octets fault → RefusesDecoding broken form (in_msb form.order octets) fault
refuses_decoding Nothing form octets fault refuses = refuses_show form.coding form.order form.width octets fault refuses
refuses_decoding WholeRows form octets fault refuses = refuses
refuses_decoding AllRows form octets fault refuses = refuses_repaired form.coding form octets fault refuses

has_its_end : (coding : Coding) (order : Order) (octets : List ℕ) (bits : ℕ)
    → HasItsEnd coding MsbFirst octets bits ↔ HasItsEnd coding order (in_msb order octets) bits
has_its_end OneDim order octets bits = (λ h. rw (same_bits order octets) h, λ h. rw (same_bits order octets) at h)
has_its_end T6 order octets bits = (λ h. h, λ h. h)

pub tells_page : (form : PageForm) (options : DecodeOptions) (octets : List ℕ) (read_to : ReadTo) (rows : ℕ) (lines told : List ℕ)
    (end : Result Bool ToolFault) → TellsPage (msb_form form) options octets read_to rows lines told end
    → TellsPage form options (in_msb form.order octets) read_to rows lines told end
tells_page form options octets (End bits) rows lines told end tells =
    let alike = has_its_end form.coding form.order octets bits in (
      tells.0,
      (λ h. alike.0 (tells.1.0 h), λ h. tells.1.1 (alike.1 h)),
      rw (same_length form.order octets) tells.2,
      tells.3,
    )
tells_page form options octets (Lines count) rows lines told end tells = rw (same_bits form.order octets) tells
tells_page form options octets (NoEnd bit) rows lines told end tells = tells
tells_page form options octets (Fault fault) rows lines told end tells = tells

pub lacks_end : (form : PageForm) (octets : List ℕ) (read_to : ReadTo) (lacks : Bool) → LacksEnd (msb_form form) octets read_to lacks
    → LacksEnd form (in_msb form.order octets) read_to lacks
lacks_end form octets (End bits) lacks read =
    let alike = has_its_end form.coding form.order octets bits in
    (read.0, (λ h. alike.0 (read.1.0 h), λ h. read.1.1 (alike.1 h)), read.2)
lacks_end form octets (NoEnd bit) lacks read = read
lacks_end form octets (Lines repaired) lacks read = rw (same_bits form.order octets) read
lacks_end form octets (Fault fault) lacks read = read
