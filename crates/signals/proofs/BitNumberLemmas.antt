-- Lemmas on the numbers of bits: a DIS and a DCS are read by them.
use Rattle.std.proofs.Common.{◌≡◌, ℕ, ◌-◌, ◌*◌, ◌/◌, ◌%◌, ◌<◌, ◌≤◌, Bool, true, false, not, cond, ◌&&◌, ◌||◌, nat_eq, nat_le, nat_lt, List}
use Rattle.std.proofs.Common.{[], ◌∷◌, ◌++◌, length, map, drop, take, slice_index, slice_index_or, Contains, Option, Some, None, Ok, refl}
use Rattle.std.proofs.Common.{sym, ◌∙◌, ap, subst, inl, inr, arith}
use Rattle.std.proofs.lemmas.Bool.{cases_Bool, cases_lt, and_parts, and_from, ltb-true, ltb-false}
use Rattle.std.proofs.lemmas.List.{get_or_past}
use Rattle.std.proofs.lemmas.Nat.Bits.{bit_at-zero}
use Rattle.std.proofs.lemmas.Option.{get_or_from_slice_get}
use Rattle.std.specs.Int.{bit_at}
use Rattle.raster.specs.declared.coding.Coding.{Coding}
use Rattle.raster.specs.declared.coding.Coding.TheVariants.{OneDim, T6}
use Rattle.raster.proofs.PackedLemmas.{length-bits_in, slice_get-bits_in}
use Rattle.raster.specs.Octets.{AreOctets}
use Rattle.raster.specs.Packed.{bit_in, bits_of}
use Rattle.raster.specs.declared.packed.Order.TheVariants.{LsbFirst}
use Rattle.signals.proofs.FieldTexts.{speeds-have-texts, modems-have-texts, widths-have-texts}
use Rattle.signals.proofs.WritingLemmas.{same_params, head-read}
use Rattle.signals.proofs.SayingLemmas.{with-enough}
use Rattle.signals.proofs.SendingLemmas.{page-ends-have-texts}
use Rattle.signals.proofs.ControlLemmas.{controls-have-texts}
use Rattle.signals.specs.BitNumbers.{sent_bit, numbered, numbered_from, ModemsShown, widest_texts, DisShows, DcsShows, IsOctetOf}
use Rattle.signals.specs.BitNumbers.{least_octets, FieldsShow, IsReadOf, ReadsByNumber, dis_numbers, dcs_numbers, ReadsNoOthers}
use Rattle.signals.specs.Reading.{field_bit, late_bit, modems_of, speed_of, widest_of, width_of, page_end_of, caps_of, params_at, params_of}
use Rattle.signals.specs.Reading.{dcs_or_other, pps_or_other, with_octets, read_known, read_fields, read_content}
use Rattle.signals.specs.Saying.{has_text}
use Rattle.signals.specs.Sending.{is_t6, page_end_text}
use Rattle.signals.specs.Signals.{PlainSignal, dis, fcd, ppr}
use Rattle.signals.specs.Writing.{head_of}
use Rattle.signals.specs.declared.control.Control.{Control}
use Rattle.signals.specs.declared.control.Control.TheVariants.{Dis, Dcs, Cfr, Ftt, Fcd, Rcp, Pps, Ppr, Mcf, Rnr, Rr, Dcn}
use Rattle.signals.specs.declared.params.Caps.{Caps}
use Rattle.signals.specs.declared.params.Modems.{Modems}
use Rattle.signals.specs.declared.params.Modems.TheVariants.{Fallback, V27, V29, V27V29, V17}
use Rattle.signals.specs.declared.params.PageWidth.{PageWidth}
use Rattle.signals.specs.declared.params.Params.{Params}
use Rattle.signals.specs.declared.params.Speed.{Speed}
use Rattle.signals.specs.declared.signal.PageEnd.{PageEnd}

-- the bit at a place in the bits of octets
placed-bit : (fields : List ℕ) (place : ℕ) → slice_index_or (bits_of LsbFirst fields) place false ≡ bit_in LsbFirst fields place
placed-bit fields place = elim (cases_lt place (8 * length fields)) [ inl within ↦ inside within | inr past ↦ outside past ]
  where
    inside : place < 8 * length fields → slice_index_or (bits_of LsbFirst fields) place false ≡ bit_in LsbFirst fields place
    inside within = get_or_from_slice_get (bits_of LsbFirst fields) place (bit_in LsbFirst fields place) false
        (slice_get-bits_in LsbFirst fields (8 * length fields) place within)

    outside : 8 * length fields ≤ place → slice_index_or (bits_of LsbFirst fields) place false ≡ bit_in LsbFirst fields place
    outside past =
        let none : slice_index fields (place / 8) ≡ 0 = get_or_past fields (place / 8) 0 (omega arith) in
        let over : length (bits_of LsbFirst fields) ≤ place = rw length-bits_in past in
        get_or_past (bits_of LsbFirst fields) place false over
        ∙ sym (ap (λ n. nat_eq (bit_at n (place % 8)) 1) none ∙ ap (λ n. nat_eq n 1) (bit_at-zero (place % 8)))

pub sent-field : (fields : List ℕ) (number : ℕ) → sent_bit fields number ≡ field_bit fields number
unfolding sent_bit
sent-field fields number = placed-bit fields (number - 1)

and-true : (a b : Bool) → (a && (true || b)) ≡ a
and-true true b = refl
and-true false b = refl

and-swap : (a b : Bool) → (a && (false || b)) ≡ (b && a)
and-swap true true = refl
and-swap true false = refl
and-swap false true = refl
and-swap false false = refl

-- a bit up to 24
pub numbered-early : (fields : List ℕ) (number : ℕ) → nat_le number 24 ≡ true → numbered fields number ≡ field_bit fields number
unfolding numbered
numbered-early fields number e =
    ap (λ t. sent_bit fields number && (t || sent_bit fields 24)) e ∙ and-true (sent_bit fields number) (sent_bit fields 24)
    ∙ sent-field fields number

-- a bit from 25 on
pub numbered-late : (fields : List ℕ) (number : ℕ) → nat_le number 24 ≡ false → numbered fields number ≡ late_bit fields number
unfolding numbered
numbered-late fields number e =
    ap (λ t. sent_bit fields number && (t || sent_bit fields 24)) e
    ∙ and-swap (sent_bit fields number) (sent_bit fields 24)
    ∙ ap (λ b. b && sent_bit fields number) (sent-field fields 24)
    ∙ ap (λ b. field_bit fields 24 && b) (sent-field fields number)

pub numbered-four : (fields : List ℕ)
    → numbered_from fields 11 4 ≡ field_bit fields 11 ∷ field_bit fields 12 ∷ field_bit fields 13 ∷ field_bit fields 14 ∷ []
numbered-four fields =
    rw (numbered-early fields 11 refl, numbered-early fields 12 refl, numbered-early fields 13 refl, numbered-early fields 14 refl) refl

pub numbered-two : (fields : List ℕ) → numbered_from fields 17 2 ≡ field_bit fields 17 ∷ field_bit fields 18 ∷ []
numbered-two fields = rw (numbered-early fields 17 refl, numbered-early fields 18 refl) refl

v27-other : V27 ≡ Fallback → ⊥
v27-other e = cc

v29-other : V29 ≡ Fallback → ⊥
v29-other e = cc

v27v29-other : V27V29 ≡ Fallback → ⊥
v27v29-other e = cc

v17-other : V17 ≡ Fallback → ⊥
v17-other e = cc

pub modems-shown : (a b c d : Bool) (modems : Modems) → modems_of a b c d ≡ modems → ModemsShown (a ∷ b ∷ c ∷ d ∷ []) modems
modems-shown a b c d Fallback e = λ others other text. other (sym ((modems-have-texts a b c d others other).1 text) ∙ e)
modems-shown a b c d V27 e = (modems-have-texts a b c d V27 v27-other).0 e
modems-shown a b c d V29 e = (modems-have-texts a b c d V29 v29-other).0 e
modems-shown a b c d V27V29 e = (modems-have-texts a b c d V27V29 v27v29-other).0 e
modems-shown a b c d V17 e = (modems-have-texts a b c d V17 v17-other).0 e

pub widest-shown : (a b : Bool) → Contains (widest_texts (widest_of a b)) (a ∷ b ∷ [])
widest-shown false false = (0, omega arith, refl)
widest-shown true false = (0, omega arith, refl)
widest-shown false true = (0, omega arith, refl)
widest-shown true true = (1, omega arith, refl)

pub dis-shows : (fields : List ℕ) → DisShows fields (caps_of fields)
unfolding caps_of
dis-shows fields = record {
  bit_10_receiver = numbered-early fields 10 refl;
  bits_11_to_14_modems =
      subst (λ bits. ModemsShown bits (caps_of fields).modems) (sym (numbered-four fields))
      (modems-shown (field_bit fields 11) (field_bit fields 12) (field_bit fields 13) (field_bit fields 14) (caps_of fields).modems refl);
  bit_15_fine = numbered-early fields 15 refl;
  bits_17_and_18_widest = subst (λ bits. Contains (widest_texts (caps_of fields).widest) bits) (sym (numbered-two fields))
      (widest-shown (field_bit fields 17) (field_bit fields 18));
  bit_27_error_correction = numbered-late fields 27 refl;
  bit_31_t6 = numbered-late fields 31 refl;
}

beside : (a b : Bool) → (a ≡ true → b ≡ true) → not (a && not b) ≡ true
beside true b h = let e : b ≡ true = h refl in rw e refl
beside false b h = refl

beside-back : (a b : Bool) → not (a && not b) ≡ true → a ≡ true → b ≡ true
beside-back true true e f = refl
beside-back true false e f = cc
beside-back false b e f = cc

coding-of : (coding : Coding) → cond (is_t6 coding) T6 OneDim ≡ coding
coding-of OneDim = refl
coding-of T6 = refl

t6-of : (b : Bool) → is_t6 (cond b T6 OneDim) ≡ b
t6-of true = refl
t6-of false = refl

-- what is known of the parameters that were read
record Parts (inside : Bool) (speed : Option Speed) (width : Option PageWidth) (fields : List ℕ) (params : Params) : Type 0 where
  inside_so : inside ≡ true
  speed_is : speed ≡ Some params.speed
  width_is : width ≡ Some params.width
  fine_is : field_bit fields 15 ≡ params.fine
  coding_is : cond (late_bit fields 31) T6 OneDim ≡ params.coding
  small_is : late_bit fields 28 ≡ params.small

same_some : (a b : Params) → ◌≡◌ {A = Option Params} (Some a) (Some b) → a ≡ b
same_some a b e = cc

none_some : (params : Params) → ◌≡◌ {A = Option Params} None (Some params) → ⊥
none_some params e = cc

parts : (inside : Bool) (speed : Option Speed) (width : Option PageWidth) (fields : List ℕ) (params : Params)
    → cond inside (params_at speed width fields) None ≡ Some params → Parts inside speed width fields params
parts true (Some speed) (Some width) fields params e =
    let same = same_some _ params e in
    record {
      inside_so = refl;
      speed_is = ap (λ p. Some p.speed) same;
      width_is = ap (λ p. Some p.width) same;
      fine_is = ap (λ p. p.fine) same;
      coding_is = ap (λ p. p.coding) same;
      small_is = ap (λ p. p.small) same;
    }
parts true (Some speed) None fields params e = absurd (none_some params e)
parts true None width fields params e = absurd (none_some params e)
parts false speed width fields params e = absurd (none_some params e)

pub params-shows : (fields : List ℕ) (params : Params) → params_of fields ≡ Some params → DcsShows fields params
unfolding params_of
params-shows fields params e =
    let p = parts _ _ _ fields params e in
    let both = and_parts (late_bit fields 27) _ p.inside_so in
    record {
      bits_11_to_14_speed =
          numbered-four fields
          ∙ (speeds-have-texts (field_bit fields 11) (field_bit fields 12) (field_bit fields 13)
          (field_bit fields 14) params.speed).0 p.speed_is;
      bit_15_fine = numbered-early fields 15 refl ∙ p.fine_is;
      bit_16_beside_t6 = λ sixteen. numbered-late fields 31 refl ∙ beside-back (field_bit fields 16) (late_bit fields 31) both.1
          (sym (numbered-early fields 16 refl) ∙ sixteen);
      bits_17_and_18_width =
          numbered-two fields ∙ (widths-have-texts (field_bit fields 17) (field_bit fields 18) params.width).0 p.width_is;
      bit_27_error_correction = numbered-late fields 27 refl ∙ both.0;
      bit_28_small = numbered-late fields 28 refl ∙ p.small_is;
      bit_31_t6 = numbered-late fields 31 refl ∙ sym (t6-of (late_bit fields 31)) ∙ ap is_t6 p.coding_is;
    }

pub shows-params : (fields : List ℕ) (params : Params) → DcsShows fields params → params_of fields ≡ Some params
unfolding params_of
shows-params fields params shows =
    let ecm : late_bit fields 27 ≡ true = sym (numbered-late fields 27 refl) ∙ shows.bit_27_error_correction in
    let sixteen : not (field_bit fields 16 && not (late_bit fields 31)) ≡ true =
    beside (field_bit fields 16) (late_bit fields 31) (λ on. sym (numbered-late fields 31 refl)
    ∙ shows.bit_16_beside_t6 (numbered-early fields 16 refl ∙ on)) in
    let inside = and_from (late_bit fields 27) _ ecm sixteen in
    let speed_is : speed_of (field_bit fields 11) (field_bit fields 12) (field_bit fields 13) (field_bit fields 14) ≡ Some params.speed =
    (speeds-have-texts (field_bit fields 11) (field_bit fields 12) (field_bit fields 13) (field_bit fields 14) params.speed).1
    (sym (numbered-four fields) ∙ shows.bits_11_to_14_speed) in
    let width_is : width_of (field_bit fields 17) (field_bit fields 18) ≡ Some params.width =
    (widths-have-texts (field_bit fields 17) (field_bit fields 18) params.width).1 (sym (numbered-two fields)
    ∙ shows.bits_17_and_18_width) in
    let t6_is : late_bit fields 31 ≡ is_t6 params.coding = sym (numbered-late fields 31 refl) ∙ shows.bit_31_t6 in
    ap (λ b. cond b (params_at (speed_of (field_bit fields 11) (field_bit fields 12) (field_bit fields 13) (field_bit fields 14))
    (width_of (field_bit fields 17) (field_bit fields 18)) fields) None) inside
    ∙ ap (λ s. params_at s (width_of (field_bit fields 17) (field_bit fields 18)) fields) speed_is
    ∙ ap (λ w. params_at (Some params.speed) w fields) width_is
    ∙ ap Some (same_params _ params refl
    (sym (numbered-early fields 15 refl) ∙ shows.bit_15_fine)
    refl
    (ap (λ b. cond b T6 OneDim) t6_is ∙ coding-of params.coding)
    (sym (numbered-late fields 28 refl) ∙ shows.bit_28_small))

pub dcs-shows : (octet : ℕ) (fields : List ℕ) (found : Option Params) → params_of fields ≡ found
    → FieldsShow Dcs octet fields (dcs_or_other octet found)
dcs-shows octet fields (Some params) e = params-shows fields params e
dcs-shows octet fields None e = (refl, λ params shows. none_some params (sym e ∙ shows-params fields params shows))

first-octet : (fields : List ℕ) → AreOctets fields → slice_index fields 0 < 256
first-octet [] octets = omega arith
first-octet (x ∷ xs) octets = octets.0

none_end : (ends : PageEnd) → ◌≡◌ {A = Option PageEnd} None (Some ends) → ⊥
none_end ends e = cc

pub pps-shows : (octet : ℕ) (fields : List ℕ) (found : Option PageEnd) → slice_index fields 0 < 256
    → page_end_of (slice_index fields 0) ≡ found → FieldsShow Pps octet fields (pps_or_other octet found fields)
pps-shows octet fields (Some ends) small e = ((page-ends-have-texts (slice_index fields 0) ends small).0 e, refl, refl, refl)
pps-shows octet fields None small e = (refl, none)
  where
    none : (ends : PageEnd) → has_text (page_end_text ends) (slice_index fields 0) ≡ false
    none ends = elim (cases_Bool (has_text (page_end_text ends) (slice_index fields 0))) [
      | inl text ↦ absurd (none_end ends (sym e ∙ (page-ends-have-texts (slice_index fields 0) ends small).1 text))
      | inr unlike ↦ unlike
    ]

-- a signal that an information field shows is read where it is long enough
shown-read : (control : Control) (octet : ℕ) (fields : List ℕ) (signal : PlainSignal) → FieldsShow control octet fields signal
    → IsReadOf control octet fields (with_octets (least_octets control) fields signal)
shown-read control octet fields signal shows = elim (cases_Bool (nat_lt (length fields) (least_octets control))) [
  | inl short ↦ rw short (ltb-true (length fields) (least_octets control) short, refl)
  | inr long ↦ rw long (ltb-false (length fields) (least_octets control) long, shows)
]

pub known-read : (control : Control) (octet : ℕ) (fields : List ℕ) → AreOctets fields
    → IsReadOf control octet fields (read_known (Some control) octet fields)
known-read Dis octet fields octets = shown-read Dis octet fields (dis (caps_of fields)) (dis-shows fields)
known-read Dcs octet fields octets =
    shown-read Dcs octet fields (dcs_or_other octet (params_of fields)) (dcs-shows octet fields (params_of fields) refl)
known-read Cfr octet fields octets = (omega arith, tt)
known-read Ftt octet fields octets = (omega arith, tt)
known-read Fcd octet fields octets = shown-read Fcd octet fields (fcd (slice_index fields 0) (drop 1 fields)) (refl, refl)
known-read Rcp octet fields octets = (omega arith, tt)
known-read Pps octet fields octets = shown-read Pps octet fields (pps_or_other octet (page_end_of (slice_index fields 0)) fields)
    (pps-shows octet fields (page_end_of (slice_index fields 0)) (first-octet fields octets) refl)
known-read Ppr octet fields octets = shown-read Ppr octet fields (ppr (take 32 fields)) refl
known-read Mcf octet fields octets = (omega arith, tt)
known-read Rnr octet fields octets = (omega arith, tt)
known-read Rr octet fields octets = (omega arith, tt)
known-read Dcn octet fields octets = (omega arith, tt)

-- what is read of a content is what its facsimile control field and its information field say
known-content : (control : Control) (last : Bool) (octet : ℕ) (fields : List ℕ) → IsOctetOf control octet
    → read_content (head_of last octet ++ fields) ≡ read_known (Some control) octet fields
unfolding read_fields
known-content control last octet fields known =
    head-read last octet fields ∙ ap (λ c. read_known c octet fields) ((controls-have-texts octet control known.small).1 known.text)

pub reads-by-number : ReadsByNumber
reads-by-number control last octet fields known octets =
    subst (IsReadOf control octet fields) (sym (known-content control last octet fields known)) (known-read control octet fields octets)

-- the capabilities of the bits that are read of a DIS
abbrev caps_from : List Bool → Caps
caps_from bits = record {
  receiver = slice_index_or bits 0 false;
  modems = modems_of (slice_index_or bits 1 false) (slice_index_or bits 2 false) (slice_index_or bits 3 false)
      (slice_index_or bits 4 false);
  fine = slice_index_or bits 5 false;
  widest = widest_of (slice_index_or bits 6 false) (slice_index_or bits 7 false);
  t6 = slice_index_or bits 9 false;
  ecm = slice_index_or bits 8 false;
}

caps-from : (fields : List ℕ) → caps_from (map (numbered fields) dis_numbers) ≡ caps_of fields
unfolding caps_of
caps-from fields =
    rw (
      numbered-early fields 10 refl,
      numbered-early fields 11 refl,
      numbered-early fields 12 refl,
      numbered-early fields 13 refl,
      numbered-early fields 14 refl,
      numbered-early fields 15 refl,
      numbered-early fields 17 refl,
      numbered-early fields 18 refl,
      numbered-late fields 27 refl,
      numbered-late fields 31 refl,
    ) refl

-- the parameters of a speed, a width and three bits
abbrev params_with : Option Speed → Option PageWidth → Bool → Bool → Bool → Option Params
params_with (Some speed) (Some width) fine t6 small =
    Some (record { speed = speed; fine = fine; width = width; coding = cond t6 T6 OneDim; small = small })
params_with (Some _) None fine t6 small = None
params_with None _ fine t6 small = None

params-with : (speed : Option Speed) (width : Option PageWidth) (fields : List ℕ)
    → params_with speed width (field_bit fields 15) (late_bit fields 31) (late_bit fields 28) ≡ params_at speed width fields
params-with (Some speed) (Some width) fields = refl
params-with (Some speed) None fields = refl
params-with None width fields = refl

-- the parameters of the bits that are read of a DCS
abbrev params_from : List Bool → Option Params
params_from bits =
    cond (slice_index_or bits 8 false && not (slice_index_or bits 5 false && not (slice_index_or bits 10 false)))
    (params_with (speed_of (slice_index_or bits 0 false) (slice_index_or bits 1 false) (slice_index_or bits 2 false)
    (slice_index_or bits 3 false)) (width_of (slice_index_or bits 6 false) (slice_index_or bits 7 false))
    (slice_index_or bits 4 false) (slice_index_or bits 10 false) (slice_index_or bits 9 false))
    None

params-from : (fields : List ℕ) → params_from (map (numbered fields) dcs_numbers) ≡ params_of fields
unfolding params_of
params-from fields =
    rw (
      numbered-early fields 11 refl,
      numbered-early fields 12 refl,
      numbered-early fields 13 refl,
      numbered-early fields 14 refl,
      numbered-early fields 15 refl,
      numbered-early fields 16 refl,
      numbered-early fields 17 refl,
      numbered-early fields 18 refl,
      numbered-late fields 27 refl,
      numbered-late fields 28 refl,
      numbered-late fields 31 refl,
    ) (ap (λ found. cond (late_bit fields 27 && not (field_bit fields 16 && not (late_bit fields 31))) found None)
    (params-with (speed_of (field_bit fields 11) (field_bit fields 12) (field_bit fields 13) (field_bit fields 14))
    (width_of (field_bit fields 17) (field_bit fields 18)) fields))

pub dis-reads-no-others : ReadsNoOthers Dis dis_numbers
dis-reads-no-others last again octet fields others known long long-too same =
    known-content Dis last octet fields known
    ∙ with-enough 3 fields _ _ long refl
    ∙ ap (λ caps. Ok (dis caps)) (sym (caps-from fields) ∙ ap caps_from same ∙ caps-from others)
    ∙ sym (with-enough 3 others _ _ long-too refl)
    ∙ sym (known-content Dis again octet others known)

pub dcs-reads-no-others : ReadsNoOthers Dcs dcs_numbers
dcs-reads-no-others last again octet fields others known long long-too same =
    known-content Dcs last octet fields known
    ∙ with-enough 3 fields _ _ long refl
    ∙ ap (λ found. Ok (dcs_or_other octet found)) (sym (params-from fields) ∙ ap params_from same ∙ params-from others)
    ∙ sym (with-enough 3 others _ _ long-too refl)
    ∙ sym (known-content Dcs again octet others known)
