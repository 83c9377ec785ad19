-- Rows whose octets are in one list.
use Rattle.std.proofs.Common.{◌≡◌, ℕ, ◌+◌, ◌-◌, get_or, ◌*◌, ◌/◌, ◌%◌, ◌≤◌, ◌<◌, inl, inr, List, [], ◌∷◌, ◌++◌, length, length-append, take, drop, refl, sym, ap, ◌∙◌, arith, append_assoc, replicate}
use Rattle.std.proofs.Common.{Some, None, set, slice_get, subst}
use Rattle.std.specs.Prelude.{All, Bool, Option}
use Rattle.std.specs.Int.{bit_at}
use Rattle.std.specs.Option.{option_map}
use Rattle.std.proofs.Math.Seq.{drop-append_seam, take-append-add}
use Rattle.std.proofs.lemmas.Bool.{cases_lt}
use Rattle.std.proofs.lemmas.List.{append-nil, length-map, length-replicate, length-take-le, map-append, take-append-le, take_all, drop-append-le, length-drop, take-take, take_at, get_or-append_right, length-set, set-append_right}
use Rattle.std.proofs.lemmas.List.Elements.{All-cons, All-nil, All-get_or, All-head, All-push, All-tail, All-weaker}
use Rattle.std.proofs.lemmas.Option.{slice_get-get_or, slice_get-map}
use Rattle.raster.specs.declared.packed.Order.TheVariants.{MsbFirst}
use Rattle.raster.specs.declared.page.RowAt.{RowAt}
use Rattle.raster.specs.declared.row.Color.{Color}
use Rattle.raster.specs.Appending.{AppendsKept, AppendsRow, CutsLast}
use Rattle.raster.specs.Packed.{AreAlike, AreKept, IsPacked, bits_in, kept_bits, place_in}
use Rattle.raster.specs.Pixels.{colors}
use Rattle.raster.specs.Stored.{AreStored, IsStored, Pushed, PushedAgain, row_octets, stored_row, stored_rows}
use Rattle.raster.proofs.AlikeLemmas.{length-kept_bits}
use Rattle.raster.proofs.PackedLemmas.{bit_in-past, bit_in-take, bits_in-same, kept_cut, length-bits_in, packed_cut, packed_whole}
use Rattle.raster.proofs.RowLemmas.{length-colors}

pub length-stored_rows : (width : ℕ) (octets : List ℕ) (places : List RowAt) → length (stored_rows width octets places) ≡ length places
unfolding stored_rows
length-stored_rows width octets places = length-map places (stored_row width octets)

pub stored_rows-none : (width : ℕ) (octets : List ℕ) → stored_rows width octets [] ≡ []
unfolding stored_rows
stored_rows-none width octets = refl

pub stored_rows-empty : (width : ℕ) (octets : List ℕ) (places : List RowAt) → length places ≡ 0 → stored_rows width octets places ≡ []
stored_rows-empty width octets [] none = stored_rows-none width octets
stored_rows-empty width octets (at ∷ places) none = absurd (omega arith)

pub stored_rows-cons : (width : ℕ) (octets : List ℕ) (at : RowAt) (places : List RowAt)
    → stored_rows width octets (at ∷ places) ≡ stored_row width octets at ∷ stored_rows width octets places
unfolding stored_rows
stored_rows-cons width octets at places = refl

pub length-stored_row : (width : ℕ) (octets : List ℕ) (at : RowAt) → length (stored_row width octets at) ≡ width
unfolding stored_row
length-stored_row width octets at =
    length-colors (kept_bits at.alike MsbFirst (row_octets octets at) width) ∙
    length-kept_bits at.alike MsbFirst (row_octets octets at) width

pub stored_row-is-colors : (width : ℕ) (octets : List ℕ) (at : RowAt)
    → colors (kept_bits at.alike MsbFirst (row_octets octets at) width) ≡ stored_row width octets at
unfolding stored_row
stored_row-is-colors width octets at = refl

pub slice_get-stored_rows : (width : ℕ) (octets : List ℕ) (places : List RowAt) (k : ℕ) (at : RowAt) → slice_get places k ≡ Some at
    → slice_get (stored_rows width octets places) k ≡ Some (stored_row width octets at)
unfolding stored_rows
slice_get-stored_rows width octets places k at e =
    slice_get-map (stored_row width octets) places k ∙ ap (option_map (stored_row width octets)) e

pub slice_get-stored_rows-at : (width : ℕ) (octets : List ℕ) (places : List RowAt) (k : ℕ) (d : RowAt) → k < length places
    → slice_get (stored_rows width octets places) k ≡ Some (stored_row width octets (get_or places k d))
slice_get-stored_rows-at width octets places k d h =
    slice_get-stored_rows width octets places k (get_or places k d) (slice_get-get_or places k d h)

pub all_wide : (width : ℕ) (octets : List ℕ) (places : List RowAt) → All (λ row. length row ≡ width) (stored_rows width octets places)
all_wide width octets [] = rw stored_rows-none (All-nil (λ (row : List Color). length row ≡ width))
all_wide width octets (at ∷ places) =
    rw stored_rows-cons (All-cons (λ (row : List Color). length row ≡ width) (stored_row width octets at) (stored_rows width octets places)
    (length-stored_row width octets at) (all_wide width octets places))

pub ruleset stored = (length-stored_rows, stored_rows-none, length-stored_row, all_wide)

-- ---- more octets after those of the rows

row_octets-more : (octets more : List ℕ) (at : RowAt) → at.start ≤ at.end → at.end ≤ length octets
    → row_octets (octets ++ more) at ≡ row_octets octets at
row_octets-more octets more at rising h =
    ap (take (at.end - at.start)) (drop-append-le at.start octets more (omega arith)) ∙
    take-append-le (at.end - at.start) (drop at.start octets) more (omega (arith, length-drop at.start octets))

stored_row-more : (width : ℕ) (octets more : List ℕ) (at : RowAt) → at.start ≤ at.end → at.end ≤ length octets
    → stored_row width (octets ++ more) at ≡ stored_row width octets at
unfolding stored_row
stored_row-more width octets more at rising h =
    ap (λ (xs : List ℕ). colors (kept_bits at.alike MsbFirst xs width)) (row_octets-more octets more at rising h)

stored_rows-more : (width : ℕ) (octets more : List ℕ) (places : List RowAt) → All (IsStored width octets) places
    → stored_rows width (octets ++ more) places ≡ stored_rows width octets places
stored_rows-more width octets more [] each = stored_rows-none width (octets ++ more) ∙ sym (stored_rows-none width octets)
stored_rows-more width octets more (at ∷ places) each =
    let first : IsStored width octets at = All-head (IsStored width octets) at places each in
    stored_rows-cons width (octets ++ more) at places ∙
    (ap (λ (row : List Color). row ∷ stored_rows width (octets ++ more) places) (stored_row-more width octets more at first.rising first.within) ∙
    (ap (λ (rows : List (List Color)). stored_row width octets at ∷ rows)
    (stored_rows-more width octets more places (All-tail (IsStored width octets) at places each)) ∙
    sym (stored_rows-cons width octets at places)))

still_stored : (width : ℕ) (octets more : List ℕ) (at : RowAt) → IsStored width octets at → IsStored width (octets ++ more) at
still_stored width octets more at is = record {
  rising = is.rising;
  within = omega (arith, is.within, length-append octets more);
  kept = subst (λ (xs : List ℕ). AreKept at.alike MsbFirst xs width) (sym (row_octets-more octets more at is.rising is.within)) is.kept;
}

-- ---- a row that is appended

last_octets : (octets more : List ℕ) (alike : Option Bool) → row_octets (octets ++ more) (record {
  alike = alike;
  start = length octets;
  end = length (octets ++ more);
}) ≡ more
last_octets octets more alike =
    ap (take (length (octets ++ more) - length octets)) (drop-append_seam octets more) ∙
    take_all (length (octets ++ more) - length octets) more (omega (arith, length-append octets more))

stored_rows-push : (width : ℕ) (octets : List ℕ) (places : List RowAt) (at : RowAt)
    → stored_rows width octets (places ++ at ∷ []) ≡ stored_rows width octets places ++ stored_row width octets at ∷ []
unfolding stored_rows
stored_rows-push width octets places at = map-append (stored_row width octets) places (at ∷ [])

stored_row-is : (width : ℕ) (octets more : List ℕ) (at : RowAt) (row : List Color) → row_octets octets at ≡ more
    → row ≡ colors (kept_bits at.alike MsbFirst more width) → stored_row width octets at ≡ row
unfolding stored_row
stored_row-is width octets more at row e is =
    ap (λ (xs : List ℕ). colors (kept_bits at.alike MsbFirst xs width)) e ∙ sym is

pub push_stored : (width : ℕ) (row : List Color) (octets new : List ℕ) (places : List RowAt) (alike : Option Bool) → length row ≡ width
    → AreStored width octets places → length places < 20000 → AppendsRow row octets new alike
    → Pushed width row octets new places (places ++ record { alike = alike; start = length octets; end = length new } ∷ [])
push_stored width row octets new places alike long stored room appends =
    let more = appends.octets in
    let at : RowAt = record { alike = alike; start = length octets; end = length (octets ++ more) } in
    let last : row_octets (octets ++ more) at ≡ more = last_octets octets more alike in
    let kept : AreKept alike MsbFirst more width = subst (λ (n : ℕ). AreKept alike MsbFirst more n) long appends.kept in
    let are : row ≡ colors (kept_bits alike MsbFirst more width) =
    appends.are ∙ ap (λ (n : ℕ). colors (kept_bits alike MsbFirst more n)) long in
    let is : IsStored width (octets ++ more) at = record {
      rising = omega (arith, length-append octets more);
      within = omega arith;
      kept = subst (λ (xs : List ℕ). AreKept alike MsbFirst xs width) (sym last) kept;
    } in
    rw appends.appended (record {
      stored = record {
        wide = stored.wide;
        few = omega (arith, length-append places (at ∷ []), room);
        short = omega (arith, length-append places (at ∷ []), length-append octets more, stored.short, appends.few);
        each = All-push (IsStored width (octets ++ more)) places at
            (All-weaker (IsStored width octets) (IsStored width (octets ++ more)) (still_stored width octets more) places stored.each)
            is;
      };
      rows = stored_rows-push width (octets ++ more) places at ∙
          (ap (λ (rows : List (List Color)). rows ++ stored_row width (octets ++ more) at ∷ [])
          (stored_rows-more width octets more places stored.each) ∙
          ap (λ (r : List Color). stored_rows width octets places ++ r ∷ [])
          (stored_row-is width (octets ++ more) more at row last are));
    })

-- ---- a row that stands twice

pub push_same : (width : ℕ) (octets : List ℕ) (places : List RowAt) (k : ℕ) (at : RowAt) → AreStored width octets places
    → length places < 20000 → k < length places → at ≡ get_or places k at
    → PushedAgain width k octets octets places (places ++ at ∷ [])
push_same width octets places k at stored room within is = (
  stored_row width octets at,
  slice_get-stored_rows-at width octets places k at within ∙ ap (λ (a : RowAt). Some (stored_row width octets a)) (sym is),
  record {
    stored = record {
      wide = stored.wide;
      few = omega (arith, length-append places (at ∷ []), room);
      short = omega (arith, length-append places (at ∷ []), stored.short);
      each = All-push (IsStored width octets) places at stored.each
          (subst (IsStored width octets) (sym is) (All-get_or (IsStored width octets) places k at within stored.each));
    };
    rows = stored_rows-push width octets places at;
  },
)

-- ---- the octets of bits

pub packed_take : (octets : List ℕ) (count n : ℕ) → IsPacked MsbFirst octets count → n ≡ (count + 7) / 8
    → IsPacked MsbFirst (take n octets) count
packed_take octets count n packed n-is =
    let part : length (take n octets) ≡ n = length-take-le n octets (omega (arith, packed.room, n-is)) in
    record {
      room = omega (arith, part, n-is);
      clear = λ place h. elim (cases_lt place (8 * n)) [
        | inl low ↦ bit_in-take MsbFirst octets n place low ∙ packed.clear place h
        | inr past ↦ bit_in-past MsbFirst (take n octets) place (omega (arith, part))
      ];
    }

pub append_kept : (bits : List Bool) (octets old new : List ℕ) (count n : ℕ) → bits_in MsbFirst octets count ≡ bits
    → IsPacked MsbFirst octets count → n ≡ (count + 7) / 8 → length bits ≤ 2432 → new ≡ old ++ take n octets
    → AppendsKept bits (length bits) old new None
append_kept bits octets old new count n is packed n-is small grown =
    let long : length bits ≡ count = ap length (sym is) ∙ length-bits_in MsbFirst octets count in
    let part : length (take n octets) ≡ n = length-take-le n octets (omega (arith, packed.room, n-is)) in
    rw long (record {
      octets = take n octets;
      appended = grown;
      few = omega (arith, part, n-is, small, long);
      kept = packed_take octets count n packed n-is;
      are = sym is ∙
          bits_in-same MsbFirst octets (take n octets) count (λ k h. sym (bit_in-take MsbFirst octets n k (omega (arith, n-is))));
    })

-- the list of what is left after some items
pub list_taken : {A : Type 0} (taken rest next all : List A) (x : A) → taken ++ rest ≡ all → rest ≡ x ∷ next → (taken ++ x ∷ []) ++ next ≡ all
list_taken taken rest next all x whole first =
    append_assoc taken (x ∷ []) next ∙ (ap (λ (xs : List _). taken ++ xs) (sym first) ∙ whole)

pub list_ended : {A : Type 0} (taken rest all : List A) → taken ++ rest ≡ all → rest ≡ [] → taken ≡ all
list_ended taken rest all whole none = sym (append-nil taken) ∙ (ap (λ (xs : List _). taken ++ xs) (sym none) ∙ whole)

-- a row's octets, whose number of pixels is known
appends_at : (row : List Color) (old new octets : List ℕ) (alike : Option Bool) (count : ℕ) → length row ≡ count → new ≡ old ++ octets
    → length octets ≤ 304 → AreKept alike MsbFirst octets count → row ≡ colors (kept_bits alike MsbFirst octets count)
    → AppendsRow row old new alike
appends_at row old new octets alike count long grown few kept are = record {
  octets = octets;
  appended = grown;
  few = few;
  kept = subst (λ (n : ℕ). AreKept alike MsbFirst octets n) (sym long) kept;
  are = are ∙ ap (λ (n : ℕ). colors (kept_bits alike MsbFirst octets n)) (sym long);
}

-- pixels that bits mean are as many
pub as_many : (row : List Color) (octets : List ℕ) (width : ℕ) → colors (bits_in MsbFirst octets width) ≡ row → length row ≡ width
as_many row octets width is = ap length (sym is) ∙ (length-colors (bits_in MsbFirst octets width) ∙ length-bits_in MsbFirst octets width)

-- the octets of a painted row
pub append_painted : (row : List Color) (painted old new : List ℕ) (width n : ℕ) → colors (bits_in MsbFirst painted width) ≡ row
    → IsPacked MsbFirst painted width → n ≡ (width + 7) / 8 → width ≤ 2432 → new ≡ old ++ take n painted → AppendsRow row old new None
append_painted row painted old new width n is packed n-is small grown =
    let part : length (take n painted) ≡ n = length-take-le n painted (omega (arith, packed.room, n-is)) in
    appends_at row old new (take n painted) None width (as_many row painted width is) grown (omega (arith, part, n-is, small))
    (packed_take painted width n packed n-is)
    (sym is ∙
    ap colors (bits_in-same MsbFirst painted (take n painted) width (λ k h. sym (bit_in-take MsbFirst painted n k (omega (arith, n-is))))))

-- as many pixels of one color
pub alike_many : (bit : Bool) (width : ℕ) → length (colors (replicate width bit)) ≡ width
alike_many bit width = length-colors (replicate width bit) ∙ length-replicate width bit

-- a row of one color has no octets
pub append_none : (bit : Bool) (width : ℕ) (octets : List ℕ) → AreAlike bit width → AppendsRow (colors (replicate width bit)) octets octets (Some bit)
append_none bit width octets alike =
    appends_at (colors (replicate width bit)) octets octets [] (Some bit) width (alike_many bit width) (sym (append-nil octets)) (omega arith)
    alike refl

-- ---- octets that are painted at the end of a list

-- the octets of a list that was filled up are its first ones still
pub resized_front : (old whole : List ℕ) (start most more : ℕ) → whole ≡ take most old ++ replicate more 0 → start ≡ length old → start ≤ most
    → take start whole ≡ old
resized_front old whole start most more is begins h =
    ap (λ (xs : List ℕ). take start xs) is ∙
    (ap (λ (xs : List ℕ). take start (xs ++ replicate more 0)) (take_all most old (omega (arith, begins))) ∙
    take_at old (replicate more 0) start (sym begins))

-- what a list holds that was lent from a place on and then cut
pub painted_at_end : (old whole painted post rest : List ℕ) (start len n : ℕ) → start ≡ length old → take start whole ≡ old
    → n ≤ length painted → start + n ≤ len
    → take (start + n) (take len ((take start whole ++ (painted ++ post)) ++ rest)) ≡ old ++ take n painted
painted_at_end old whole painted post rest start len n begins front within room =
    let a : List ℕ = take start whole in
    take-take (start + n) len ((a ++ (painted ++ post)) ++ rest) room ∙
    (ap (take (start + n)) (append_assoc a (painted ++ post) rest ∙ ap (λ (xs : List ℕ). a ++ xs) (append_assoc painted post rest)) ∙
    (ap (λ (xs : List ℕ). take (start + n) (xs ++ (painted ++ (post ++ rest)))) front ∙
    (ap (λ (m : ℕ). take (m + n) (old ++ (painted ++ (post ++ rest)))) begins ∙
    (take-append-add old (painted ++ (post ++ rest)) n ∙
    ap (λ (xs : List ℕ). old ++ xs) (take-append-le n painted (post ++ rest) within)))))

-- ---- octets that are copied to the end of a list, the last of them cut

-- bits whose last octet was full
pub cut_none : (count : ℕ) (old octets new : List ℕ) → new ≡ old ++ octets → length octets ≡ (count + 7) / 8 → count % 8 ≡ 0
    → CutsLast count old octets new
cut_none count old octets new is long whole = record {
  cut = octets;
  appended = is;
  long = refl;
  packed = packed_whole MsbFirst octets count long whole;
  same = λ k h. refl;
}

-- bits whose last octet was cut
pub cut_last : (count start last : ℕ) (old octets whole : List ℕ) → whole ≡ old ++ octets → length old ≡ start
    → length octets ≡ (count + 7) / 8 → 0 < count % 8
    → ((k : ℕ) → k < count % 8 → bit_at last (place_in MsbFirst k) ≡ bit_at (get_or whole (start + count / 8) 0) (place_in MsbFirst k))
    → ((k : ℕ) → count % 8 ≤ k → k < 8 → bit_at last (place_in MsbFirst k) ≡ 0)
    → CutsLast count old octets (set whole (start + count / 8) last)
cut_last count start last old octets whole is begins long some same clear =
    let copied : start + count / 8 - start ≡ count / 8 = omega arith in
    let read : get_or whole (start + count / 8) 0 ≡ get_or octets (count / 8) 0 =
    ap (λ (xs : List ℕ). get_or xs (start + count / 8) 0) is ∙
    (get_or-append_right old octets start (start + count / 8) 0 begins (omega arith) ∙ ap (λ (n : ℕ). get_or octets n 0) copied) in
    record {
      cut = set octets (count / 8) last;
      appended = ap (λ (xs : List ℕ). set xs (start + count / 8) last) is ∙
          (set-append_right old octets start (start + count / 8) last begins (omega arith) ∙
          ap (λ (n : ℕ). old ++ set octets n last) copied);
      long = length-set octets (count / 8) last;
      packed = packed_cut MsbFirst octets count last long some clear;
      same = kept_cut MsbFirst octets count last long some
          (λ k h. same k h ∙ ap (λ (octet : ℕ). bit_at octet (place_in MsbFirst k)) read);
    }

-- the octets of a row that is copied
pub append_copied : (row old new : List ℕ) (width n : ℕ) → CutsLast width old (take n row) new → n ≡ (width + 7) / 8
    → width ≤ 8 * length row → width ≤ 2432 → AppendsRow (colors (bits_in MsbFirst row width)) old new None
append_copied row old new width n cuts n-is within small =
    let part : length (take n row) ≡ n = length-take-le n row (omega (arith, n-is)) in
    let same : bits_in MsbFirst row width ≡ bits_in MsbFirst cuts.cut width =
    bits_in-same MsbFirst row cuts.cut width (λ k h. sym (cuts.same k h ∙ bit_in-take MsbFirst row n k (omega (arith, n-is)))) in
    appends_at (colors (bits_in MsbFirst row width)) old new cuts.cut None width (as_many _ row width refl) cuts.appended
    (omega (arith, cuts.long, part, n-is, small)) cuts.packed (ap colors same)
