-- The first fault of one image: each fault is what the reader of an image answers, and an image or a fault begins any octets.
use Rattle.std.proofs.Common.{◌≡◌, ◌≢◌, ℕ, zero, suc, ◌+◌, ◌-◌, ◌*◌, ◌<◌, ◌≤◌, Bool, true, false, cond, ◌&&◌, ◌⊎◌, List, [], ◌∷◌, ◌++◌}
use Rattle.std.proofs.Common.{length, take, drop, eqb, leb, Result, Ok, Err, refl, sym, ap, subst, ◌∙◌, arith, inl, inr}
use Rattle.std.specs.Prelude.{codes}
use Rattle.std.proofs.Math.Nat.{suc-mul}
use Rattle.std.proofs.lemmas.Bool.{cases_Bool, cases_lt, cases_eq, and_parts, eqb-true, lt-ltb, le-ltb}
use Rattle.std.proofs.lemmas.Bool.Decides.{nat_tests}
use Rattle.std.proofs.lemmas.List.{length-drop}
use Rattle.raster.specs.declared.fault.RasterFault.{RasterFault}
use Rattle.raster.specs.declared.fault.RasterFault.TheVariants.{BadWidth, TooManyRows, NoRows, BadHeader, ShortData}
use Rattle.raster.specs.declared.row.Color.{Color}
use Rattle.raster.specs.Pages.{PagePixels}
use Rattle.raster.specs.Pixels.{IsWidth}
use Rattle.raster.specs.Pbm.{is_white, ends_line, is_digit, IsHeight, ◌>>=◌, after_magic, after_blanks, begins_space, space_at, digits_at}
use Rattle.raster.specs.Pbm.{begins_digit, number_at, width_at, height_at, after_white, Size, header_at, stride, row_pixels, rows_at}
use Rattle.raster.specs.Pbm.{page_at, image_at}
use Rattle.raster.specs.PbmFaults.{NoneNext, SpacedNumber, NoSpacedNumber, HasWidth, HasHeight, HasBadHeader, BreaksOff}
use Rattle.raster.specs.PbmFaults.HasBadHeader.{no_magic, no_width, no_height, no_white}
use Rattle.raster.proofs.PbmReading.{judged_width, judged_height}
use Rattle.raster.proofs.PbmParts.{bind_ok, guard_ok, space_takes, space_again, number_takes, number_begins, number_again}

-- ---- steps

abbrev Read : Type 0 → Type 0
Read A = Result A RasterFault

-- a step went well or failed
pub went : {A : Type 0} (r : Read A) → ((x : A) × (r ≡ Ok x)) ⊎ ((fault : RasterFault) × (r ≡ Err fault))
went (Ok x) = inl (x, refl)
went (Err fault) = inr (fault, refl)

regroup_two : {A B C : Type 0} (r : Read A) (g : A → Read B) (h : B → Read C) → ((r >>= g) >>= h) ≡ (r >>= λ x. g x >>= h)
regroup_two (Ok x) g h = refl
regroup_two (Err fault) g h = refl

-- three steps and a last one, grouped as a number is read and then judged
regroup : {A B C D : Type 0} (r : Read A) (f : A → Read B) (g : B → Read C) (h : C → Read D)
    → (r >>= λ x. (f x >>= g) >>= h) ≡ ((r >>= f) >>= λ y. g y >>= h)
regroup (Ok x) f g h = regroup_two (f x) g h
regroup (Err fault) f g h = refl

-- a step that fails with BadHeader alone
abbrev OnlyBad : {A : Type 0} → Read A → Type 0
OnlyBad (Ok x) = Unit {0}
OnlyBad (Err fault) = fault ≡ BadHeader

bad_cond : {A : Type 0} (b : Bool) (x y : Read A) → OnlyBad x → OnlyBad y → OnlyBad (cond b x y)
bad_cond true x y p q = p
bad_cond false x y p q = q

bad_then : {A B : Type 0} (r : Read A) (f : A → Read B) → OnlyBad r → ((x : A) → OnlyBad (f x)) → OnlyBad (r >>= f)
bad_then (Ok x) f p q = q x
bad_then (Err fault) f p q = p

bad_is : {A : Type 0} (r : Read A) (fault : RasterFault) → OnlyBad r → r ≡ Err fault → r ≡ Err BadHeader
bad_is (Ok x) fault p e = absurd cc
bad_is (Err other) fault p e = rw p refl

-- ---- whitespace and a number

bad_blanks : (inside : Bool) (octets : List ℕ) → OnlyBad (after_blanks inside octets)
unfolding after_blanks
bad_blanks true [] = refl
bad_blanks false [] = tt
bad_blanks true (octet ∷ octets) =
    bad_cond (ends_line octet) (after_blanks false octets) (after_blanks true octets) (bad_blanks false octets) (bad_blanks true octets)
bad_blanks false (octet ∷ octets) =
    bad_cond (eqb octet 35) (after_blanks true octets) (cond (is_white octet) (after_blanks false octets) (Ok (octet ∷ octets)))
    (bad_blanks true octets) (bad_cond (is_white octet) (after_blanks false octets) (Ok (octet ∷ octets)) (bad_blanks false octets) tt)

bad_space : (octets : List ℕ) → OnlyBad (space_at octets)
unfolding space_at
bad_space octets = bad_cond (begins_space octets) (after_blanks false octets) (Err BadHeader) (bad_blanks false octets) refl

bad_number : (octets : List ℕ) → OnlyBad (number_at octets)
unfolding number_at
bad_number octets = bad_cond (begins_digit octets) (Ok (digits_at 0 octets)) (Err BadHeader) tt refl

no_digit : (octets : List ℕ) → NoneNext is_digit octets → begins_digit octets ≡ false
no_digit [] h = refl
no_digit (octet ∷ octets) h = h

none_next : (octets : List ℕ) → begins_digit octets ≡ false → NoneNext is_digit octets
none_next [] h = tt
none_next (octet ∷ octets) h = h

digits_ended : (value : ℕ) (octets : List ℕ) → begins_digit (digits_at value octets).1 ≡ false
unfolding digits_at
digits_ended value [] = refl
digits_ended value (octet ∷ octets) =
    elim (cases_Bool (is_digit octet)) [
      | inl digit ↦ rw digit (digits_ended (10 * value + (octet - 48)) octets)
      | inr none ↦ rw none none
    ]

number_ended : (octets : List ℕ) (x : ℕ × List ℕ) → number_at octets ≡ Ok x → NoneNext is_digit x.1
unfolding number_at
number_ended [] x e = absurd cc
number_ended (octet ∷ octets) x e =
    let g = guard_ok (is_digit octet) BadHeader (digits_at 0 (octet ∷ octets)) x e in
    none_next x.1 (ap (λ (y : ℕ × List ℕ). begins_digit y.1) (sym g.1) ∙ digits_ended 0 (octet ∷ octets))

-- a number after whitespace, as the reader reads it
abbrev spaced_at : List ℕ → Read (ℕ × List ℕ)
spaced_at octets = space_at octets >>= number_at

spaced_again : (value : ℕ) (octets rest : List ℕ) → SpacedNumber value octets rest → spaced_at octets ≡ Ok (value, rest)
spaced_again value octets rest s =
    let first = space_again s.space (s.digits ++ rest) s.space_is (number_begins value s.digits rest s.number_is) in
    ap spaced_at s.spelled ∙ rw first (number_again value s.digits rest s.number_is (no_digit rest s.ended))

spaced_takes : (octets : List ℕ) (x : ℕ × List ℕ) → spaced_at octets ≡ Ok x → SpacedNumber x.0 octets x.1
spaced_takes octets x e =
    let a = bind_ok (space_at octets) number_at x e in
    let first = space_takes octets a.0 a.1 in
    let number = number_takes a.0 x a.2 in
    record {
      space = first.space;
      digits = number.digits;
      spelled = first.parts ∙ ap (λ (xs : List ℕ). first.space ++ xs) number.parts;
      space_is = first.is;
      number_is = number.is;
      ended = number_ended a.0 x a.2;
    }

spaced_fails : (octets : List ℕ) → NoSpacedNumber octets → spaced_at octets ≡ Err BadHeader
spaced_fails octets none =
    elim (went (spaced_at octets)) [
      | inl x ↦ absurd (none x.0.0 x.0.1 (spaced_takes octets x.0 x.1))
      | inr failed ↦ bad_is (spaced_at octets) failed.0 (bad_then (space_at octets) number_at (bad_space octets) bad_number) failed.1
    ]

-- whitespace and a number are there or not
spaced_or_not : (octets : List ℕ) → ((value : ℕ) × (rest : List ℕ) × SpacedNumber value octets rest) ⊎ NoSpacedNumber octets
spaced_or_not octets =
    elim (went (spaced_at octets)) [
      | inl x ↦ inl (x.0.0, x.0.1, spaced_takes octets x.0 x.1)
      | inr failed ↦ inr (λ value rest s. let wrong = sym (spaced_again value octets rest s) ∙ failed.1 in cc)
    ]

-- ---- the header

abbrev after_height : ℕ → ℕ × List ℕ → Read (Size × List ℕ)
after_height width height = after_white height.1 >>= λ raster. Ok (record { width = width; height = height.0 }, raster)

abbrev after_width : ℕ × List ℕ → Read (Size × List ℕ)
after_width width = space_at width.1 >>= λ between. height_at between >>= after_height width.0

abbrev after_p4 : List ℕ → Read (Size × List ℕ)
after_p4 octets = space_at octets >>= λ before. width_at before >>= after_width

p4_is : (after : List ℕ) → header_at (80 ∷ (52 ∷ after)) ≡ after_p4 after
unfolding header_at
p4_is after = refl

p4_spaced : (after : List ℕ) → after_p4 after ≡ (spaced_at after >>= λ number. judged_width number >>= after_width)
unfolding width_at
p4_spaced after = regroup (space_at after) number_at judged_width after_width

width_spaced : (width : ℕ) (after : List ℕ)
    → after_width (width, after) ≡ (spaced_at after >>= λ number. judged_height number >>= after_height width)
unfolding height_at
width_spaced width after = regroup (space_at after) number_at judged_height (after_height width)

is_width : (n : ℕ) → IsWidth n → (leb 1 n && leb n 2432) ≡ true
is_width n h = grind (arith, nat_tests)

width_is : (n : ℕ) → (leb 1 n && leb n 2432) ≡ true → IsWidth n
width_is n h = grind (arith, nat_tests)

no_width_is : (n : ℕ) → ¬ IsWidth n → (leb 1 n && leb n 2432) ≡ false
no_width_is n none =
    elim (cases_Bool (leb 1 n && leb n 2432)) [ inl fits ↦ absurd (none (width_is n fits)) | inr other ↦ other ]

width_or_not : (n : ℕ) → IsWidth n ⊎ (¬ IsWidth n)
width_or_not n =
    elim (cases_Bool (leb 1 n && leb n 2432)) [
      | inl fits ↦ inl (width_is n fits)
      | inr other ↦ inr (λ is. let wrong = sym (is_width n is) ∙ other in cc)
    ]

some_height : (n : ℕ) → 1 ≤ n → eqb n 0 ≡ false
some_height n h = grind (arith, nat_tests)

low_height : (n : ℕ) → n ≤ 20000 → leb n 20000 ≡ true
low_height n h = grind (arith, nat_tests)

high_height : (n : ℕ) → 20000 < n → leb n 20000 ≡ false
high_height n h = grind (arith, nat_tests)

-- what the reader of a header does after P4 and a width
header_width : (width : ℕ) (octets rest : List ℕ) → HasWidth width octets rest
    → header_at octets ≡ (judged_width (width, rest) >>= after_width)
header_width width octets rest h =
    ap header_at h.1 ∙
    (p4_is h.0 ∙
    (p4_spaced h.0 ∙
    ap (λ (r : Read (ℕ × List ℕ)). r >>= λ number. judged_width number >>= after_width) (spaced_again width h.0 rest h.2)))

-- and after a width that fits
header_fits : (width : ℕ) (octets rest : List ℕ) → HasWidth width octets rest → IsWidth width
    → header_at octets ≡ after_width (width, rest)
header_fits width octets rest h fits = header_width width octets rest h ∙ rw (is_width width fits) refl

-- and after a height
header_height : (width height : ℕ) (octets rest : List ℕ) → HasHeight width height octets rest
    → header_at octets ≡ (judged_height (height, rest) >>= after_height width)
header_height width height octets rest h =
    header_fits width octets h.0 h.1 h.2 ∙
    (width_spaced width h.0 ∙
    ap (λ (r : Read (ℕ × List ℕ)). r >>= λ number. judged_height number >>= after_height width) (spaced_again height h.0 rest h.3))

-- and after a height that fits
header_sized : (width height : ℕ) (octets rest : List ℕ) → HasHeight width height octets rest → IsHeight height
    → header_at octets ≡ after_height width (height, rest)
header_sized width height octets rest h fits =
    header_height width height octets rest h ∙ rw (some_height height fits.0, low_height height fits.1) refl

-- ---- P4 and the whitespace octet after the height

magic_or_not : (octets : List ℕ) → ((after : List ℕ) × (octets ≡ codes "P4" ++ after)) ⊎ ((after : List ℕ) → octets ≢ codes "P4" ++ after)
magic_or_not [] = inr (λ after e. cc)
magic_or_not (first ∷ []) = inr (λ after e. cc)
magic_or_not (first ∷ second ∷ octets) =
    elim (cases_eq first 80) [
      | inl one ↦ elim (cases_eq second 52) [
        | inl two ↦ inl (octets, rw (one, two) refl)
        | inr other ↦ inr (λ after e. other cc)
      ]
      | inr other ↦ inr (λ after e. other cc)
    ]

magic_fails : (octets : List ℕ) → ((after : List ℕ) → octets ≢ codes "P4" ++ after) → after_magic octets ≡ Err BadHeader
magic_fails [] none = refl
magic_fails (first ∷ []) none = refl
magic_fails (first ∷ second ∷ octets) none =
    elim (cases_Bool (eqb first 80 && eqb second 52)) [
      | inl is ↦
          let both = and_parts (eqb first 80) (eqb second 52) is in
          absurd (none octets (rw (eqb-true first 80 both.0, eqb-true second 52 both.1) refl))
      | inr other ↦ rw other refl
    ]

white_or_not : (octets : List ℕ) → ((white : ℕ) × (rest : List ℕ) × (octets ≡ white ∷ rest) × (is_white white ≡ true)) ⊎ NoneNext is_white
    octets
white_or_not [] = inr tt
white_or_not (octet ∷ octets) =
    elim (cases_Bool (is_white octet)) [ inl is ↦ inl (octet, octets, refl, is) | inr other ↦ inr other ]

white_fails : (octets : List ℕ) → NoneNext is_white octets → after_white octets ≡ Err BadHeader
white_fails [] none = refl
white_fails (octet ∷ octets) none = rw none refl

-- ---- the rows

rows_short : (width height : ℕ) (octets : List ℕ) → length octets < height * stride width → rows_at width height octets ≡ Err ShortData
unfolding rows_at
rows_short width zero octets h = absurd (omega arith)
rows_short width (suc height) octets h =
    elim (cases_lt (length octets) (stride width)) [
      | inl less ↦ rw (lt-ltb (length octets) (stride width) less) refl
      | inr enough ↦
          let more : length (drop (stride width) octets) < height * stride width =
          omega (arith, suc-mul height (stride width), length-drop (stride width) octets) in
          rw (le-ltb (length octets) (stride width) enough, rows_short width height (drop (stride width) octets) more) refl
    ]

rows_enough : (width height : ℕ) (octets : List ℕ) → height * stride width ≤ length octets
    → (x : List (List Color) × List ℕ) × (rows_at width height octets ≡ Ok x)
unfolding rows_at
rows_enough width zero octets h = (([], octets), refl)
rows_enough width (suc height) octets h =
    let all = suc-mul height (stride width) in
    let enough : stride width ≤ length octets = omega arith in
    let left : height * stride width ≤ length (drop (stride width) octets) = omega (arith, length-drop (stride width) octets) in
    let more = rows_enough width height (drop (stride width) octets) left in (
      (row_pixels width (take (stride width) octets) ∷ more.0.0, more.0.1),
      rw (le-ltb (length octets) (stride width) enough, more.1) refl,
    )

-- ---- the image

header_none : (octets : List ℕ) → HasBadHeader octets → header_at octets ≡ Err BadHeader
unfolding header_at
header_none octets (no_magic some none) = rw (magic_fails octets none) refl
header_none octets (no_width after is none) =
    ap header_at is ∙
    (p4_is after ∙
    (p4_spaced after ∙
    ap (λ (r : Read (ℕ × List ℕ)). r >>= λ number. judged_width number >>= after_width) (spaced_fails after none)))
header_none octets (no_height width after is fits none) =
    header_fits width octets after is fits ∙
    (width_spaced width after ∙
    ap (λ (r : Read (ℕ × List ℕ)). r >>= λ number. judged_height number >>= after_height width) (spaced_fails after none))
header_none octets (no_white width height after is fits none) =
    header_sized width height octets after is fits ∙ rw (white_fails after none) refl

image_fails : (fine : Bool) (octets : List ℕ) (fault : RasterFault) → header_at octets ≡ Err fault → image_at fine octets ≡ Err fault
unfolding image_at
image_fails fine octets fault e = rw e refl

-- an image whose header is whole
image_headed : (fine : Bool) (width height white : ℕ) (octets raster : List ℕ) → HasHeight width height octets (white ∷ raster)
    → IsHeight height → is_white white ≡ true
    → image_at fine octets ≡ page_at fine (record { width = width; height = height }) raster
unfolding image_at
image_headed fine width height white octets raster is fits is_so =
    let header : header_at octets ≡ Ok (record { width = width; height = height }, raster) =
    header_sized width height octets (white ∷ raster) is fits ∙ rw is_so refl in
    rw header refl

page_short : (fine : Bool) (width height : ℕ) (raster : List ℕ) → length raster < height * stride width
    → page_at fine (record { width = width; height = height }) raster ≡ Err ShortData
unfolding page_at
page_short fine width height raster short = rw (rows_short width height raster short) refl

page_whole : (fine : Bool) (width height : ℕ) (raster : List ℕ) → height * stride width ≤ length raster
    → (x : PagePixels × List ℕ) × (page_at fine (record { width = width; height = height }) raster ≡ Ok x)
unfolding page_at
page_whole fine width height raster enough =
    let rows = rows_enough width height raster enough in
    ((record { width = width; fine = fine; rows = rows.0.0 }, rows.0.1), rw rows.1 refl)

-- the fault of an image is what its reader answers
pub image_breaks : (fine : Bool) (octets : List ℕ) (fault : RasterFault) → BreaksOff fault octets → image_at fine octets ≡ Err fault
image_breaks fine octets BadWidth b =
    image_fails fine octets BadWidth (header_width b.0 octets b.1 b.2 ∙ rw (no_width_is b.0 b.3) refl)
image_breaks fine octets NoRows b = image_fails fine octets NoRows (header_height b.0 0 octets b.1 b.2)
image_breaks fine octets TooManyRows b =
    let some : 1 ≤ b.1 = omega (arith, b.4) in
    image_fails fine octets TooManyRows (header_height b.0 b.1 octets b.2 b.3 ∙ rw (some_height b.1 some, high_height b.1 b.4) refl)
image_breaks fine octets ShortData b =
    image_headed fine b.0 b.1 b.2 octets b.3 b.4 b.5 b.6 ∙ page_short fine b.0 b.1 b.3 b.7
image_breaks fine octets BadHeader b = image_fails fine octets BadHeader (header_none octets b)
image_breaks fine octets fault b = absurd b

header_some : (octets : List ℕ) → HasBadHeader octets → 0 < length octets
header_some octets (no_magic some none) = some
header_some octets (no_width after is none) = rw is (omega arith)
header_some octets (no_height width after is fits none) = rw is.1 (omega arith)
header_some octets (no_white width height after is fits none) = rw is.1.1 (omega arith)

-- an image, or one that breaks off
abbrev pub Begins : Bool → List ℕ → Type 0
Begins fine octets = ((x : PagePixels × List ℕ) × (image_at fine octets ≡ Ok x)) ⊎ ((fault : RasterFault) × BreaksOff fault octets)

after_raster : (fine : Bool) (width height white : ℕ) (octets raster : List ℕ) → HasHeight width height octets (white ∷ raster)
    → IsHeight height → is_white white ≡ true → Begins fine octets
after_raster fine width height white octets raster is fits is_so =
    elim (cases_lt (length raster) (height * stride width)) [
      | inl short ↦ inr (ShortData, (width, height, white, raster, is, fits, is_so, short))
      | inr enough ↦
          let page = page_whole fine width height raster enough in
          inl (page.0, image_headed fine width height white octets raster is fits is_so ∙ page.1)
    ]

after_sized : (fine : Bool) (width height : ℕ) (octets rest : List ℕ) → HasHeight width height octets rest → IsHeight height
    → Begins fine octets
after_sized fine width height octets rest is fits =
    elim (white_or_not rest) [
      | inl w ↦
          let from : HasHeight width height octets (w.0 ∷ w.1) = subst (λ (xs : List ℕ). HasHeight width height octets xs) w.2 is in
          after_raster fine width height w.0 octets w.1 from fits w.3
      | inr none ↦ inr (BadHeader, no_white width height rest is fits none)
    ]

height_or_not : (height : ℕ) → (height ≡ 0) ⊎ (IsHeight height ⊎ (20000 < height))
height_or_not zero = inl refl
height_or_not (suc height) =
    elim (cases_lt 20000 (suc height)) [ inl more ↦ inr (inr more) | inr fits ↦ inr (inl (omega arith, fits)) ]

after_width_is : (fine : Bool) (width height : ℕ) (octets rest : List ℕ) → HasHeight width height octets rest → Begins fine octets
after_width_is fine width height octets rest is =
    elim (height_or_not height) [
      | inl none ↦ inr (NoRows, (width, rest, subst (λ (n : ℕ). HasHeight width n octets rest) none is))
      | inr some ↦ elim some [
        | inl fits ↦ after_sized fine width height octets rest is fits
        | inr more ↦ inr (TooManyRows, (width, height, rest, is, more))
      ]
    ]

after_width_fits : (fine : Bool) (width : ℕ) (octets rest : List ℕ) → HasWidth width octets rest → IsWidth width → Begins fine octets
after_width_fits fine width octets rest is fits =
    elim (spaced_or_not rest) [
      | inl s ↦ after_width_is fine width s.0 octets s.1 (rest, is, fits, s.2)
      | inr none ↦ inr (BadHeader, no_height width rest is fits none)
    ]

after_magic_is : (fine : Bool) (octets after : List ℕ) → octets ≡ codes "P4" ++ after → Begins fine octets
after_magic_is fine octets after is =
    elim (spaced_or_not after) [
      | inl s ↦ elim (width_or_not s.0) [
        | inl fits ↦ after_width_fits fine s.0 octets s.1 (after, is, s.2) fits
        | inr none ↦ inr (BadWidth, (s.0, s.1, (after, is, s.2), none))
      ]
      | inr none ↦ inr (BadHeader, no_width after is none)
    ]

-- some octets begin with an image or with one that breaks off
pub image_or_fault : (fine : Bool) (octets : List ℕ) → 0 < length octets → Begins fine octets
image_or_fault fine octets some =
    elim (magic_or_not octets) [
      | inl after ↦ after_magic_is fine octets after.0 after.1
      | inr none ↦ inr (BadHeader, no_magic some none)
    ]

-- what breaks off has an octet at least
pub breaks_some : (octets : List ℕ) (fault : RasterFault) → BreaksOff fault octets → 0 < length octets
breaks_some [] BadWidth b = absurd (let e = b.2.1 in cc)
breaks_some [] NoRows b = absurd (let e = b.2.1.1 in cc)
breaks_some [] TooManyRows b = absurd (let e = b.3.1.1 in cc)
breaks_some [] ShortData b = absurd (let e = b.4.1.1 in cc)
breaks_some [] BadHeader b = header_some [] b
breaks_some [] fault b = absurd b
breaks_some (octet ∷ octets) fault b = omega arith
