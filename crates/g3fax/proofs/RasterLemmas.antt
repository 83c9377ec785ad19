-- Rows that begin some number of octets apart.
use Rattle.std.proofs.Common.{◌≡◌, ℕ, zero, suc, ◌+◌, ◌-◌, ◌*◌, ◌<◌, ◌≤◌, List, [], ◌∷◌, ◌++◌, length, take, drop}
use Rattle.std.proofs.Common.{refl, sym, ap, ◌∙◌, arith, get_or}
use Rattle.std.proofs.lemmas.List.{drop-drop, drop-take, drop_at, take_at, take-take, length-take-le, drop_more}
use Rattle.std.proofs.lemmas.List.FromFn.{length-map-range_with_len, map-range_with_len_more}
use Rattle.std.proofs.Math.Seq.{take-append-add, drop-append-add}
use Rattle.raster.specs.declared.row.Color.{Color}
use Rattle.raster.specs.Pages.{PagePixels, IsPage}
use Rattle.raster.specs.Pbm.{row_pixels, stride}
use Rattle.raster.specs.PbmText.{HoldsRow}
use Rattle.raster.proofs.TextLemmas.{holds_length}
use Rattle.g3fax.specs.Rasters.{LaysRows, raster_octets, raster_rows}

pub rows_none : (width apart : ℕ) (octets : List ℕ) → raster_rows width apart octets 0 ≡ []
unfolding raster_rows
rows_none width apart octets = refl

pub rows_more : (width apart : ℕ) (octets : List ℕ) (n : ℕ) → raster_rows width apart octets (n + 1) ≡ raster_rows width apart octets n ++
    row_pixels width (drop (apart * n) octets) ∷ []
unfolding raster_rows
rows_more width apart octets n =
    map-range_with_len_more (λ number. row_pixels width (drop (apart * number) octets)) 0 n n (omega arith)

pub length-raster_rows : (width apart : ℕ) (octets : List ℕ) (n : ℕ) → length (raster_rows width apart octets n) ≡ n
unfolding raster_rows
length-raster_rows width apart octets n =
    length-map-range_with_len (λ number. row_pixels width (drop (apart * number) octets)) 0 n

times_le : (apart a b : ℕ) → a ≤ b → apart * a ≤ apart * b
times_le apart a b h = grind arith

pub times_more : (apart n : ℕ) → apart * (n + 1) ≡ apart * n + apart
times_more apart n = omega arith

-- each row ends within the octets of all
pub row_ends : (row apart n rows : ℕ) → n < rows → apart * n + row ≤ raster_octets row apart rows
row_ends row apart n zero h = absurd (omega (arith, h))
row_ends row apart n (suc more) h = omega (arith, times_le apart n more (omega (arith, h)))

-- a row has the octets of its pixels
pub holds_stride : (row : List Color) (octets : List ℕ) → HoldsRow row octets → length octets ≡ stride (length row)
holds_stride row octets holds = omega (arith, holds_length row octets holds, holds.filled.few)

-- a row of a page has as many octets as the others
pub row_octets : (page : PagePixels) (rows : List (List Color)) (n : ℕ) (row : List Color) (octets : List ℕ) → IsPage page
    → rows ≡ page.rows → n < length rows → row ≡ get_or rows n row → HoldsRow row octets → length octets ≡ stride page.width
row_octets page rows n row octets is same within here holds =
    let wide : length (get_or page.rows n row) ≡ page.width = is.wide n row (rw (← same) within) in
    let width : length row ≡ page.width = ap length (here ∙ ap (λ (xs : List (List Color)). get_or xs n row) same) ∙ wide in
    holds_stride row octets holds ∙ ap stride width

-- the rows from a place on
pub rows_from : (rows : List (List Color)) (n next : ℕ) (row : List Color) → next ≡ n + 1 → n < length rows → row ≡ get_or rows n row
    → drop n rows ≡ row ∷ drop next rows
rows_from rows n next row here within is =
    drop_more rows n row within ∙ (ap (λ (x : List Color). x ∷ drop (n + 1) rows) (sym is) ∙
    ap (λ k. row ∷ drop k rows) (sym here))

-- octets that were put at a place leave those before it
pub front_stays : (at next : ℕ) (octets old before new : List ℕ) → at ≤ next → at ≤ length before → take next before ≡ take next old
    → new ≡ take at before ++ octets → take at new ≡ take at old
front_stays at next octets old before new low room front is =
    ap (take at) is ∙ (take_at (take at before) octets at (length-take-le at before room) ∙ (sym (shorter before) ∙
    (ap (take at) front ∙ shorter old)))
  where
    shorter : (xs : List ℕ) → take at (take next xs) ≡ take at xs
    shorter xs = take-take at next xs low

-- one row more, above the others
pub lays_more : (apart at next : ℕ) (row : List Color) (rows : List (List Color)) (octets old before new : List ℕ) → next ≡ at + apart
    → HoldsRow row octets → length octets ≤ apart → at + length octets ≤ length before → take next before ≡ take next old
    → LaysRows apart rows (drop next old) (drop next before) → new ≡ take at before ++ (octets ++ drop (at + length octets) before)
    → LaysRows apart (row ∷ rows) (drop at old) (drop at new)
lays_more apart at next row rows octets old before new here holds small room front laid is =
    let n : ℕ = length octets in
    let within : at ≤ length before = omega (arith, room) in
    let ends : at + n + (apart - n) ≡ next = omega (arith, here, small) in
    let split : apart ≡ n + (apart - n) = omega (arith, small) in
    let after : drop at new ≡ octets ++ drop (at + n) before =
    ap (drop at) is ∙ drop_at (take at before) (octets ++ drop (at + n) before) at (length-take-le at before within) in
    let gap : take (apart - n) (drop (at + n) before) ≡ take (apart - n) (drop (at + n) old) =
    sym (drop-take (at + n) (apart - n) before) ∙ (ap (λ k. drop (at + n) (take k before)) ends ∙ (ap (drop (at + n)) front ∙
    (ap (λ k. drop (at + n) (take k old)) (sym ends) ∙ drop-take (at + n) (apart - n) old))) in
    let fronts : take apart (drop at new) ≡ octets ++ take (apart - n) (drop (at + n) before) =
    ap (take apart) after ∙ (ap (λ k. take k (octets ++ drop (at + n) before)) split ∙
    take-append-add octets (drop (at + n) before) (apart - n)) in
    let olds : drop n (take apart (drop at old)) ≡ take (apart - n) (drop (at + n) old) =
    ap (λ k. drop n (take k (drop at old))) split ∙ (drop-take n (apart - n) (drop at old) ∙
    ap (take (apart - n)) (drop-drop n at old)) in
    let rest_old : drop apart (drop at old) ≡ drop next old = drop-drop apart at old ∙ ap (λ k. drop k old) (sym here) in
    let rest_new : drop apart (drop at new) ≡ drop next before =
    ap (drop apart) after ∙ (ap (λ k. drop k (octets ++ drop (at + n) before)) split ∙
    (drop-append-add octets (drop (at + n) before) (apart - n) ∙ (drop-drop (apart - n) (at + n) before ∙
    ap (λ k. drop k before) ends))) in
    (octets, holds, fronts ∙ ap (λ (xs : List ℕ). octets ++ xs) (gap ∙ sym olds), rw (rest_old, rest_new) laid)
