-- Looking at a page finds exactly the items that may come.
use Rattle.std.proofs.Common.{ltb, ℕ, ◌≡◌, ◌<◌, ◌≤◌, Bool, true, false, List, [], ◌∷◌, ◌++◌, length, Some, None, refl, ap, ◌∙◌, arith, cond}
use Rattle.std.proofs.Common.{subst}
use Rattle.std.specs.Prelude.{Option, Contains}
use Rattle.std.specs.List.{list_all}
use Rattle.std.proofs.lemmas.Bool.{false≢true, ltb-true, ltb-false, lt-ltb, le-ltb}
use Rattle.raster.specs.declared.row.Color.{Color}
use Rattle.raster.specs.declared.row.Color.TheVariants.{White, Black}
use Rattle.run_tables.specs.declared.fault.CodeFaultKind.TheVariants.{NoRows, BadCode, TooManyCodedRows}
use Rattle.run_tables.specs.Codes.{code_word}
use Rattle.run_tables.specs.Fronts.{Finds}
use Rattle.run_tables.specs.Fronts.Look.{go, stop, refuse}
use Rattle.run_tables.specs.RowFronts.{RunItem, run_items, allowed}
use Rattle.run_tables.specs.RowFronts.{item_word as code_bits}
use Rattle.run_tables.specs.RowFronts.RowState.{inside, whole}
use Rattle.run_tables.proofs.BeginsLemmas.{all_test}
use Rattle.run_tables.proofs.CodeLooks.{code_complete, code_sound, code_positive}
use Rattle.page_code.specs.OneDimension.Pages.{eol_word}
use Rattle.page_code.specs.OneDimension.Fronts.{PageItem, item_word, PageState, put, CodeThere, Step, PageLook, zeros_before, by_eol}
use Rattle.page_code.specs.OneDimension.Fronts.{bits_of_five, ends_with, look_in_row, look, CodeBegins}
use Rattle.page_code.specs.OneDimension.Fronts.PageItem.{eol, coded}
use Rattle.page_code.specs.OneDimension.Fronts.PageState.{first, row_start, in_row, row_end}
use Rattle.page_code.proofs.OneDimension.ZerosBefore.{zeros_front, zeros_eol, zeros_split, length-eol}

-- a run code has a 1 after fewer 0 bits than an EOL
abbrev few : Option ℕ → Bool
few None = false
few (Some n) = ltb n 11

codes_few : (color : Color) → list_all (λ code. few (zeros_before (code_bits code))) (run_items color 104) ≡ true
unfolding code_word run_items
codes_few White = refl
codes_few Black = refl

few_some : (o : Option ℕ) → few o ≡ true → (n : ℕ) × (o ≡ Some n) × (n < 11)
few_some None e = absurd (false≢true e)
few_some (Some n) e = (n, refl, ltb-true n 11 e)

-- before a run code no EOL is
pub code_stands : (color : Color) (code : RunItem) (rest : List Bool) → Contains (allowed color None) code
    → CodeBegins (code_bits code ++ rest)
code_stands color code rest c =
    let one = few_some (zeros_before (code_bits code)) (all_test (λ code. few (zeros_before (code_bits code))) (run_items color 104) code
    (codes_few color) c) in
    (one.0, zeros_front (code_bits code) rest one.0 one.1, one.2)

-- where no EOL and not only 0 bits are, the page doesn't end
pub by_eol_other : (x : List Bool) (none : PageLook) (there : ℕ → PageLook) (other : PageLook) → CodeBegins x
    → by_eol (zeros_before x) none there other ≡ other
by_eol_other x none there other stands = rw (stands.1, lt-ltb stands.0 11 stands.2) refl

-- where an EOL is
pub by_eol_there : (x : List Bool) (n : ℕ) (none : PageLook) (there : ℕ → PageLook) (other : PageLook) → zeros_before x ≡ Some n
    → 11 ≤ n → by_eol (zeros_before x) none there other ≡ there n
by_eol_there x n none there other is h = rw (is, le-ltb n 11 h) refl

there_complete : (width : ℕ) (rows : List (List Color)) (pixels : List Color) (color : Color) (makeup : Option ℕ) (code : RunItem) (t :
    PageState) (rest : List Bool) → CodeThere width rows pixels color makeup code t
    → look_in_row width rows pixels color makeup (code_bits code ++ rest) ≡ go (coded code) t
there_complete width rows pixels color makeup code t rest step = code_complete coded (λ row. put rows (whole row)) (λ more next high. put
    rows (inside more next high)) width pixels color makeup code t rest step

complete : (width : ℕ) (s : PageState) (i : PageItem) (t : PageState) (rest : List Bool) → Step width s i t
    → look width s (item_word i ++ rest) ≡ go i t
complete width first (eol n) t rest step = by_eol_there (eol_word n ++ rest) n (refuse NoRows) (λ n. go (eol n) (row_start [])) (look_in_row
    width [] [] White None (eol_word n ++ rest)) (zeros_eol n rest) step.0 ∙ ap (go (eol n)) step.1
complete width first (coded code) t rest step = by_eol_other (code_bits code ++ rest) (refuse NoRows) (λ n. go (eol n) (row_start []))
    (look_in_row width [] [] White None (code_bits code ++ rest)) (code_stands White code rest step.stands) ∙
    there_complete width [] [] White None code t rest step
complete width (row_start rows) (eol n) t rest step = absurd step
complete width (row_start rows) (coded code) t rest step =
    let x : List Bool = code_bits code ++ rest in
    by_eol_other x (ends_with rows 0) (λ n. ends_with rows (bits_of_five x)) (cond (ltb (length rows) 20000) (look_in_row width rows []
    White None x) (refuse TooManyCodedRows)) (code_stands White code rest step.1.stands) ∙
    rw (lt-ltb (length rows) 20000 step.0) (there_complete width rows [] White None code t rest step.1)
complete width (in_row rows pixels c high) (eol n) t rest step = absurd step
complete width (in_row rows pixels c high) (coded code) t rest step = there_complete width rows pixels c high code t rest step
complete width (row_end rows) (eol n) t rest step = by_eol_there (eol_word n ++ rest) n (stop rows 0) (λ n. go (eol n) (row_start rows))
    (refuse BadCode) (zeros_eol n rest) step.0 ∙ ap (go (eol n)) step.1
complete width (row_end rows) (coded code) t rest step = absurd step

abbrev Sound : ℕ → PageState → List Bool → PageItem → PageState → Type 0
Sound width s x i t = Step width s i t × ((rest : List Bool) × (x ≡ item_word i ++ rest))

-- a run code that was seen
there_sound : (width : ℕ) (rows : List (List Color)) (pixels : List Color) (color : Color) (makeup : Option ℕ) (s : PageState) (x : List
    Bool) (i : PageItem) (t : PageState) → ((code : RunItem) → CodeThere width rows pixels color makeup code t
    → Step width s (coded code) t) → look_in_row width rows pixels color makeup x ≡ go i t → Sound width s x i t
there_sound width rows pixels color makeup s x i t stands e =
    let there = code_sound coded (λ row. put rows (whole row)) (λ more next high. put rows (inside more next high)) width pixels color
    makeup x i t e in
    let found : Sound width s x (coded there.0) t = (stands there.0 there.2, there.3) in
    subst (λ j. Sound width s x j t) there.1 found

-- an EOL that was seen
eol_sound : (width : ℕ) (s : PageState) (x : List Bool) (n : ℕ) (i : PageItem) (u t : PageState) → zeros_before x ≡ Some n
    → ltb n 11 ≡ false → (11 ≤ n → Step width s (eol n) u) → ◌≡◌ {A = PageLook} (go (eol n) u) (go i t) → Sound width s x i t
eol_sound width s x n i u t is test step e =
    let item : eol n ≡ i = cc in
    let state : u ≡ t = cc in
    let found : Sound width s x (eol n) u = (step (ltb-false n 11 test), zeros_split x n is) in
    subst (λ j. Sound width s x j t) item (subst (λ v. Sound width s x (eol n) v) state found)

sound : (width : ℕ) (s : PageState) (x : List Bool) (i : PageItem) (t : PageState) → look width s x ≡ go i t → Sound width s x i t
sound width first x i t e = seen (zeros_before x) refl e
  where
    next : (n : ℕ) (b : Bool) → zeros_before x ≡ Some n → ltb n 11 ≡ b
        → cond b (look_in_row width [] [] White None x) (go (eol n) (row_start [])) ≡ go i t → Sound width first x i t
    next n true is test e = there_sound width [] [] White None first x i t (λ code step. step) e
    next n false is test e = eol_sound width first x n i (row_start []) t is test (λ h. (h, refl)) e

    seen : (o : Option ℕ) → zeros_before x ≡ o
        → by_eol o (refuse NoRows) (λ n. go (eol n) (row_start [])) (look_in_row width [] [] White None x) ≡ go i t
        → Sound width first x i t
    seen None is e = cc
    seen (Some n) is e = next n (ltb n 11) is refl e
sound width (row_start rows) x i t e = seen (zeros_before x) e
  where
    no_end : (r : List (List Color)) (n : ℕ) → ends_with r n ≡ go i t → ⊥
    no_end [] n e = cc
    no_end (row ∷ r) n e = cc

    room : (b : Bool) → ltb (length rows) 20000 ≡ b → cond b (look_in_row width rows [] White None x) (refuse TooManyCodedRows) ≡ go i t
        → Sound width (row_start rows) x i t
    room true is e = there_sound width rows [] White None (row_start rows) x i t (λ code step. (ltb-true (length rows) 20000 is, step)) e
    room false is e = cc

    next : (n : ℕ) (b : Bool) → cond b (cond (ltb (length rows) 20000) (look_in_row width rows [] White None x) (refuse TooManyCodedRows))
        (ends_with rows (bits_of_five x)) ≡ go i t → Sound width (row_start rows) x i t
    next n true e = room (ltb (length rows) 20000) refl e
    next n false e = absurd (no_end rows (bits_of_five x) e)

    seen : (o : Option ℕ) → by_eol o (ends_with rows 0) (λ n. ends_with rows (bits_of_five x)) (cond (ltb (length rows) 20000) (look_in_row
        width rows [] White None x) (refuse TooManyCodedRows)) ≡ go i t → Sound width (row_start rows) x i t
    seen None e = absurd (no_end rows 0 e)
    seen (Some n) e = next n (ltb n 11) e
sound width (in_row rows pixels color high) x i t e = there_sound width rows pixels color high (in_row rows pixels color high) x i t (λ code
    step. step) e
sound width (row_end rows) x i t e = seen (zeros_before x) refl e
  where
    next : (n : ℕ) (b : Bool) → zeros_before x ≡ Some n → ltb n 11 ≡ b
        → ◌≡◌ {A = PageLook} (cond b (refuse BadCode) (go (eol n) (row_start rows))) (go i t) → Sound width (row_end rows) x i t
    next n true is test e = cc
    next n false is test e = eol_sound width (row_end rows) x n i (row_start rows) t is test (λ h. (h, refl)) e

    seen : (o : Option ℕ) → zeros_before x ≡ o → by_eol o (stop rows 0) (λ n. go (eol n) (row_start rows)) (refuse BadCode) ≡ go i t
        → Sound width (row_end rows) x i t
    seen None is e = cc
    seen (Some n) is e = next n (ltb n 11) is refl e

positive : (width : ℕ) (s : PageState) (i : PageItem) (t : PageState) → Step width s i t → 0 < length (item_word i)
positive width s (eol n) t step = omega (arith, length-eol n)
positive width first (coded code) t step = code_positive White None code step.stands
positive width (row_start rows) (coded code) t step = code_positive White None code step.1.stands
positive width (in_row rows pixels color makeup) (coded code) t step = code_positive color makeup code step.stands
positive width (row_end rows) (coded code) t step = absurd step

-- looking finds exactly the items that may come
pub finds : (width : ℕ) → Finds item_word (Step width) (look width)
finds width = record {
  sound = λ s x i t e. sound width s x i t e;
  complete = λ s i t rest step. complete width s i t rest step;
  positive = λ s i t step. positive width s i t step;
}
