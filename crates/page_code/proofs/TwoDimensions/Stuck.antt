-- Where 24 bits of 0 come after a page's rows, nothing can be read.
use Rattle.std.proofs.Common.{ℕ, zero, suc, ◌≡◌, ◌<◌, ◌≤◌, Bool, true, false, List, [], ◌∷◌, ◌++◌, length, drop, replicate, refl, ap, sym}
use Rattle.std.proofs.Common.{◌∙◌, arith, cond, nat_lt}
use Rattle.std.specs.Prelude.{slice_index_or}
use Rattle.std.proofs.lemmas.Bool.{false≢true}
use Rattle.raster.specs.Pixels.{IsWidth}
use Rattle.raster.specs.declared.row.Color.{Color}
use Rattle.raster.specs.declared.coding.Coding.TheVariants.{T6}
use Rattle.run_tables.specs.declared.fault.CodeFaultKind.{CodeFaultKind}
use Rattle.run_tables.specs.declared.fault.CodeFaultKind.TheVariants.{BadCode, MissingEofb, TooManyCodedRows}
use Rattle.run_tables.specs.Fronts.Look.{refuse}
use Rattle.run_tables.specs.Texts.{all_zero}
use Rattle.page_code.specs.RowsSoFar.{AreRowsSoFar, IsReadTo}
use Rattle.page_code.specs.TwoDimensions.Fronts.{PageLook, PageSoFar, look_mode, page_look}
use Rattle.page_code.specs.TwoDimensions.Fronts.PageState.{between}
use Rattle.page_code.specs.TwoDimensions.Positions.{line_begin}
use Rattle.page_code.proofs.TwoDimensions.RowsOn.{start_off}

-- bits that begin with 0 bits
zeros_first : (n : ℕ) (x : List Bool) → n ≤ length x → ((k : ℕ) → k < n → slice_index_or x k false ≡ false)
    → x ≡ replicate n false ++ drop n x
zeros_first zero x few zeros = refl
zeros_first (suc n) [] few zeros = absurd (omega (arith, few))
zeros_first (suc n) (true ∷ x) few zeros = absurd (false≢true (sym (zeros 0 (omega arith))))
zeros_first (suc n) (false ∷ x) few zeros =
    ap (λ (l : List Bool). false ∷ l) (zeros_first n x (omega (arith, few)) (λ k h. zeros (suc k) (omega (arith, h))))

-- why nothing can be read there
abbrev why : Bool → Bool → CodeFaultKind
why true room = MissingEofb
why false true = BadCode
why false false = TooManyCodedRows

-- what is seen there
zeros_seen : (width : ℕ) (page : PageSoFar) (rest : List Bool)
    → page_look width (between page) (replicate 24 false ++ rest) ≡ refuse (why (all_zero rest) (nat_lt (length page.rows) 20000))
unfolding look_mode
zeros_seen width page rest = seen (all_zero rest) (nat_lt (length page.rows) 20000)
  where
    seen : (none room : Bool) → ◌≡◌ {A = PageLook} (cond none (refuse MissingEofb) (cond room (look_mode width page line_begin (replicate
        24 false ++ rest))
        (refuse TooManyCodedRows))) (refuse (why none room))
    seen true room = refl
    seen false true = refl
    seen false false = refl

pub stuck : (width : ℕ) (bits : List Bool) (rows : List (List Color)) (place : ℕ) → IsWidth width → length rows ≤ 20000
    → IsReadTo T6 width bits rows place → 57 ≤ length (drop place bits)
    → ((k : ℕ) → k < 57 → slice_index_or (drop place bits) k false ≡ false) → AreRowsSoFar T6 width bits (length rows)
unfolding IsReadTo
stuck width bits rows place wide few kept long zeros =
    let x : List Bool = drop place bits in
    let split : x ≡ replicate 24 false ++ drop 24 x = zeros_first 24 x (omega (arith, long)) (λ k h. zeros k (omega (arith, h))) in
    (start_off width bits rows place (why (all_zero (drop 24 x)) (nat_lt (length rows) 20000)) wide few kept (λ w page same.
    ap (page_look w (between page)) split ∙ (zeros_seen w page (drop 24 x) ∙
    ap (λ (n : ℕ). refuse (why (all_zero (drop 24 x)) (nat_lt n 20000))) same))).1
