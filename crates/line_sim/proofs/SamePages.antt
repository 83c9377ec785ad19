-- Rows, pages and lists of pages that are compared or joined.
use Rattle.std.proofs.Common.{◌≡◌, ℕ, ◌+◌, ◌≤◌, false, List, [], ◌∷◌, ◌++◌, length, take, replicate, refl, ap, sym, ◌∙◌, arith}
use Rattle.std.proofs.Common.{◌<◌, Some, slice_get, slice_index_or}
use Rattle.std.proofs.lemmas.List.{append-nil, append_cancel_left, take_at, take_more}
use Rattle.std.proofs.lemmas.Option.{get_or_from_slice_get, slice_get-get_or, slice_get_within}
use Rattle.raster.specs.Pages.{PagePixels}
use Rattle.raster.specs.PbmText.{ArePagesText, HoldsRow, header_text}
use Rattle.raster.specs.Pixels.{colors}
use Rattle.raster.specs.declared.row.Color.{Color}
use Rattle.raster.proofs.PbmWriting.{reads_written}
use Rattle.raster.proofs.RowLemmas.{length-colors}
use Rattle.stations.specs.AnswererStep.{Answerer}
use Rattle.stations.specs.Layers.{Document}
use Rattle.line_sim.specs.Live.{HasAgain, whole_call}
use Rattle.line_sim.specs.declared.call.Call.{Call}

-- rows of one width that octets hold are the same
pub row_once : (row other : List Color) (octets : List ℕ) → HoldsRow row octets → HoldsRow other octets → length row ≡ length other →
    row ≡ other
row_once row other octets p q same =
    let n : ℕ = length row in
    let one : length p.bits ≡ n = sym (ap length p.pixels ∙ length-colors p.bits) in
    let two : length q.bits ≡ n = sym (same ∙ (ap length q.pixels ∙ length-colors q.bits)) in
    p.pixels ∙ (ap colors (sym (take_at p.bits (replicate p.filled.fill false) n one) ∙
    (ap (take n) (sym p.filled.filled ∙ q.filled.filled) ∙ take_at q.bits (replicate q.filled.fill false) n two)) ∙ sym q.pixels)

-- octets that hold one row are the same, as those of a page's image are
pub octets_once : (row : List Color) (a b : List ℕ) → HoldsRow row a → HoldsRow row b → a ≡ b
octets_once row a b p q =
    append_cancel_left head a b (reads_written.one (page ∷ []) (head ++ a) (head ++ b) (text a p) (text b q))
  where
    page : PagePixels
    page = record { width = length row; fine = false; rows = row ∷ [] }

    head : List ℕ
    head = header_text (length row) 1

    text : (octets : List ℕ) → HoldsRow row octets → ArePagesText (page ∷ []) (head ++ octets)
    text octets holds = (
      head ++ octets,
      [],
      sym (append-nil (head ++ octets)),
      (octets, refl, (octets, [], sym (append-nil octets), holds, refl)),
      refl,
    )

-- ---- elements of lists

-- lists that are the same so far, and at the next place
pub take_both : {X : Type 0} (xs ys : List X) (at : ℕ) (x y : X) → at < length xs → at < length ys → slice_get xs at ≡ Some x →
    slice_get ys at ≡ Some y → x ≡ y → take at xs ≡ take at ys → take (at + 1) xs ≡ take (at + 1) ys
take_both xs ys at x y h k e f is same =
    take_more xs at x h ∙
    (ap (λ z. take at xs ++ z ∷ [])
    (get_or_from_slice_get xs at x x e ∙ (is ∙ sym (get_or_from_slice_get ys at y y f))) ∙
    (ap (λ zs. zs ++ slice_index_or ys at y ∷ []) same ∙ sym (take_more ys at y k)))

-- a list of one element
pub one_element : {X : Type 0} (xs : List X) (x d : X) → 1 ≤ length xs → length xs < 2 → x ≡ slice_index_or xs 0 d → xs ≡ x ∷ []
one_element [] x d some few is = absurd (omega (arith, some))
one_element (y ∷ []) x d some few is = ap (λ z. z ∷ []) (sym is)
one_element (y ∷ z ∷ zs) x d some few is = absurd (let n : ℕ = length zs in omega (arith, few))

pub first_of_one : {X : Type 0} (xs : List X) (x y d : X) → x ≡ slice_index_or xs 0 d → xs ≡ y ∷ [] → x ≡ y
first_of_one xs x y d is e = is ∙ ap (λ l. slice_index_or l 0 d) e

-- an element that was read is there, and no other one
pub is_there : {X : Type 0} (xs : List X) (at : ℕ) (x : X) → at < length xs → x ≡ slice_index_or xs at x → slice_get xs at ≡ Some x
is_there xs at x h is = slice_get-get_or xs at x h ∙ ap Some (sym is)

pub is_the_one : {X : Type 0} (xs : List X) (at : ℕ) (x y : X) → x ≡ slice_index_or xs at x → slice_get xs at ≡ Some y → x ≡ y
is_the_one xs at x y is e = is ∙ get_or_from_slice_get xs at y x e

-- ---- a page that is let go of

pub whole_let_go : (same : ℕ) (v : Call) (left : Answerer) → HasAgain v same → left ≡ record v.answerer { pages = [] } →
    whole_call (same + 1) (record v { answerer = left }) ≡ whole_call same v
whole_let_go same v left again is =
    let document : Document = v.caller.document in
    let page : PagePixels = again.0 in
    ap (λ (s : Answerer). whole_call (same + 1) (record v { answerer = s })) is ∙
    ap (λ (pages : List PagePixels). record v { answerer = record v.answerer { pages = pages } })
    (append-nil (take (same + 1) document) ∙
    (take_more document same page (slice_get_within document same page again.2) ∙
    (ap (λ x. take same document ++ x ∷ []) (get_or_from_slice_get document same page page again.2) ∙
    ap (λ pages. take same document ++ pages) (sym again.1))))

pub within_again : (same : ℕ) (v : Call) → HasAgain v same → same + 1 ≤ length v.caller.document
within_again same v again = let h = slice_get_within v.caller.document same again.0 again.2 in omega (arith, h)
