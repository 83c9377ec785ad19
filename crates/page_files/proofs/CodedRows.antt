-- A page's code that is written row by row.
use Rattle.std.proofs.Common.{◌≡◌, ◌++◌, ◌∷◌, ◌∙◌, [], ℕ, List, Option, ap, append_assoc, subst, sym}
use Rattle.std.proofs.KnownBytes.{Appends-trans}
use Rattle.std.specs.Io.KnownBytes.{Appends}
use Rattle.raster.specs.declared.packed.Order.{Order}
use Rattle.raster.specs.declared.row.Color.{Color}
use Rattle.raster.specs.Packed.{FillsOctets}
use Rattle.page_code.specs.declared.Coding.{Coding}
use Rattle.page_code.specs.Codings.{code_of}
use Rattle.page_code.specs.RowCoders.{CodesRows, EndsPage, RowCoding}
use Rattle.page_files.specs.CodedPages.{AppendsCode, HoldsCode}

-- one row more is coded, and some of the octets that are held are written
pub one_row_more : (old new : RowCoding) (rows : List (List Color)) (row : List Color) (held coded left : List ℕ) (a b c : Option (List ℕ))
    → ((before : List (List Color)) (first : List ℕ) → CodesRows old before (first ++ held)
    → CodesRows new (before ++ row ∷ []) (first ++ coded))
    → ((octets : List ℕ) × Appends b c octets × (coded ≡ octets ++ left))
    → HoldsCode old rows held a b → HoldsCode new (rows ++ row ∷ []) left a c
one_row_more old new rows row held coded left a b c more wrote before =
    let octets : List ℕ = before.0 ++ wrote.0 in
    let stands : CodesRows new (rows ++ row ∷ []) (before.0 ++ coded) = more rows before.0 before.1 in
    let parted : before.0 ++ coded ≡ octets ++ left =
    ap (λ (l : List ℕ). before.0 ++ l) wrote.2 ∙ sym (append_assoc before.0 wrote.0 left) in (
      octets,
      subst (λ (l : List ℕ). CodesRows new (rows ++ row ∷ []) l) parted stands,
      Appends-trans a b c before.0 wrote.0 before.2 wrote.1,
    )

-- the page's end
pub whole_code : (coder : RowCoding) (coding : Coding) (order : Order) (width : ℕ) (rows : List (List Color)) (held last : List ℕ)
    (a b c : Option (List ℕ)) → coder.coding ≡ coding → coder.pending.order ≡ order → coder.width ≡ width → HoldsCode coder rows held a b
    → EndsPage coder held last → Appends b c last → AppendsCode coding order width rows a c
whole_code coder coding order width rows held last a b c coding_is order_is width_is before ends wrote =
    let octets : List ℕ = before.0 ++ last in
    let joined : (before.0 ++ held) ++ ends.octets ≡ octets =
    append_assoc before.0 held ends.octets ∙ ap (λ (l : List ℕ). before.0 ++ l) (sym ends.joined) in
    let filled : FillsOctets coder.pending.order (code_of coder.coding coder.width rows) octets =
    subst (λ (l : List ℕ). FillsOctets coder.pending.order (code_of coder.coding coder.width rows) l) joined
    (ends.page rows (before.0 ++ held) before.1) in (
      octets,
      subst (λ (o : Order). FillsOctets o (code_of coding width rows) octets) order_is
          (subst (λ (c : Coding). FillsOctets coder.pending.order (code_of c width rows) octets) coding_is
          (subst (λ (w : ℕ). FillsOctets coder.pending.order (code_of coder.coding w rows) octets) width_is filled)),
      Appends-trans a b c before.0 last before.2 wrote,
    )
