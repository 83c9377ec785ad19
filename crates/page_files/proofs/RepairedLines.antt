-- The lines of repaired rows.
use Rattle.std.proofs.Common.{◌≡◌, ◌<◌, ◌≤◌, ◌+◌, ℕ, List, [], ◌∷◌, ◌++◌, Option, length, subst, take, get_or, arith, ap, sym, ◌∙◌}
use Rattle.std.proofs.Common.{append_assoc, Bool, false, nat_eq}
use Rattle.std.proofs.lemmas.Bool.{false≢true}
use Rattle.std.specs.Prelude.{flat_map}
use Rattle.std.specs.Io.KnownBytes.{Appends}
use Rattle.std.proofs.KnownBytes.{Appends-trans}
use Rattle.std.proofs.lemmas.List.{append-nil, take_all}
use Rattle.page_code.specs.declared.one_dim.repair.RepairedRow.{RepairedRow}
use Rattle.page_files.specs.Repairs.{count_line, repaired_line, repaired_text}
use Rattle.faults.proofs.FirstElements.{take_next}

-- all lines, and then their number
pub whole_text : (before now after : Option (List ℕ)) (rows : List RepairedRow) (index : ℕ) → 0 < length rows → length rows ≤ index
    → Appends before now (flat_map repaired_line (take index rows)) → Appends now after (count_line (length rows))
    → Appends before after (repaired_text rows)
whole_text before now after [] index some is lines count = absurd (omega (arith, some))
whole_text before now after (row ∷ rows) index some is lines count =
    let all : take index (row ∷ rows) ≡ row ∷ rows = take_all index (row ∷ rows) (omega (arith, is)) in
    let here : Appends before now (flat_map repaired_line (row ∷ rows)) = subst (λ (l : List RepairedRow). Appends before now (flat_map
    repaired_line l)) all lines in
    Appends-trans before now after (flat_map repaired_line (row ∷ rows)) (count_line (length (row ∷ rows))) here count

lines_push : (rows : List RepairedRow) (row : RepairedRow)
    → flat_map repaired_line (rows ++ row ∷ []) ≡ flat_map repaired_line rows ++ repaired_line row
lines_push [] row = append-nil (repaired_line row)
lines_push (one ∷ rows) row = ap (λ (l : List ℕ). repaired_line one ++ l) (lines_push rows row) ∙
    sym (append_assoc (repaired_line one) (flat_map repaired_line rows) (repaired_line row))

-- one line more
pub row_more : (before now new : Option (List ℕ)) (rows : List RepairedRow) (index : ℕ) (default : RepairedRow) → index < length rows
    → Appends before now (flat_map repaired_line (take index rows)) → Appends now new (repaired_line (get_or rows index default))
    → Appends before new (flat_map repaired_line (take (index + 1) rows))
row_more before now new rows index default within lines line =
    let more : flat_map repaired_line (take (index + 1) rows) ≡ flat_map repaired_line (take index rows) ++
    repaired_line (get_or rows index default) = ap (λ (l : List RepairedRow). flat_map repaired_line l)
    (take_next rows index default within)
    ∙ lines_push (take index rows) (get_or rows index default) in
    subst (Appends before new) (sym more) (Appends-trans before now new _ _ lines line)

-- rows that aren't none
pub some_rows : (rows : List RepairedRow) (empty : Bool) → empty ≡ nat_eq (length rows) 0 → empty ≡ false → 0 < length rows
some_rows [] empty is none = absurd (false≢true (sym none ∙ is))
some_rows (row ∷ rows) empty is none = omega arith
