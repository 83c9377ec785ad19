-- The widths that aren't the likely one.
use Rattle.std.proofs.Common.{◌≡◌, ◌<◌, ◌+◌, ℕ, List, [], ◌∷◌, ◌++◌, length, take, get_or, ap, sym, ◌∙◌, append_assoc}
use Rattle.std.specs.Prelude.{nat_eq, not}
use Rattle.std.proofs.lemmas.List.{take_more}
use Rattle.std.proofs.lemmas.List.Elements.{filter-append}
use Rattle.page_files.specs.Found.{others}

-- one width more
pub others_more : (width : ℕ) (widths : List ℕ) (index default : ℕ) (initial before after : List ℕ) → index < length widths
    → before ≡ initial ++ others width (take index widths)
    → after ≡ before ++ others width (get_or widths index default ∷ [])
    → after ≡ initial ++ others width (take (index + 1) widths)
others_more width widths index default initial before after within is more =
    let one : List ℕ = get_or widths index default ∷ [] in
    more ∙ (ap (λ (l : List ℕ). l ++ others width one) is
    ∙ (append_assoc initial (others width (take index widths)) (others width one)
    ∙ ap (λ (l : List ℕ). initial ++ l) (sym (ap (others width) (take_more widths index default within)
    ∙ filter-append (λ other. not (nat_eq other width)) (take index widths) one))))
