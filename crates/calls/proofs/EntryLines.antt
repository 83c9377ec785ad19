-- The lines of events, one after the other.
use Rattle.std.proofs.Common.{◌≡◌, ℕ, ◌+◌, List, [], ◌∷◌, ◌++◌, length, ap, sym}
use Rattle.std.proofs.Common.{◌∙◌, arith, append_assoc}
use Rattle.line_sim.specs.declared.event.Entry.{Entry}
use Rattle.calls.specs.Transcripts.{entry_line, entry_lines}

-- the lines of entries, and then those of others
pub lines_both : (first : ℕ) (xs ys : List Entry) →
    entry_lines first (xs ++ ys) ≡ entry_lines first xs ++ entry_lines (first + length xs) ys
lines_both first [] ys =
    let e : first ≡ first + 0 = omega arith in
    ap (λ n. entry_lines n ys) e
lines_both first (x ∷ xs) ys =
    let e : first + 1 + length xs ≡ first + length (x ∷ xs) = omega arith in
    ap (λ l. entry_line first x ++ l) (lines_both (first + 1) xs ys ∙ ap (λ n. entry_lines (first + 1) xs ++ entry_lines n ys) e)
    ∙ sym (append_assoc (entry_line first x) (entry_lines (first + 1) xs) _)
