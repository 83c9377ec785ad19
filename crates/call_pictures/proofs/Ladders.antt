-- What is drawn of a call, with one event more.
use Rattle.std.proofs.Common.{◌≡◌, ℕ, ◌+◌, List, [], ◌∷◌, ◌++◌, length, None, ap, sym, ◌∙◌, arith}
use Rattle.std.proofs.lemmas.List.{append-nil}
use Rattle.line_sim.specs.declared.event.Entry.{Entry}
use Rattle.call_pictures.specs.Ladders.{Drawn, drawn_text, feet_text}
use Rattle.call_pictures.specs.DrawnFields.{drawn_entry}
use Rattle.calls.specs.Transcripts.{entry_line, entry_lines}
use Rattle.calls.proofs.EntryLines.{lines_both}

-- the text of what is drawn, with the line of one event more
pub text_with : (entries : List Entry) (entry : Entry) (number : ℕ) → number ≡ length entries + 1 →
    entry_lines 1 (entries ++ entry ∷ []) ++ [] ≡ (entry_lines 1 entries ++ []) ++ entry_line number entry
text_with entries entry number is =
    let same : 1 + length entries ≡ number = omega (arith, is) in
    append-nil (entry_lines 1 (entries ++ entry ∷ [])) ∙ lines_both 1 entries (entry ∷ [])
    ∙ ap (λ n. entry_lines 1 entries ++ (entry_line n entry ++ [])) same
    ∙ ap (λ l. entry_lines 1 entries ++ l) (append-nil (entry_line number entry))
    ∙ ap (λ l. l ++ entry_line number entry) (sym (append-nil (entry_lines 1 entries)))

pub drawn_with : (old new : Drawn) (entry : Entry) (number : ℕ) →
    new ≡ record old { entries = old.entries ++ drawn_entry entry ∷ [] } →
    number ≡ length old.entries + 1 → old.feet ≡ None → drawn_text new ≡ drawn_text old ++ entry_line number entry
drawn_with old new entry number is next going =
    ap drawn_text is ∙ ap (λ f. entry_lines 1 (old.entries ++ drawn_entry entry ∷ []) ++ feet_text f) going
    ∙ text_with old.entries (drawn_entry entry) number next
    ∙ ap (λ f. (entry_lines 1 old.entries ++ feet_text f) ++ entry_line number entry) (sym going)
