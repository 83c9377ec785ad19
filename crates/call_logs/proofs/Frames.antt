-- One line more of a log.
use Rattle.std.proofs.Common.{◌≡◌, ◌+◌, ◌∷◌, [], ℕ, List, Bool, true, false, ap, ◌∙◌, sym, refl}
use Rattle.std.specs.Prelude.{Some, None, Ok, Err}
use Rattle.call_logs.specs.Logs.{PlainFrame, if_line, log_in, pieces, with_line, with_lines}

next : (frames : List PlainFrame) (before : ℕ) (line : List ℕ) (more : List (List ℕ))
    → with_lines (Some frames) before (line ∷ more) ≡ with_lines (with_line frames line) (before + 1) more
unfolding with_lines
next frames before line more = refl

refused : (before : ℕ) (more : List (List ℕ)) → with_lines None before more ≡ Err before
unfolding with_lines
refused before more = refl

all_taken : (frames : List PlainFrame) (before : ℕ) → with_lines (Some frames) before [] ≡ Ok frames
unfolding with_lines
all_taken frames before = refl

pub line_taken : (frames new : List PlainFrame) (before : ℕ) (octets text line : List ℕ) (more : List (List ℕ)) (is_line : Bool)
    → with_lines (Some frames) before (pieces 10 text) ≡ log_in octets → pieces 10 text ≡ line ∷ more
    → with_line frames line ≡ if_line is_line new → is_line ≡ true
    → with_lines (Some new) (before + 1) more ≡ log_in octets
line_taken frames new before octets text line more is_line left cut adds is =
    ap (λ o. with_lines o (before + 1) more) (sym (adds ∙ ap (λ b. if_line b new) is))
    ∙ (sym (next frames before line more) ∙ (ap (with_lines (Some frames) before) (sym cut) ∙ left))

pub line_refused : (frames new : List PlainFrame) (before : ℕ) (octets text line : List ℕ) (more : List (List ℕ)) (is_line : Bool)
    → with_lines (Some frames) before (pieces 10 text) ≡ log_in octets → pieces 10 text ≡ line ∷ more
    → with_line frames line ≡ if_line is_line new → is_line ≡ false
    → log_in octets ≡ Err (before + 1)
line_refused frames new before octets text line more is_line left cut adds is =
    sym left ∙ (ap (with_lines (Some frames) before) cut ∙ (next frames before line more
    ∙ (ap (λ o. with_lines o (before + 1) more) (adds ∙ ap (λ b. if_line b new) is) ∙ refused (before + 1) more)))

pub last_taken : (frames new : List PlainFrame) (before : ℕ) (octets text : List ℕ) (is_line : Bool)
    → with_lines (Some frames) before (pieces 10 text) ≡ log_in octets → pieces 10 text ≡ text ∷ []
    → with_line frames text ≡ if_line is_line new → is_line ≡ true
    → log_in octets ≡ Ok new
last_taken frames new before octets text is_line left cut adds is =
    sym (line_taken frames new before octets text text [] is_line left cut adds is) ∙ all_taken new (before + 1)
