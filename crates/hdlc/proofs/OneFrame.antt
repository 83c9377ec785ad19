-- A content has one frame alone: a stuffed text is known from its unstuffed bits.
use Rattle.std.proofs.Common.{◌≡◌, ℕ, suc, ◌+◌, ◌<◌, ◌≤◌, ◌⊎◌, ◌||◌, Bool, true, false, List, [], ◌∷◌, ◌++◌, cond, refl, ap, sym, ◌∙◌}
use Rattle.std.proofs.Common.{arith, inl, inr, nat_eq, nat_lt, reverse, not, map, length, ◌%◌}
use Rattle.std.specs.List.{filter}
use Rattle.std.proofs.lemmas.List.{append-nil, reverse-append, reverse-reverse}
use Rattle.std.proofs.lemmas.Bool.{ne_eqb, eq-eqb, lt-ltb, le-ltb, cases_eq, cases_lt, ltb-false}
use Rattle.hdlc.specs.declared.counts.Class.TheVariants.{Good, Aborted, Ragged, Short, Long, Damaged}
use Rattle.hdlc.specs.Flags.{flag}
use Rattle.hdlc.specs.Gaps.{unstuffed, has_six, class_of, is_class, content as content_of, octets_in, checks}
use Rattle.hdlc.specs.Frames.{IsFrame}
use Rattle.hdlc.specs.Laws.{OneFrame}
use Rattle.hdlc.proofs.UnstuffedLemmas.{ones, ones-more, unstuffed-more, has_six-more}
use Rattle.hdlc.proofs.Collecting.{unstuffed-none}
use Rattle.hdlc.proofs.DeframerPartsLemmas.{good_only}

-- how many 1 bits in a row end the stuffed text of bits, which are given backwards: at five a 0 bit is due
abbrev run : List Bool → ℕ
run [] = 0
run (false ∷ r) = 0
run (true ∷ r) = cond (nat_eq (run r) 5) 1 (suc (run r))

-- the 0 bit that is due
abbrev due : List Bool → List Bool
due r = cond (nat_eq (run r) 5) (false ∷ []) []

-- the stuffed text of bits, which are given backwards, without a 0 bit that is due at its end
abbrev stuffed : List Bool → List Bool
stuffed [] = []
stuffed (b ∷ r) = (stuffed r ++ due r) ++ b ∷ []

-- a text stuffs bits, with or without the 0 bit that is due at its end
abbrev Stuffs : List Bool → List Bool → Type 0
Stuffs text r = ((ones text ≡ run r) × (text ≡ stuffed r)) ⊎ ((ones text ≡ 0) × (run r ≡ 5) × (text ≡ stuffed r ++ false ∷ []))

run_most : (r : List Bool) → run r ≤ 5
run_most [] = omega arith
run_most (false ∷ r) = omega arith
run_most (true ∷ r) = elim (cases_eq (run r) 5) [
  | inl e ↦ rw (eq-eqb (run r) 5 e) (omega arith)
  | inr ne ↦ rw (ne_eqb (run r) 5 ne) (let le : run r ≤ 5 = run_most r in omega arith)
]

neither : (x y : Bool) → (x || y) ≡ false → (x ≡ false) × (y ≡ false)
neither true y e = cc
neither false y e = (refl, e)

kept : (text : List Bool) (b : Bool) → ones text < 5 → reverse (unstuffed (text ++ b ∷ [])) ≡ b ∷ reverse (unstuffed text)
kept text b few =
    let in_ : nat_lt (ones text) 5 ≡ true = lt-ltb (ones text) 5 few in
    let grown : unstuffed (text ++ b ∷ []) ≡ unstuffed text ++ b ∷ [] = unstuffed-more text b ∙ (rw in_ refl) in
    ap reverse grown ∙ reverse-append (unstuffed text) (b ∷ [])

left_out : (text : List Bool) (b : Bool) → 5 ≤ ones text → reverse (unstuffed (text ++ b ∷ [])) ≡ reverse (unstuffed text)
left_out text b five =
    let out : nat_lt (ones text) 5 ≡ false = le-ltb (ones text) 5 five in
    let same : unstuffed (text ++ b ∷ []) ≡ unstuffed text = unstuffed-more text b ∙ (rw out (append-nil (unstuffed text))) in
    ap reverse same

more : (text r : List Bool) (b : Bool) → ones text < 5 → ones text ≡ run r → text ≡ stuffed r → Stuffs (text ++ b ∷ []) (b ∷ r)
more text r b few count is = inl (ones-more text b ∙ go b, ends)
  where
    no : nat_eq (run r) 5 ≡ false
    no = ne_eqb (run r) 5 (λ e. omega arith)

    go : (b : Bool) → cond b (1 + ones text) 0 ≡ run (b ∷ r)
    go true = rw no (omega arith)
    go false = refl

    ends : text ++ b ∷ [] ≡ (stuffed r ++ due r) ++ b ∷ []
    ends = rw (no, append-nil) (ap (λ xs. xs ++ b ∷ []) is)

more_due : (text r : List Bool) (b : Bool) → ones text ≡ 0 → run r ≡ 5 → text ≡ stuffed r ++ false ∷ [] → Stuffs (text ++ b ∷ []) (b ∷ r)
more_due text r b none five is = inl (ones-more text b ∙ (rw none (go b)), ends)
  where
    yes_ : nat_eq (run r) 5 ≡ true
    yes_ = eq-eqb (run r) 5 five

    go : (b : Bool) → cond b (1 + 0) 0 ≡ run (b ∷ r)
    go true = rw yes_ refl
    go false = refl

    ends : text ++ b ∷ [] ≡ (stuffed r ++ due r) ++ b ∷ []
    ends = rw yes_ (ap (λ xs. xs ++ b ∷ []) is)

fifth : (text r : List Bool) (b : Bool) → 5 ≤ ones text → nat_lt 5 (ones (text ++ b ∷ [])) ≡ false → ones text ≡ run r → text ≡ stuffed r
    → Stuffs (text ++ b ∷ []) r
fifth text r true five six count is =
    let size : ones (text ++ true ∷ []) ≡ 1 + ones text = ones-more text true in
    let most : ones (text ++ true ∷ []) ≤ 5 = ltb-false 5 (ones (text ++ true ∷ [])) six in
    absurd (omega arith)
fifth text r false five six count is = inr (ones-more text false, five_ r count, ap (λ xs. xs ++ false ∷ []) is)
  where
    five_ : (r : List Bool) → ones text ≡ run r → run r ≡ 5
    five_ r count = let le : run r ≤ 5 = run_most r in omega arith

step : (text : List Bool) (b : Bool) → Stuffs text (reverse (unstuffed text)) → has_six (text ++ b ∷ []) ≡ false
    → Stuffs (text ++ b ∷ []) (reverse (unstuffed (text ++ b ∷ [])))
step text b (inr due_) six =
    let none : ones text ≡ 0 = due_.0 in rw (kept text b (omega arith)) (more_due text (reverse (unstuffed text)) b none due_.1 due_.2)
step text b (inl plain) six = elim (cases_lt (ones text) 5) [
  | inl few ↦ rw (kept text b few) (more text (reverse (unstuffed text)) b few plain.0 plain.1)
  | inr many ↦
      rw (left_out text b many)
      (fifth text (reverse (unstuffed text)) b many (neither (has_six text) (nat_lt 5 (ones (text ++ b ∷ []))) (sym (has_six-more text b)
      ∙ six)).1 plain.0 plain.1)
]

all : (r : List Bool) → has_six (reverse r) ≡ false → Stuffs (reverse r) (reverse (unstuffed (reverse r)))
all [] six = rw unstuffed-none (inl (refl, refl))
all (b ∷ r) six =
    let split : reverse (b ∷ r) ≡ reverse r ++ b ∷ [] = reverse-append (b ∷ []) r in
    let here : has_six (reverse r ++ b ∷ []) ≡ false = ap has_six (sym split) ∙ six in
    let before : has_six (reverse r) ≡ false =
    (neither (has_six (reverse r)) (nat_lt 5 (ones (reverse r ++ b ∷ []))) (sym (has_six-more (reverse r) b) ∙ here)).0 in
    rw split (step (reverse r) b (all r before) here)

-- a text without six 1 bits in a row and no stuffed bit due is known from its unstuffed bits
text_is : (text : List Bool) → has_six text ≡ false → ones text ≤ 4
    → text ≡ stuffed (reverse (unstuffed text)) ++ due (reverse (unstuffed text))
text_is text six few =
    let back : reverse (reverse text) ≡ text = reverse-reverse text in
    let here : has_six (reverse (reverse text)) ≡ false = ap has_six back ∙ six in
    go (rw back at (all (reverse text) here))
  where
    go : Stuffs text (reverse (unstuffed text)) → text ≡ stuffed (reverse (unstuffed text)) ++ due (reverse (unstuffed text))
    go (inl plain) =
        let no : nat_eq (run (reverse (unstuffed text))) 5 ≡ false =
        ne_eqb (run (reverse (unstuffed text))) 5 (λ e. let count : ones text ≡ run (reverse (unstuffed text)) =
        plain.0 in omega arith) in
        plain.1 ∙ (rw (no, append-nil) refl)
    go (inr due_) =
        let yes_ : nat_eq (run (reverse (unstuffed text))) 5 ≡ true = eq-eqb (run (reverse (unstuffed text))) 5 due_.1 in due_.2
        ∙ (rw yes_ refl)

good_has_no_six : (a b c d e : Bool) → cond a Aborted (cond b Ragged (cond c Short (cond d Long (cond e Damaged Good)))) ≡ Good → a ≡ false
good_has_no_six true b c d e h = cc
good_has_no_six false b c d e h = refl

no_six : (content : List ℕ) (frame : List Bool) → (f : IsFrame content frame) → has_six f.body ≡ false
no_six content frame f =
    let counted : map content_of (filter fine (f.body ∷ [])) ≡ content ∷ [] = sym (ap (λ gaps. map content_of (filter fine gaps)) f.only)
    ∙ f.holds in
    good_has_no_six (has_six f.body) (not (nat_eq (length (unstuffed f.body) % 8) 0)) (nat_lt (length (octets_in f.body)) 5)
    (nat_lt 302 (length (octets_in f.body))) (not (checks (octets_in f.body)))
    (good_only (class_of f.body) (go (fine f.body) counted))
  where
    fine : List Bool → Bool
    fine gap = is_class Good (class_of gap)

    go : (t : Bool) → map content_of (cond t (f.body ∷ []) []) ≡ content ∷ [] → t ≡ true
    go true e = refl
    go false e = cc

pub one_frame : OneFrame
one_frame content one other f g =
    let same : unstuffed f.body ≡ unstuffed g.body = f.sent ∙ sym g.sent in
    let bodies : f.body ≡ g.body =
    text_is f.body (no_six content one f) f.stuffed ∙
    (ap (λ bits. stuffed (reverse bits) ++ due (reverse bits)) same ∙ sym (text_is g.body (no_six content other g) g.stuffed)) in
    f.is ∙ (ap (λ body. flag ++ body ++ flag) bodies ∙ sym g.is)
