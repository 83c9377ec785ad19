-- How long a frame can be: after five 1 bits a 0 bit is stuffed, so there is at most one for each five of the others.
use Rattle.std.proofs.Common.{◌≡◌, ◌≤◌, ◌+◌, ◌*◌, ◌%◌, ℕ, suc, Bool, true, false, ◌||◌, List, [], ◌∷◌, ◌++◌, cond, refl, ap, sym, ◌∙◌}
use Rattle.std.proofs.Common.{arith, inl, inr, length, map, nat_eq, nat_lt, not, reverse, length-append}
use Rattle.std.specs.List.{filter}
use Rattle.std.proofs.lemmas.List.{append-nil, reverse-append, reverse-reverse}
use Rattle.std.proofs.lemmas.Bool.{cases_lt, lt-ltb, ltb-false}
use Rattle.raster.specs.declared.packed.Order.TheVariants.{LsbFirst}
use Rattle.raster.proofs.PackedLemmas.{length-bits_in}
use Rattle.hdlc.specs.Fcs.{check_octets}
use Rattle.hdlc.specs.Flags.{flag}
use Rattle.hdlc.specs.Frames.{IsFrame}
use Rattle.hdlc.specs.Gaps.{checks, class_of, content as content_of, has_six, is_class, octets_in, unstuffed}
use Rattle.hdlc.specs.declared.counts.Class.TheVariants.{Good, Aborted, Ragged, Short, Long, Damaged}
use Rattle.hdlc.proofs.DeframerPartsLemmas.{good_only}
use Rattle.hdlc.proofs.Division.{check_octets_are}
use Rattle.hdlc.proofs.UnstuffedLemmas.{has_six-more, length-more, ones, ones-more, unstuffed-more}
use Rattle.terminals.specs.BurstSizes.{FramesAreShort}

or_false : (a b : Bool) → (a || b) ≡ false → b ≡ false
or_false true b e = cc e
or_false false b e = e

-- one bit more
one_longer : (text : List Bool) (b : Bool) → 5 * length text + ones text ≤ 6 * length (unstuffed text) → has_six (text ++ b ∷ []) ≡ false →
    5 * length (text ++ b ∷ []) + ones (text ++ b ∷ []) ≤ 6 * length (unstuffed (text ++ b ∷ []))
one_longer text b few six = elim (cases_lt (ones text) 5) [
  | inl low ↦
      let kept : unstuffed (text ++ b ∷ []) ≡ unstuffed text ++ b ∷ [] =
      unstuffed-more text b ∙ ap (λ t. unstuffed text ++ cond t (b ∷ []) []) (lt-ltb (ones text) 5 low) in
      let size : length (unstuffed (text ++ b ∷ [])) ≡ suc (length (unstuffed text)) = ap length kept ∙ length-more (unstuffed text) b in
      kept_so b (length-more text b) (ones-more text b) size
  | inr high ↦
      let out : unstuffed (text ++ b ∷ []) ≡ unstuffed text =
      unstuffed-more text b ∙ (ap (λ t. unstuffed text ++ cond t (b ∷ []) []) (le-ltb' (ones text) 5 high) ∙ append-nil (unstuffed text)) in
      let most : ones (text ++ b ∷ []) ≤ 5 =
      ltb-false 5 (ones (text ++ b ∷ [])) (or_false (has_six text) (nat_lt 5 (ones (text ++ b ∷ []))) (sym (has_six-more text b) ∙ six)) in
      out_so b high (length-more text b) (ones-more text b) (ap length out) most
]
  where
    le-ltb' : (n m : ℕ) → m ≤ n → nat_lt n m ≡ false
    le-ltb' n m h = grind (arith)

    kept_so : (c : Bool) {n o u : ℕ} → n ≡ suc (length text) → o ≡ cond c (1 + ones text) 0 → u ≡ suc (length (unstuffed text)) →
        5 * n + o ≤ 6 * u
    kept_so true p q r = omega (arith, p, q, r, few)
    kept_so false p q r = omega (arith, p, q, r, few)

    out_so : (c : Bool) {n o u : ℕ} → 5 ≤ ones text → n ≡ suc (length text) → o ≡ cond c (1 + ones text) 0 → u ≡ length (unstuffed text) →
        o ≤ 5 → 5 * n + o ≤ 6 * u
    out_so true high p q r most = omega (arith, high, p, q, r, most, few)
    out_so false high p q r most = omega (arith, high, p, q, r, most, few)

all_longer : (r : List Bool) → has_six (reverse r) ≡ false → 5 * length (reverse r) + ones (reverse r) ≤ 6 * length (unstuffed (reverse r))
all_longer [] six = omega arith
all_longer (b ∷ r) six =
    let split : reverse (b ∷ r) ≡ reverse r ++ b ∷ [] = reverse-append (b ∷ []) r in
    let here : has_six (reverse r ++ b ∷ []) ≡ false = ap has_six (sym split) ∙ six in
    let before : has_six (reverse r) ≡ false = or_first (has_six (reverse r)) _ (sym (has_six-more (reverse r) b) ∙ here) in
    rw split (one_longer (reverse r) b (all_longer r before) here)
  where
    or_first : (a b : Bool) → (a || b) ≡ false → a ≡ false
    or_first true b e = cc e
    or_first false b e = refl

-- a text with no six 1 bits in a row has at most six bits for each five unstuffed ones
text_longer : (text : List Bool) → has_six text ≡ false → 5 * length text ≤ 6 * length (unstuffed text)
text_longer text six =
    let back : reverse (reverse text) ≡ text = reverse-reverse text in
    let all = all_longer (reverse text) (ap has_six back ∙ six) in
    let same : 5 * length text + ones text ≤ 6 * length (unstuffed text) = rw back at all in
    omega (arith, same)

good_has_no_six : (a b c d e : Bool) → cond a Aborted (cond b Ragged (cond c Short (cond d Long (cond e Damaged Good)))) ≡ Good → a ≡ false
good_has_no_six true b c d e h = cc
good_has_no_six false b c d e h = refl

no_six : (content : List ℕ) (frame : List Bool) → (f : IsFrame content frame) → has_six f.body ≡ false
no_six content frame f =
    let counted : map content_of (filter fine (f.body ∷ [])) ≡ content ∷ [] = sym (ap (λ gaps. map content_of (filter fine gaps)) f.only)
    ∙ f.holds in
    good_has_no_six (has_six f.body) (not (nat_eq (length (unstuffed f.body) % 8) 0)) (nat_lt (length (octets_in f.body)) 5)
    (nat_lt 302 (length (octets_in f.body))) (not (checks (octets_in f.body)))
    (good_only (class_of f.body) (go (fine f.body) counted))
  where
    fine : List Bool → Bool
    fine gap = is_class Good (class_of gap)

    go : (t : Bool) → map content_of (cond t (f.body ∷ []) []) ≡ content ∷ [] → t ≡ true
    go true e = refl
    go false e = cc

pub frames_are_short : FramesAreShort
frames_are_short content bits f =
    let body = text_longer f.body (no_six content bits f) in
    let octets = content ++ check_octets content in
    let sent : length (unstuffed f.body) ≡ 8 * length octets = ap length f.sent ∙ length-bits_in LsbFirst octets (8 * length octets) in
    let size : length octets ≡ length content + 2 = length-append content (check_octets content)
    ∙ ap (λ (xs : List ℕ). length content + length xs) (check_octets_are content) in
    let whole : length bits ≡ 16 + length f.body =
    ap length f.is ∙ (length-append flag (f.body ++ flag) ∙ ap (λ n. 8 + n) (length-append f.body flag) ∙ omega arith) in
    omega (arith, body, sent, size, whole)
