-- One bit more of a gap, and the class of what is kept of it.
use Rattle.std.proofs.Common.{◌≡◌, ℕ, suc, ◌+◌, ◌-◌, ◌%◌, ◌<◌, ◌≤◌, Bool, true, false, ◌||◌, not, List, [], ◌∷◌, ◌++◌, length, take, cond}
use Rattle.std.proofs.Common.{min, refl, ap, sym, ◌∙◌, arith, nat_eq, nat_lt, inl, inr}
use Rattle.std.proofs.lemmas.List.{take_all, append-nil}
use Rattle.std.proofs.lemmas.Bool.{ne_eqb, eq-eqb, lt-ltb, le-ltb, cases_lt, ltb-false}
use Rattle.hdlc.specs.declared.gap.Gap.{Gap}
use Rattle.hdlc.specs.declared.counts.Class.TheVariants.{Good, Aborted, Ragged, Short, Long, Damaged}
use Rattle.hdlc.specs.Gaps.{unstuffed, has_six, class_of, octets_in, checks, content}
use Rattle.hdlc.specs.Assembles.{Assembles}
use Rattle.hdlc.specs.Collects.{Collects}
use Rattle.hdlc.proofs.UnstuffedLemmas.{ones, ones-more, has_six-more, unstuffed-more, length-more}

pub unstuffed-none : unstuffed [] ≡ []
unfolding unstuffed
unstuffed-none = refl

pub has_six-none : has_six [] ≡ false
unfolding has_six
has_six-none = refl

pub collects_none : (c : Gap) → c.seen ≡ 0 → c.ones ≡ 0 → c.aborted ≡ false → Assembles c.unstuffed [] → Collects c []
collects_none c seen ones aborted old = record {
  seen = seen;
  ones = ones;
  aborted = aborted ∙ sym has_six-none;
  unstuffed = rw unstuffed-none old;
}

-- the counts of one bit more
pub record Counted (c : Gap) (b : Bool) (new : Gap) : Type 0 where
  pub seen : c.seen ≤ 8 → new.seen ≡ min 8 (c.seen + 1)
  pub ones : c.ones ≤ 6 → new.ones ≡ cond b (min 6 (c.ones + 1)) 0
  pub aborted : new.aborted ≡ (c.aborted || nat_eq new.ones 6)

ones_more : (c new : Gap) (b : Bool) (gap : List Bool) → Collects c gap → Counted c b new → new.ones ≡ min 6 (ones (gap ++ b ∷ []))
ones_more c new b gap old counts = counts.ones (let e : c.ones ≡ min 6 (ones gap) = old.ones in omega arith) ∙ go b
  where
    go : (b : Bool) → cond b (min 6 (c.ones + 1)) 0 ≡ min 6 (ones (gap ++ b ∷ []))
    go true = let e : c.ones ≡ min 6 (ones gap) = old.ones in rw (ones-more gap true) (omega arith)
    go false = rw (ones-more gap false) refl

aborted_more : (c new : Gap) (b : Bool) (gap : List Bool) → Collects c gap → Counted c b new → new.aborted ≡ has_six (gap ++ b ∷ [])
aborted_more c new b gap old counts =
    counts.aborted ∙ (ap (λ x. x || nat_eq new.ones 6) old.aborted ∙ (ap (λ x. has_six gap || x) six ∙ sym (has_six-more gap b)))
  where
    is : new.ones ≡ min 6 (ones (gap ++ b ∷ []))
    is = ones_more c new b gap old counts

    go : (n : ℕ) → nat_eq (min 6 n) 6 ≡ nat_lt 5 n
    go n = elim (cases_lt 5 n) [
      | inl more ↦ eq-eqb (min 6 n) 6 (omega arith) ∙ sym (lt-ltb 5 n more)
      | inr few ↦ ne_eqb (min 6 n) 6 (λ e. omega arith) ∙ sym (le-ltb 5 n few)
    ]

    six : nat_eq new.ones 6 ≡ nat_lt 5 (ones (gap ++ b ∷ []))
    six = ap (λ n. nat_eq n 6) is ∙ go (ones (gap ++ b ∷ []))

seen_more : (c new : Gap) (b : Bool) (gap : List Bool) → Collects c gap → Counted c b new → new.seen ≡ min 8 (length (gap ++ b ∷ []))
seen_more c new b gap old counts =
    let e : c.seen ≡ min 8 (length gap) = old.seen in
    let size : length (gap ++ b ∷ []) ≡ suc (length gap) = length-more gap b in
    counts.seen (omega arith) ∙ omega arith

-- a bit directly after five 1 bits is left out
pub collects_stuffed : (c new : Gap) (b : Bool) (gap : List Bool) → Collects c gap → Counted c b new → 5 ≤ c.ones
    → new.unstuffed ≡ c.unstuffed → Collects new (gap ++ b ∷ [])
collects_stuffed c new b gap old counts five same =
    let e : c.ones ≡ min 6 (ones gap) = old.ones in
    let out : nat_lt (ones gap) 5 ≡ false = le-ltb (ones gap) 5 (omega arith) in
    let kept : unstuffed (gap ++ b ∷ []) ≡ unstuffed gap = unstuffed-more gap b ∙ (rw out (append-nil (unstuffed gap))) in
    record {
      seen = seen_more c new b gap old counts;
      ones = ones_more c new b gap old counts;
      aborted = aborted_more c new b gap old counts;
      unstuffed = rw (kept, same) old.unstuffed;
    }

pub collects_unstuffed : (c new : Gap) (b : Bool) (gap : List Bool) → Collects c gap → Counted c b new → c.ones < 5
    → Assembles new.unstuffed (unstuffed gap ++ b ∷ []) → Collects new (gap ++ b ∷ [])
collects_unstuffed c new b gap old counts few more =
    let e : c.ones ≡ min 6 (ones gap) = old.ones in
    let in_ : nat_lt (ones gap) 5 ≡ true = lt-ltb (ones gap) 5 (omega arith) in
    let grown : unstuffed (gap ++ b ∷ []) ≡ unstuffed gap ++ b ∷ [] = unstuffed-more gap b ∙ (rw in_ refl) in
    record {
      seen = seen_more c new b gap old counts;
      ones = ones_more c new b gap old counts;
      aborted = aborted_more c new b gap old counts;
      unstuffed = rw grown more;
    }

good_is_not_long : (a b c d e : Bool) → cond a Aborted (cond b Ragged (cond c Short (cond d Long (cond e Damaged Good)))) ≡ Good → d ≡ false
good_is_not_long true b c d e h = cc
good_is_not_long false true c d e h = cc
good_is_not_long false false true d e h = cc
good_is_not_long false false false true e h = cc
good_is_not_long false false false false e h = refl

whole_is : (c : Gap) (gap : List Bool) → Collects c gap → nat_lt 302 (length (octets_in gap)) ≡ false
    → c.unstuffed.whole.items ≡ octets_in gap
whole_is c gap old e = let le : length (octets_in gap) ≤ 302 = ltb-false 302 (length (octets_in gap)) e in old.unstuffed.whole
    ∙ take_all 302 (octets_in gap) le

-- the content of a good gap
pub good_content : (c : Gap) (gap : List Bool) (n : ℕ) → Collects c gap → class_of gap ≡ Good → n ≡ length c.unstuffed.whole.items - 2
    → take n c.unstuffed.whole.items ≡ content gap
good_content c gap n old fine size =
    let is : c.unstuffed.whole.items ≡ octets_in gap =
    whole_is c gap old (good_is_not_long (has_six gap) (not (nat_eq (length (unstuffed gap) % 8) 0)) (nat_lt (length (octets_in gap)) 5)
    (nat_lt 302 (length (octets_in gap))) (not (checks (octets_in gap))) fine) in
    rw (size, is) refl

-- past the other classes the check sequence decides
pub class_checked : (c : Gap) (gap : List Bool) → Collects c gap → c.aborted ≡ false → c.unstuffed.part ≡ 0
    → 5 ≤ length c.unstuffed.whole.items → c.unstuffed.long ≡ false
    → class_of gap ≡ cond (not (checks c.unstuffed.whole.items)) Damaged Good
class_checked c gap old aborted part five long =
    let one : has_six gap ≡ false = sym old.aborted ∙ aborted in
    let two : nat_eq (length (unstuffed gap) % 8) 0 ≡ true = eq-eqb (length (unstuffed gap) % 8) 0 (sym old.unstuffed.part ∙ part) in
    let four : nat_lt 302 (length (octets_in gap)) ≡ false = sym old.unstuffed.long ∙ long in
    let is : c.unstuffed.whole.items ≡ octets_in gap = whole_is c gap old four in
    let size : 5 ≤ length (octets_in gap) = rw (← is) five in
    let three : nat_lt (length (octets_in gap)) 5 ≡ false = le-ltb (length (octets_in gap)) 5 size in
    rw (one, two, three, four, is) refl
