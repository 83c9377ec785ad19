-- One bit more of a stuffed text, and its end.
use Rattle.std.proofs.Common.{◌≡◌, ℕ, zero, suc, ◌+◌, ◌-◌, ◌≤◌, Bool, true, false, ◌||◌, List, [], ◌∷◌, ◌++◌, length, take, drop, cond}
use Rattle.std.proofs.Common.{refl, ap, sym, ◌∙◌, arith, inl, inr, nat_lt, append_assoc, replicate, reverse}
use Rattle.std.specs.List.{prefix_len}
use Rattle.std.proofs.lemmas.List.{append-nil, length-append, take_at, take-take, reverse-append, reverse-reverse, length-reverse}
use Rattle.std.proofs.lemmas.Bool.{cases_Bool, le-ltb, lt-ltb}
use Rattle.run_tables.specs.Texts.{begins}
use Rattle.hdlc.specs.Flags.{flag, flags, gaps}
use Rattle.hdlc.specs.Gaps.{unstuffed, has_six}
use Rattle.hdlc.specs.Writing.{Alone, Written, IsWriting}
use Rattle.hdlc.specs.OpenGap.{recent, settled, settled_after, at_flag}
use Rattle.hdlc.proofs.Flags.{recent-more, length-recent}
use Rattle.hdlc.proofs.UnstuffedLemmas.{ones, ones-more, unstuffed-more, has_six-more, begins_whole}
use Rattle.hdlc.proofs.Gaps.{last_flag-more, gaps-more}
use Rattle.hdlc.proofs.FrameGrowsLemmas.{recent_flag}

abbrev eight : List Bool
eight = true ∷ true ∷ true ∷ true ∷ true ∷ true ∷ true ∷ true ∷ []

reverse_rest : (w : List Bool) → length w ≡ 8 → reverse (drop 1 w) ≡ take 7 (reverse w)
reverse_rest [] h = absurd (omega arith)
reverse_rest (x ∷ w) h =
    let size : length (reverse w) ≡ 7 = length-reverse w ∙ omega arith in
    sym (ap (take 7) (reverse-append (x ∷ []) w) ∙ take_at (reverse w) (x ∷ []) 7 size)

-- the register backwards is the front of the bits backwards
reverse_recent : (r : List Bool) → reverse (recent true (reverse r)) ≡ take 8 (r ++ eight)
unfolding recent
reverse_recent [] = refl
reverse_recent (b ∷ r) =
    ap (λ xs. reverse (recent true xs)) (reverse-append (b ∷ []) r) ∙
    (ap reverse (recent-more true (reverse r) b) ∙
    (reverse-append (drop 1 (recent true (reverse r))) (b ∷ []) ∙
    ap (λ xs. b ∷ xs) (reverse_rest (recent true (reverse r)) (length-recent true (reverse r))
    ∙ (ap (take 7) (reverse_recent r) ∙ take-take 7 8 (r ++ eight) (omega arith)))))

no_six : (r : List Bool) → prefix_len (λ bit. bit) r ≤ 5 → take 7 (r ++ eight) ≡ true ∷ true ∷ true ∷ true ∷ true ∷ true ∷ false ∷ [] → ⊥
no_six [] h e = cc
no_six (false ∷ r) h e = cc
no_six (true ∷ []) h e = cc
no_six (true ∷ false ∷ r) h e = cc
no_six (true ∷ true ∷ []) h e = cc
no_six (true ∷ true ∷ false ∷ r) h e = cc
no_six (true ∷ true ∷ true ∷ []) h e = cc
no_six (true ∷ true ∷ true ∷ false ∷ r) h e = cc
no_six (true ∷ true ∷ true ∷ true ∷ []) h e = cc
no_six (true ∷ true ∷ true ∷ true ∷ false ∷ r) h e = cc
no_six (true ∷ true ∷ true ∷ true ∷ true ∷ []) h e = cc
no_six (true ∷ true ∷ true ∷ true ∷ true ∷ false ∷ r) h e = cc
no_six (true ∷ true ∷ true ∷ true ∷ true ∷ true ∷ r) h e = omega arith

-- a flag ends only after six 1 bits
pub at_flag_ones : (xs : List Bool) (b : Bool) → ones xs ≤ 5 → at_flag (xs ++ b ∷ []) ≡ false
at_flag_ones xs b few = elim (cases_Bool (at_flag (xs ++ b ∷ []))) [
  | inr isnt ↦ isnt
  | inl is ↦
      let whole : flag ≡ recent true (xs ++ b ∷ []) =
      begins_whole flag (recent true (xs ++ b ∷ [])) (sym (length-recent true (xs ++ b ∷ []))) is in
      let back : xs ++ b ∷ [] ≡ reverse (b ∷ reverse xs) =
      sym (reverse-append (b ∷ []) (reverse xs) ∙ ap (λ ys. ys ++ b ∷ []) (reverse-reverse xs)) in
      let front : reverse flag ≡ take 8 ((b ∷ reverse xs) ++ eight) = ap reverse (whole ∙ ap (recent true) back)
      ∙ reverse_recent (b ∷ reverse xs) in
      absurd (no_six (reverse xs) few (sym (ap (drop 1) front)))
]

pub alone_more : (xs : List Bool) (b : Bool) → ones xs ≤ 5 → Alone xs → Alone (xs ++ b ∷ [])
alone_more xs b few alone =
    let isnt : at_flag (xs ++ b ∷ []) ≡ false = at_flag_ones xs b few in
    record {
      last = last_flag-more xs b ∙ (rw isnt alone.last);
      none = gaps-more xs b ∙ (rw isnt (append-nil (gaps xs) ∙ alone.none));
    }

stops : (r t : List Bool) → prefix_len (λ bit. bit) (r ++ false ∷ t) ≡ prefix_len (λ bit. bit) r
stops [] t = refl
stops (false ∷ r) t = refl
stops (true ∷ r) t = ap (λ n. 1 + n) (stops r t)

ones_after_flag : (pre : List Bool) → ones (flag ++ pre) ≡ ones pre
ones_after_flag pre = ap (prefix_len (λ bit. bit)) (reverse-append flag pre) ∙ stops (reverse pre) _

written_any : (pre bits : List Bool) (count : ℕ) (b : Bool) → Written pre bits count → count ≤ 5 → ones (pre ++ b ∷ []) ≤ 5
    → Written (pre ++ b ∷ []) (bits ++ cond (nat_lt count 5) (b ∷ []) []) (cond b (1 + count) 0)
written_any pre bits count b w few more =
    let is : ones pre ≡ count = w.ends in
    let before : ones (flag ++ pre) ≤ 5 = rw (ones_after_flag pre, is) few in
    record {
      alone = alone_more (flag ++ pre) b before w.alone;
      ends = ones-more pre b ∙ ap (λ n. cond b (1 + n) 0) is;
      six = has_six-more pre b ∙ (ap (λ x. x || nat_lt 5 (ones (pre ++ b ∷ []))) w.six ∙ le-ltb 5 (ones (pre ++ b ∷ [])) more);
      unstuffed =
          unstuffed-more pre b ∙ (ap (λ c. c ++ cond (nat_lt (ones pre) 5) (b ∷ []) []) w.unstuffed
          ∙ ap (λ n. bits ++ cond (nat_lt n 5) (b ∷ []) []) is);
    }

-- a 0 bit, or a 1 bit that is not the fifth
pub written_plain : (pre bits : List Bool) (count : ℕ) (b : Bool) → Written pre bits count → cond b (1 + count) 0 ≤ 4 → count ≤ 4
    → Written (pre ++ b ∷ []) (bits ++ b ∷ []) (cond b (1 + count) 0)
written_plain pre bits count b w more few =
    let is : ones pre ≡ count = w.ends in
    let size : ones (pre ++ b ∷ []) ≡ cond b (1 + count) 0 = ones-more pre b ∙ ap (λ n. cond b (1 + n) 0) is in
    let in_ : nat_lt count 5 ≡ true = lt-ltb count 5 (omega arith) in
    rw in_ at (written_any pre bits count b w (omega arith) (omega arith))

-- the fifth 1 bit, and the 0 bit that is put after it
pub written_fifth : (pre bits : List Bool) → Written pre bits 4 → Written ((pre ++ true ∷ []) ++ false ∷ []) (bits ++ true ∷ []) 0
written_fifth pre bits w =
    let is : ones pre ≡ 4 = w.ends in
    let one : ones (pre ++ true ∷ []) ≡ 5 = ones-more pre true ∙ ap (λ n. 1 + n) is in
    let fifth : Written (pre ++ true ∷ []) (bits ++ true ∷ []) 5 = written_any pre bits 4 true w (omega arith) (omega arith) in
    let zero_ : ones ((pre ++ true ∷ []) ++ false ∷ []) ≡ 0 = ones-more (pre ++ true ∷ []) false in
    let both : Written ((pre ++ true ∷ []) ++ false ∷ []) ((bits ++ true ∷ []) ++ []) 0 =
    written_any (pre ++ true ∷ []) (bits ++ true ∷ []) 5 false fifth (omega arith) (omega arith) in
    rw append-nil at both

pub written_none : Written [] [] 0
unfolding flags gaps has_six unstuffed
written_none = record { alone = record { last = refl; none = refl }; ends = refl; six = refl; unstuffed = refl }

alone_ones : (k : ℕ) (xs : List Bool) → ones xs + k ≤ 6 → Alone xs → Alone (xs ++ replicate k true)
alone_ones zero xs h alone = rw append-nil alone
alone_ones (suc k) xs h alone =
    let one : ones (xs ++ true ∷ []) ≡ 1 + ones xs = ones-more xs true in
    rw (← append_assoc xs (true ∷ []) (replicate k true))
    (alone_ones k (xs ++ true ∷ []) (omega arith) (alone_more xs true (omega arith) alone))

-- after the closing flag the text is the only gap
pub closes_written : (body bits : List Bool) (count : ℕ) → Written body bits count → count ≤ 4 → 8 ≤ length body
    → gaps (flag ++ body ++ flag) ≡ body ∷ []
closes_written body bits count w few long =
    let is : ones body ≡ count = w.ends in
    let start : List Bool = flag ++ body in
    let n0 : ones start ≤ 5 = rw (ones_after_flag body, is) (omega arith) in
    let e1 : ones (start ++ false ∷ []) ≡ 0 = ones-more start false in
    let all : List Bool = (start ++ false ∷ []) ++ replicate 6 true in
    let alone : Alone all = alone_ones 6 (start ++ false ∷ []) (omega arith) (alone_more start false n0 w.alone) in
    let joined : all ++ false ∷ [] ≡ start ++ flag = ap (λ xs. xs ++ false ∷ []) (append_assoc start (false ∷ []) (replicate 6 true))
    ∙ append_assoc start (false ∷ replicate 6 true) (false ∷ []) in
    let ends : at_flag (all ++ false ∷ []) ≡ true = ap at_flag joined ∙ ap (begins flag) (recent_flag start) in
    let size : length all ≡ length start + 7 = ap length (append_assoc start (false ∷ []) (replicate 6 true))
    ∙ length-append start (false ∷ replicate 6 true) in
    let less : length all - 7 ≡ length start = omega arith in
    let front : take (length all - 7) all ≡ start =
    ap (λ n. take n all) less ∙ (ap (take (length start)) (append_assoc start (false ∷ []) (replicate 6 true))
    ∙ take_at start (false ∷ replicate 6 true) (length start) refl) in
    let gap : settled all ≡ body = ap (settled_after all) alone.last ∙ ap (drop 8) front in
    let counted : nat_lt 7 (length body) ≡ true = lt-ltb 7 (length body) long in
    ap gaps (sym joined) ∙ (gaps-more all false ∙ (rw (ends, gap, counted, alone.none) refl))

-- the steps of a writer
pub writes_plain : (old new start bits : List Bool) (count : ℕ) (b : Bool) → IsWriting old start bits count → new ≡ old ++ b ∷ []
    → cond b (1 + count) 0 ≤ 4 → IsWriting new start (bits ++ b ∷ []) (cond b (1 + count) 0)
writes_plain old new start bits count b w is small = record {
  pre = w.pre ++ b ∷ [];
  text = written_plain w.pre bits count b w.text small w.few;
  is = is ∙ (ap (λ xs. xs ++ b ∷ []) w.is ∙ more start flag w.pre (b ∷ []));
  few = small;
}
  where
    more : (s f p x : List Bool) → (s ++ f ++ p) ++ x ≡ s ++ f ++ (p ++ x)
    more s f p x = simp append_assoc

pub writes_fifth : (old new start bits : List Bool) → IsWriting old start bits 4 → new ≡ (old ++ true ∷ []) ++ false ∷ []
    → IsWriting new start (bits ++ true ∷ []) 0
writes_fifth old new start bits w is = record {
  pre = (w.pre ++ true ∷ []) ++ false ∷ [];
  text = written_fifth w.pre bits w.text;
  is = is ∙ (ap (λ xs. (xs ++ true ∷ []) ++ false ∷ []) w.is ∙ more start flag w.pre (true ∷ []) (false ∷ []));
  few = omega arith;
}
  where
    more : (s f p x y : List Bool) → ((s ++ f ++ p) ++ x) ++ y ≡ s ++ f ++ ((p ++ x) ++ y)
    more s f p x y = simp append_assoc

pub writes_none : (old new : List Bool) → new ≡ old ++ flag → IsWriting new old [] 0
writes_none old new is = record { pre = []; text = written_none; is = is ∙ sym (append-nil (old ++ flag)); few = omega arith }
