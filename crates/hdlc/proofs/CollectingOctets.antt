-- Eight bits more of a gap, by the table of unstuffed bits.
use Rattle.std.proofs.Common.{◌≡◌, ℕ, ◌+◌, ◌*◌, ◌/◌, ◌%◌, ◌<◌, ◌≤◌, Bool, true, false, not, ◌||◌, ◌&&◌, List, [], ◌∷◌, ◌++◌}
use Rattle.std.proofs.Common.{length, cond, min, refl, ap, sym, ◌∙◌, arith, nat_eq, nat_lt, append_assoc, get_or, inl, inr}
use Rattle.std.proofs.lemmas.List.{append-nil, length-append}
use Rattle.std.proofs.lemmas.List.FromFn.{get_or-map-range_with_len}
use Rattle.std.proofs.lemmas.Bool.{lt-ltb, le-ltb, cases_lt, eq-eqb, ne_eqb}
use Rattle.hdlc.specs.declared.gap.Gap.{Gap}
use Rattle.raster.specs.Octets.{number}
use Rattle.hdlc.specs.Gaps.{unstuffed, has_six}
use Rattle.hdlc.specs.Assembles.{Assembles}
use Rattle.hdlc.specs.Collects.{Collects}
use Rattle.hdlc.specs.EightBits.{run_after, unstuffed_from, six_from, ones_at_end, unstuffed_entry, unstuffed_entries}
use Rattle.raster.proofs.OctetBits.{octet_bits}
use Rattle.hdlc.proofs.UnstuffedLemmas.{ones, ones-more, has_six-more, unstuffed-more, number_fits}

-- what a run of at most five tells of one that may be longer
few_same : (m n : ℕ) → n ≡ min 5 m → nat_lt m 5 ≡ nat_lt n 5
few_same m n h = elim (cases_lt m 5) [
  | inl few ↦ lt-ltb m 5 few ∙ sym (lt-ltb n 5 (omega arith))
  | inr many ↦ le-ltb m 5 many ∙ sym (le-ltb n 5 (omega arith))
]

run_more : (gap : List Bool) (b : Bool) (n : ℕ) → n ≡ min 5 (ones gap) → run_after n b ≡ min 5 (ones (gap ++ b ∷ []))
run_more gap true n h = rw (ones-more gap true) (omega arith)
run_more gap false n h = rw (ones-more gap false) refl

pub unstuffed_run : (gap more : List Bool) (n : ℕ) → n ≡ min 5 (ones gap) → unstuffed (gap ++ more) ≡ unstuffed gap ++ unstuffed_from n more
unstuffed_run gap [] n h = ap unstuffed (append-nil gap) ∙ sym (append-nil (unstuffed gap))
unstuffed_run gap (b ∷ more) n h =
    let rest : List Bool = unstuffed_from (run_after n b) more in
    let one : unstuffed (gap ++ b ∷ []) ≡ unstuffed gap ++ cond (nat_lt n 5) (b ∷ []) [] =
    unstuffed-more gap b ∙ ap (λ t. unstuffed gap ++ cond t (b ∷ []) []) (few_same (ones gap) n h) in
    ap unstuffed (sym (append_assoc gap (b ∷ []) more)) ∙
    (unstuffed_run (gap ++ b ∷ []) more (run_after n b) (run_more gap b n h) ∙
    (ap (λ xs. xs ++ rest) one ∙ append_assoc (unstuffed gap) (cond (nat_lt n 5) (b ∷ []) []) rest))

or_false : (x : Bool) → (x || false) ≡ x
or_false true = refl
or_false false = refl

or_assoc : (x y z : Bool) → ((x || y) || z) ≡ (x || (y || z))
or_assoc true y z = refl
or_assoc false y z = refl

sixth : (gap : List Bool) (b : Bool) (n : ℕ) → n ≡ min 5 (ones gap) → nat_lt 5 (ones (gap ++ b ∷ [])) ≡ (not (nat_lt n 5) && b)
sixth gap true n h = elim (cases_lt (ones gap) 5) [
  | inl few ↦ rw (ones-more gap true, lt-ltb n 5 (omega arith)) (le-ltb 5 (1 + ones gap) (omega arith))
  | inr many ↦ rw (ones-more gap true, le-ltb n 5 (omega arith)) (lt-ltb 5 (1 + ones gap) (omega arith))
]
sixth gap false n h = elim (cases_lt (ones gap) 5) [
  | inl few ↦ rw (ones-more gap false, lt-ltb n 5 (omega arith)) refl
  | inr many ↦ rw (ones-more gap false, le-ltb n 5 (omega arith)) refl
]

pub six_run : (gap more : List Bool) (n : ℕ) → n ≡ min 5 (ones gap) → has_six (gap ++ more) ≡ (has_six gap || six_from n more)
six_run gap [] n h = ap has_six (append-nil gap) ∙ sym (or_false (has_six gap))
six_run gap (b ∷ more) n h =
    let rest : Bool = six_from (run_after n b) more in
    let one : has_six (gap ++ b ∷ []) ≡ (has_six gap || (not (nat_lt n 5) && b)) =
    has_six-more gap b ∙ ap (λ x. has_six gap || x) (sixth gap b n h) in
    ap has_six (sym (append_assoc gap (b ∷ []) more)) ∙
    (six_run (gap ++ b ∷ []) more (run_after n b) (run_more gap b n h) ∙
    (ap (λ x. x || rest) one ∙ or_assoc (has_six gap) (not (nat_lt n 5) && b) rest))

pub ones_run : (gap more : List Bool) → ones (gap ++ more) ≡ ones_at_end (ones gap) more
ones_run gap [] = ap ones (append-nil gap)
ones_run gap (b ∷ more) =
    ap ones (sym (append_assoc gap (b ∷ []) more)) ∙ (ones_run (gap ++ b ∷ []) more ∙ ap (λ n. ones_at_end n more) (ones-more gap b))

pub end_same : (m n : ℕ) (more : List Bool) → min 6 m ≡ min 6 n → min 6 (ones_at_end m more) ≡ min 6 (ones_at_end n more)
end_same m n [] h = h
end_same m n (true ∷ more) h = end_same (1 + m) (1 + n) more (omega arith)
end_same m n (false ∷ more) h = refl

-- ---- the tables, by computing

pub entry_is : (row octet d : ℕ) → row % 256 ≡ 0 → row ≤ 1536 → octet < 256 → get_or unstuffed_entries (row + octet) d
    ≡ number (unstuffed_from (min 5 (row / 256)) (octet_bits octet)) + 256 * min 6 (ones_at_end (row / 256) (octet_bits octet))
    + cond (six_from (min 5 (row / 256)) (octet_bits octet)) 2048 0 + 4096 * length (unstuffed_from (min 5 (row / 256)) (octet_bits octet))
entry_is row octet d whole most small =
    let place : ℕ = row + octet in
    let same : place / 256 ≡ row / 256 = omega arith in
    let column : place % 256 ≡ octet = omega arith in
    let one : ℕ → ℕ → ℕ = λ r o. number (unstuffed_from (min 5 r) (octet_bits o)) + 256 * min 6 (ones_at_end r (octet_bits o))
    + cond (six_from (min 5 r) (octet_bits o)) 2048 0 + 4096 * length (unstuffed_from (min 5 r) (octet_bits o)) in
    get_or-map-range_with_len unstuffed_entry 0 1792 place place d (omega arith) (omega arith)
    ∙ (ap (λ r. one r (place % 256)) same ∙ ap (λ o. one (row / 256) o) column)

-- of eight bits at most eight are unstuffed
pub unstuffed_few : (n : ℕ) (bits : List Bool) → length (unstuffed_from n bits) ≤ length bits
unstuffed_few n [] = omega arith
unstuffed_few n (b ∷ bits) =
    let rest : length (unstuffed_from (run_after n b) bits) ≤ length bits = unstuffed_few (run_after n b) bits in
    go (nat_lt n 5) rest
  where
    go : (t : Bool) → length (unstuffed_from (run_after n b) bits) ≤ length bits
        → length (cond t (b ∷ []) [] ++ unstuffed_from (run_after n b) bits) ≤ length (b ∷ bits)
    go true h = omega arith
    go false h = omega arith

-- the parts of an entry
parts_of : (v c o e : ℕ) (six : Bool) → v < 256 → o ≤ 6 → e ≡ v + 256 * o + cond six 2048 0 + 4096 * c
    → (e % 256 ≡ v) × (e / 4096 ≡ c) × (e / 256 % 8 * 256 ≡ o * 256) × (nat_eq (e / 2048 % 2) 1 ≡ six)
parts_of v c o e true small most is =
    let one : e / 2048 % 2 ≡ 1 = omega arith in (omega arith, omega arith, omega arith, eq-eqb (e / 2048 % 2) 1 one)
parts_of v c o e false small most is =
    let none : e / 2048 % 2 ≡ 0 = omega arith in (omega arith, omega arith, omega arith, ne_eqb (e / 2048 % 2) 1 (λ h. omega arith))

-- what the entry of an octet says
pub entry_parts : (row octet d e : ℕ) → row % 256 ≡ 0 → row ≤ 1536 → octet < 256 → e ≡ get_or unstuffed_entries (row + octet) d
    → (e % 256 ≡ number (unstuffed_from (min 5 (row / 256)) (octet_bits octet)))
    × (e / 4096 ≡ length (unstuffed_from (min 5 (row / 256)) (octet_bits octet)))
    × (e / 256 % 8 * 256 ≡ min 6 (ones_at_end (row / 256) (octet_bits octet)) * 256)
    × (nat_eq (e / 2048 % 2) 1 ≡ six_from (min 5 (row / 256)) (octet_bits octet))
entry_parts row octet d e whole most small is =
    let left : List Bool = unstuffed_from (min 5 (row / 256)) (octet_bits octet) in
    let few : length left ≤ 8 = unstuffed_few (min 5 (row / 256)) (octet_bits octet) in
    parts_of (number left) (length left) (min 6 (ones_at_end (row / 256) (octet_bits octet))) e
    (six_from (min 5 (row / 256)) (octet_bits octet)) (number_fits left 8 few) (omega arith)
    (is ∙ entry_is row octet d whole most small)

pub collects_octet : (c new : Gap) (gap : List Bool) (octet : ℕ) → Collects c gap → octet < 256 → new.seen ≡ 8
    → new.ones ≡ min 6 (ones_at_end c.ones (octet_bits octet))
    → new.aborted ≡ (c.aborted || six_from (min 5 c.ones) (octet_bits octet))
    → Assembles new.unstuffed (unstuffed gap ++ unstuffed_from (min 5 c.ones) (octet_bits octet)) → Collects new (gap ++ octet_bits octet)
collects_octet c new gap octet old small seen last aborted more =
    let eight : List Bool = octet_bits octet in
    let is : c.ones ≡ min 6 (ones gap) = old.ones in
    let n : min 5 c.ones ≡ min 5 (ones gap) = omega arith in
    let size : length (gap ++ eight) ≡ length gap + 8 = length-append gap eight in
    record {
      seen = omega arith;
      ones =
          last ∙ (end_same c.ones (ones gap) eight (omega arith) ∙ ap (min 6) (sym (ones_run gap eight)));
      aborted =
          aborted ∙ (ap (λ x. x || six_from (min 5 c.ones) eight) old.aborted ∙ sym (six_run gap eight (min 5 c.ones) n));
      unstuffed = rw (unstuffed_run gap eight (min 5 c.ones) n) more;
    }
