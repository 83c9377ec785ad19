-- What the read tables hold for the next bits, filled with 0 bits, is the code that is picked, or says that none is.
use Rattle.std.proofs.Common.{ℕ, zero, suc, ◌≡◌, ◌<◌, ◌≤◌, ◌-◌, Bool, true, false, List, [], ◌∷◌, ◌++◌, length, get_or, replicate, Some, None, refl, ap, sym}
use Rattle.std.proofs.Common.{◌∙◌, arith, ltb, ◌&&◌, ◌||◌}
use Rattle.std.specs.Prelude.{Option, Contains}
use Rattle.std.specs.List.{list_all}
use Rattle.std.proofs.lemmas.Bool.{and_parts, false≢true, ltb-true}
use Rattle.raster.specs.declared.row.Color.{Color}
use Rattle.raster.specs.declared.row.Color.TheVariants.{White, Black}
use Rattle.run_tables.specs.declared.reader.Among.{Among}
use Rattle.run_tables.specs.declared.reader.Among.TheVariants.{AllCodes, TerminatingCodes}
use Rattle.run_tables.specs.Codes.{code_word}
use Rattle.run_tables.specs.CodeReading.{first_runs, runs_among, IsNext}
use Rattle.run_tables.specs.Numbers.{first_bits}
use Rattle.run_tables.specs.ReadTables.{entry_picked, entry_for}
use Rattle.run_tables.specs.Texts.{begins, is_cut, pick}
use Rattle.run_tables.proofs.BeginsLemmas.{all_test, either_begins}
use Rattle.run_tables.proofs.CodeReads.{pick_stands, stands_pick}
use Rattle.run_tables.proofs.NumberLemmas.{begins_filled, begins_unfilled, begins_within}
use Rattle.run_tables.proofs.RunReads.{low_listed, low_run}

-- code words have 1 to 13 bits
length_test : (color : Color) → list_all (λ run. ltb 0 (length (code_word color run)) && ltb (length (code_word color run)) 14)
    (first_runs 104) ≡ true
unfolding code_word first_runs
length_test White = refl
length_test Black = refl

pub word_lengths : (color : Color) (run : ℕ) → Contains (runs_among AllCodes) run → (0 < length (code_word color run)) × (length
    (code_word color run) ≤ 13)
word_lengths color run listed =
    let parts = and_parts _ _ (all_test (λ n. ltb 0 (length (code_word color n)) && ltb (length (code_word color n)) 14) (first_runs
    104) run (length_test color) listed) in
    let above = ltb-true 0 (length (code_word color run)) parts.0 in
    let below = ltb-true (length (code_word color run)) 14 parts.1 in
    (above, omega (arith, below))

runs_test : list_all (λ n. ltb n 2624) (first_runs 104) ≡ true
unfolding first_runs
runs_test = refl

-- no code is for more than 2,623 pixels
pub run_small : (run : ℕ) → Contains (runs_among AllCodes) run → run < 2624
run_small run listed = ltb-true run 2624 (all_test (λ n. ltb n 2624) (first_runs 104) run runs_test listed)

-- the codes that may come are among all
listed_all : (among : Among) (run : ℕ) → Contains (runs_among among) run → Contains (runs_among AllCodes) run
listed_all AllCodes run listed = listed
listed_all TerminatingCodes run listed = low_listed AllCodes run (low_run run listed)

-- the table holds a code that is next
next_entry : (color : Color) (among : Among) (x : List Bool) (run : ℕ) → IsNext color among x run
    → entry_for color (first_bits 13 x) ≡ (run, length (code_word color run))
next_entry color among x run next =
    let listed = listed_all among run next.0 in
    ap (entry_picked color) (pick_stands color AllCodes (first_bits 13 x) run (
      listed,
      begins_filled (code_word color run) x 13 (word_lengths
          color run listed).1 next.1,
    ))

pub none_picked : (color : Color) (among : Among) (x : List Bool) → ((run : ℕ) → ¬ IsNext color among x run)
    → pick (code_word color) (runs_among among) x ≡ None
none_picked color among x none = at (pick (code_word color) (runs_among among) x) refl
  where
    at : (picked : Option ℕ) → pick (code_word color) (runs_among among) x ≡ picked → picked ≡ None
    at None e = refl
    at (Some run) e = absurd (none run (stands_pick color among x run e))

-- a code that the table holds and that the bits are long enough for is the one that is picked
pub entry_found : (color : Color) (x : List Bool) (run bits : ℕ) → (run, bits) ≡ entry_for color (first_bits 13 x) → 0 < bits → bits ≤
    length x
    → (pick (code_word color) (runs_among AllCodes) x ≡ Some run) × (bits ≡ length (code_word color run))
entry_found color x run bits is some fits = at (pick (code_word color) (first_runs 104) (first_bits 13 x)) refl is
  where
    at : (picked : Option ℕ) → pick (code_word color) (first_runs 104) (first_bits 13 x) ≡ picked → (run, bits) ≡ entry_picked color
        picked
        → (pick (code_word color) (runs_among AllCodes) x ≡ Some run) × (bits ≡ length (code_word color run))
    at None e same = absurd (omega (arith, ap (λ (p : ℕ × ℕ). p.1) same))
    at (Some r) e same =
        let run_is : run ≡ r = ap (λ (p : ℕ × ℕ). p.0) same in
        let bits_is : bits ≡ length (code_word color r) = ap (λ (p : ℕ × ℕ). p.1) same in
        let found = stands_pick color AllCodes (first_bits 13 x) r e in
        let begun = begins_unfilled (code_word color r) x 13 (word_lengths color r found.0).1 (omega (arith, bits_is)) found.1 in
        rw run_is (pick_stands color AllCodes x r (found.0, begun), bits_is)

-- the same among the terminating codes
pub entry_low : (color : Color) (x : List Bool) (run : ℕ) → pick (code_word color) (runs_among AllCodes) x ≡ Some run → run < 64
    → pick (code_word color) (runs_among TerminatingCodes) x ≡ Some run
entry_low color x run e low =
    pick_stands color TerminatingCodes x run (low_listed TerminatingCodes run low, (stands_pick color AllCodes x run e).1)

-- where the table holds none, none is
pub entry_none : (color : Color) (among : Among) (x : List Bool) (run bits : ℕ) → (run, bits) ≡ entry_for color (first_bits 13 x) → bits
    ≡ 0
    → pick (code_word color) (runs_among among) x ≡ None
entry_none color among x run bits is none = none_picked color among x (λ r next.
    let same = is ∙ next_entry color among x r next in
    omega (arith, ap (λ (p : ℕ × ℕ). p.1) same, (word_lengths color r (listed_all among r next.0)).0))

-- where the code that it holds is longer than the bits, none is
pub entry_past : (color : Color) (among : Among) (x : List Bool) (run bits : ℕ) → (run, bits) ≡ entry_for color (first_bits 13 x)
    → length x < bits → pick (code_word color) (runs_among among) x ≡ None
entry_past color among x run bits is past = none_picked color among x (λ r next.
    let same = is ∙ next_entry color among x r next in
    omega (arith, ap (λ (p : ℕ × ℕ). p.1) same, begins_within (code_word color r) x next.1))

-- where it holds a make-up code, no terminating code is
pub entry_high : (color : Color) (x : List Bool) (run bits : ℕ) → (run, bits) ≡ entry_for color (first_bits 13 x) → 64 ≤ run
    → pick (code_word color) (runs_among TerminatingCodes) x ≡ None
entry_high color x run bits is high = none_picked color TerminatingCodes x (λ r next.
    let same = is ∙ next_entry color TerminatingCodes x r next in
    omega (arith, ap (λ (p : ℕ × ℕ). p.0) same, low_run r next.0))

-- ---- the beginning of a code

or_true : (b : Bool) → (b || true) ≡ true
or_true true = refl
or_true false = refl

-- of two tests of which one holds, the second does if the first can't
second_holds : (a b : Bool) → (a || b) ≡ true → (a ≡ true → ⊥) → b ≡ true
second_holds true b e none = absurd (none refl)
second_holds false b e none = e

-- the bits are the beginning of a listed code
cut_listed : (color : Color) (runs : List ℕ) (run : ℕ) (x : List Bool) → Contains runs run → begins x (code_word color run) ≡ true
    → is_cut (code_word color) runs x ≡ true
cut_listed color runs run x listed begun = at runs listed.0 listed.1 listed.2
  where
    at : (rs : List ℕ) (k : ℕ) → k < length rs → get_or rs k run ≡ run → is_cut (code_word color) rs x ≡ true
    at [] k h is = absurd (omega arith)
    at (r ∷ rs) zero h is = rw (is, begun) refl
    at (r ∷ rs) (suc k) h is = rw (at rs k (omega arith) is) (or_true (begins x (code_word color r)))

only_filled : (n : ℕ) → first_bits n [] ≡ replicate n false
unfolding first_bits
only_filled zero = refl
only_filled (suc n) = ap (λ (l : List Bool). false ∷ l) (only_filled n)

-- bits with 0 bits after them
filled_after : (n : ℕ) (x : List Bool) → length x ≤ n → first_bits n x ≡ x ++ replicate (n - length x) false
unfolding first_bits
filled_after n [] h =
    let all : n ≡ n - length {A = Bool} [] = omega arith in
    only_filled n ∙ ap (λ (m : ℕ). replicate m false) all
filled_after zero (b ∷ x) h = absurd (omega arith)
filled_after (suc n) (b ∷ x) h =
    let left : n - length x ≡ suc n - length (b ∷ x) = omega arith in
    ap (λ (l : List Bool). b ∷ l) (filled_after n x (omega arith) ∙ ap (λ (m : ℕ). x ++ replicate m false) left)

-- bits that are fewer than the code that the table holds for them are its beginning
entry_begun : (color : Color) (x : List Bool) (run bits : ℕ) → (run, bits) ≡ entry_for color (first_bits 13 x) → length x < bits
    → Contains (runs_among AllCodes) run × (begins x (code_word color run) ≡ true)
entry_begun color x run bits is past = at (pick (code_word color) (first_runs 104) (first_bits 13 x)) refl is
  where
    at : (picked : Option ℕ) → pick (code_word color) (first_runs 104) (first_bits 13 x) ≡ picked → (run, bits) ≡ entry_picked color
        picked → Contains (runs_among AllCodes) run × (begins x (code_word color run) ≡ true)
    at None e same = absurd (omega (arith, ap (λ (p : ℕ × ℕ). p.1) same))
    at (Some r) e same =
        let run_is : run ≡ r = ap (λ (p : ℕ × ℕ). p.0) same in
        let bits_is : bits ≡ length (code_word color r) = ap (λ (p : ℕ × ℕ). p.1) same in
        let found = stands_pick color AllCodes (first_bits 13 x) r e in
        let short : length x ≤ 13 = omega (arith, bits_is, past, (word_lengths color r found.0).1) in
        let there : begins (code_word color r) (x ++ replicate (13 - length x) false) ≡ true =
        ap (begins (code_word color r)) (sym (filled_after 13 x short)) ∙ found.1 in
        rw run_is (
          found.0,
          second_holds (begins (code_word color r) x) (begins x (code_word color r))
              (either_begins (code_word color r) x (replicate (13 - length x) false) there)
              (λ whole. omega (arith, bits_is, past, begins_within (code_word color r) x whole)),
        )

pub entry_cut : (color : Color) (x : List Bool) (run bits : ℕ) → (run, bits) ≡ entry_for color (first_bits 13 x) → length x < bits
    → is_cut (code_word color) (runs_among AllCodes) x ≡ true
entry_cut color x run bits is past =
    let begun = entry_begun color x run bits is past in cut_listed color (runs_among AllCodes) run x begun.0 begun.1

pub entry_cut_low : (color : Color) (x : List Bool) (run bits : ℕ) → (run, bits) ≡ entry_for color (first_bits 13 x) → length x < bits
    → run < 64 → is_cut (code_word color) (runs_among TerminatingCodes) x ≡ true
entry_cut_low color x run bits is past low =
    let begun = entry_begun color x run bits is past in
    cut_listed color (runs_among TerminatingCodes) run x (low_listed TerminatingCodes run low) begun.1

cut_by : (color : Color) (runs : List ℕ) (x : List Bool) → is_cut (code_word color) runs x ≡ true
    → (run : ℕ) × Contains runs run × (begins x (code_word color run) ≡ true)
cut_by color [] x e = absurd (false≢true e)
cut_by color (r ∷ rs) x e = here (begins x (code_word color r)) refl e (cut_by color rs x)
  where
    here : (b : Bool) → begins x (code_word color r) ≡ b → (b || is_cut (code_word color) rs x) ≡ true
        → (is_cut (code_word color) rs x ≡ true → (run : ℕ) × Contains rs run × (begins x (code_word color run) ≡ true))
        → (run : ℕ) × Contains (r ∷ rs) run × (begins x (code_word color run) ≡ true)
    here true b e later = (r, (0, omega arith, refl), b)
    here false b e later =
        let there = later e in
        (there.0, (suc there.1.0, omega (arith, there.1.1), there.1.2), there.2)

-- no code has 14 bits
pub none_long : (color : Color) (among : Among) (x : List Bool) → 14 ≤ length x → false ≡ is_cut (code_word color) (runs_among among) x
none_long color among x long = at (is_cut (code_word color) (runs_among among) x) refl
  where
    at : (b : Bool) → is_cut (code_word color) (runs_among among) x ≡ b → false ≡ b
    at false e = refl
    at true e =
        let there = cut_by color (runs_among among) x e in
        absurd (omega (
          arith,
          long,
          begins_within x (code_word color there.0) there.2,
          (word_lengths color there.0 (listed_all among there.0 there.1)).1,
        ))
