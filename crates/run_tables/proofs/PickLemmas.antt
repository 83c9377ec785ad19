use Rattle.std.proofs.Common.{ℕ, suc, ◌≡◌, ◌+◌, ◌-◌, ◌<◌, ◌≤◌, Bool, true, false, List, [], ◌∷◌, map, refl, arith}
use Rattle.std.specs.List.{range_with_len}
use Rattle.run_tables.specs.Codes.{run_at}
use Rattle.run_tables.specs.CodeReading.{first_runs}
use Rattle.run_tables.specs.Texts.{begins, is_cut}

-- the runs of the first codes from a place on
unfoldable pub left_runs : ℕ → ℕ → List ℕ
left_runs at count = map run_at (range_with_len at (count - at))

pub left_all : (count : ℕ) → left_runs 0 count ≡ first_runs count
unfolding left_runs first_runs
left_all count = let e : count - 0 ≡ count = omega arith in rw e refl

pub left_none : (at count : ℕ) → count ≤ at → left_runs at count ≡ []
unfolding left_runs
left_none at count h = let e : count - at ≡ 0 = omega arith in rw e refl

pub left_more : (at count : ℕ) → at < count → left_runs at count ≡ run_at at ∷ left_runs (at + 1) count
unfolding left_runs
left_more at count h = let e : count - at ≡ suc (count - (at + 1)) = omega arith in rw e refl

pub cut_here : (word : ℕ → List Bool) (at count : ℕ) (x : List Bool) → at < count → begins x (word (run_at at)) ≡ true
    → is_cut word (left_runs at count) x ≡ true
cut_here word at count x h e = rw (left_more at count h, e) refl

pub cut_later : (word : ℕ → List Bool) (at count : ℕ) (x : List Bool) → at < count → begins x (word (run_at at)) ≡ false
    → is_cut word (left_runs at count) x ≡ is_cut word (left_runs (at + 1) count) x
cut_later word at count x h e = rw (left_more at count h, e) refl

pub cut_none : (word : ℕ → List Bool) (at count : ℕ) (x : List Bool) → count ≤ at → is_cut word (left_runs at count) x ≡ false
cut_none word at count x h = rw (left_none at count h) refl
