-- Lemmas on runs of octets 00.
use Rattle.std.proofs.Common.{zero, suc, replicate, add-one, ◌≡◌, ◌≢◌, ◌≤◌, ◌<◌, ℕ, ◌+◌, max, List, [], ◌∷◌, length, drop, get_or, refl}
use Rattle.std.proofs.Common.{sym, ◌∙◌, ap, arith}
use Rattle.std.proofs.lemmas.List.{drop_more}
use Rattle.std.proofs.lemmas.Bool.{ne_eqb}
use Rattle.signals.specs.Training.{zeros_in_front, longest_zeros, training_octets, IsGoodTraining}
use Rattle.signals.specs.declared.params.Speed.{Speed}

pub front-longest : (xs : List ℕ) → zeros_in_front xs ≤ longest_zeros xs
front-longest [] = omega arith
front-longest (x ∷ xs) = omega arith

-- the longest run, after a run and a longest run so far
abbrev pub longest_on : ℕ → ℕ → List ℕ → ℕ
longest_on longest run xs = max longest (max (run + zeros_in_front xs) (longest_zeros xs))

pub none-before : (xs : List ℕ) → longest_on 0 0 xs ≡ longest_zeros xs
none-before xs = omega (arith, front-longest xs)

pub one-zero : (longest run x : ℕ) (xs : List ℕ) → x ≡ 0 → longest_on (max (run + 1) longest) (run + 1) xs ≡ longest_on longest run (x ∷ xs)
one-zero longest run x xs zero_is = rw zero_is (omega arith)

pub no-zero : (longest run x : ℕ) (xs : List ℕ) → x ≢ 0 → run ≤ longest → longest_on (max 0 longest) 0 xs ≡ longest_on longest run (x ∷ xs)
no-zero longest run x xs other within = rw (ne_eqb x 0 other) (omega (arith, front-longest xs))

pub zero-more : (octets : List ℕ) (i longest run : ℕ) → i < length octets → get_or octets i 0 ≡ 0
    → longest_on longest run (drop i octets) ≡ longest_zeros octets →
    longest_on (max (run + 1) longest) (run + 1) (drop (i + 1) octets) ≡ longest_zeros octets
zero-more octets i longest run within zero_is before =
    one-zero longest run (get_or octets i 0) (drop (i + 1) octets) zero_is ∙ sym (ap (longest_on longest run) (drop_more octets i 0 within))
    ∙ before

pub zero-less : (octets : List ℕ) (i longest run : ℕ) → i < length octets → get_or octets i 0 ≢ 0 → run ≤ longest
    → longest_on longest run (drop i octets) ≡ longest_zeros octets →
    longest_on (max 0 longest) 0 (drop (i + 1) octets) ≡ longest_zeros octets
zero-less octets i longest run within other run_within before =
    no-zero longest run (get_or octets i 0) (drop (i + 1) octets) other run_within
    ∙ sym (ap (longest_on longest run) (drop_more octets i 0 within)) ∙ before

pub front-zeros : (n : ℕ) → zeros_in_front (replicate n 0) ≡ n
front-zeros zero = refl
front-zeros (suc n) = ap (λ m. m + 1) (front-zeros n) ∙ add-one n

pub longest-zeros : (n : ℕ) → longest_zeros (replicate n 0) ≡ n
longest-zeros zero = refl
longest-zeros (suc n) = omega (arith, front-zeros n, longest-zeros n)

pub check-good : (speed : Speed) → IsGoodTraining (replicate (training_octets speed) 0) speed
check-good speed = omega (arith, longest-zeros (training_octets speed))
