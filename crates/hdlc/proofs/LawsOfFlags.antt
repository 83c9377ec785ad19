-- The flags are the places where there is a flag.
use Rattle.std.proofs.Common.{◌≡◌, ℕ, zero, suc, ◌-◌, ◌<◌, ◌≤◌, Bool, true, List, [], ◌∷◌, length, drop, cond, arith, inl, inr}
use Rattle.std.specs.Bool.{beq}
use Rattle.std.specs.List.{Contains, filter, range_with_len}
use Rattle.std.proofs.lemmas.List.{length-drop}
use Rattle.std.proofs.lemmas.List.Elements.{All-contains, Contains-append_left, Contains-push, filter_passes}
use Rattle.std.proofs.lemmas.Bool.{cases_eq, false≢true, and_parts}
use Rattle.run_tables.specs.Texts.{begins}
use Rattle.hdlc.specs.Flags.{flag, flag_at, flags}
use Rattle.hdlc.specs.Laws.{FlagsStand}
use Rattle.hdlc.proofs.Flags.{filter_range_more}

begins_room : (t xs : List Bool) → begins t xs ≡ true → length t ≤ length xs
begins_room [] xs e = omega arith
begins_room (x ∷ t) [] e = absurd (false≢true e)
begins_room (x ∷ t) (y ∷ xs) e =
    let rest : length t ≤ length xs = begins_room t xs (and_parts (beq y x) (begins t xs) e).1 in omega arith

flag_room : (bits : List Bool) (k : ℕ) → flag_at bits k ≡ true → k < length bits - 7
flag_room bits k e =
    let room : 8 ≤ length (drop k bits) = begins_room flag (drop k bits) e in
    let size : length (drop k bits) ≡ length bits - k = length-drop k bits in
    omega arith

kept_fits : (p : ℕ → Bool) (xs : List ℕ) (k : ℕ) → Contains (filter p xs) k → p k ≡ true
kept_fits p xs k h = All-contains (λ x. p x ≡ true) (filter p xs) k (filter_passes p xs) h

fits_kept : (p : ℕ → Bool) (n k : ℕ) → k < n → p k ≡ true → Contains (filter p (range_with_len 0 n)) k
fits_kept p zero k h e = absurd (omega arith)
fits_kept p (suc n) k h e = elim (cases_eq k n) [
  | inl is ↦
      let last : p n ≡ true = rw (← is) e in
      rw (filter_range_more p n, last, is) (Contains-push (filter p (range_with_len 0 n)) n)
  | inr isnt ↦
      rw (filter_range_more p n) (Contains-append_left (filter p (range_with_len 0 n)) (cond (p n) (n ∷ []) []) k
      (fits_kept p n k (omega arith) e))
]

pub flags_stand : FlagsStand
unfolding flags
flags_stand bits place = (
  kept_fits (flag_at bits) (range_with_len 0 (length bits - 7)) place,
  λ e. fits_kept (flag_at bits) (length bits - 7) place
      (flag_room bits place e) e,
)
