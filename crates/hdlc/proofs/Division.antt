-- The register of 16 bits leaves what the long division leaves.
use Rattle.std.proofs.Common.{◌≡◌, ℕ, zero, suc, ◌+◌, ◌-◌, ◌*◌, ◌/◌, ◌%◌, ◌^◌, ◌<◌, ◌≤◌, Bool, true, false, not, ◌&&◌, List, [], ◌∷◌, ◌++◌}
use Rattle.std.proofs.Common.{length, drop, map, cond, get_or, refl, ap, sym, ◌∙◌, arith, inl, inr, nat_eq, bit_xor, pow-suc, replicate}
use Rattle.std.specs.List.{fold}
use Rattle.std.specs.Cmp.Lexicographic.{pointwise}
use Rattle.std.proofs.lemmas.List.{length-drop, length-append, length-map}
use Rattle.std.proofs.lemmas.Bool.{ne_eqb, eq-eqb, cases_eq}
use Rattle.std.proofs.lemmas.Nat.{xor_block}
use Rattle.raster.specs.Packed.{bits_of}
use Rattle.raster.specs.declared.packed.Order.TheVariants.{LsbFirst}
use Rattle.raster.specs.Octets.{number}
use Rattle.hdlc.specs.Fcs.{xor, add, divisor, remainder, sixteen, check_bits, fcs_of, check_octets}
use Rattle.hdlc.specs.Register.{shift_in, crc_bit}
use Rattle.hdlc.proofs.UnstuffedLemmas.{sixteen_bits}

xor_false : (x : Bool) → xor x false ≡ x
xor_false true = refl
xor_false false = refl

xor_assoc : (x y z : Bool) → xor (xor x y) z ≡ xor x (xor y z)
xor_assoc true true true = refl
xor_assoc true true false = refl
xor_assoc true false z = refl
xor_assoc false y z = refl

add_nil : (xs : List Bool) → add xs [] ≡ xs
add_nil [] = refl
add_nil (x ∷ xs) = refl

-- a further 0 bit adds nothing
add-push_zero : (xs ys : List Bool) → add xs (ys ++ false ∷ []) ≡ add xs ys
add-push_zero [] ys = refl
add-push_zero (x ∷ xs) [] = ap (λ y. y ∷ add xs []) (xor_false x) ∙ ap (λ ys. x ∷ ys) (add_nil xs)
add-push_zero (x ∷ xs) (y ∷ ys) = ap (λ zs. xor x y ∷ zs) (add-push_zero xs ys)

add_assoc : (xs ys zs : List Bool) → length zs ≤ length ys → add (add xs ys) zs ≡ add xs (add ys zs)
add_assoc [] ys zs h = refl
add_assoc (x ∷ xs) [] [] h = refl
add_assoc (x ∷ xs) [] (z ∷ zs) h = absurd (omega arith)
add_assoc (x ∷ xs) (y ∷ ys) [] h = refl
add_assoc (x ∷ xs) (y ∷ ys) (z ∷ zs) h = ap (λ b. b ∷ add (add xs ys) zs) (xor_assoc x y z)
    ∙ ap (λ bs. xor x (xor y z) ∷ bs) (add_assoc xs ys zs (omega arith))

length-add : (xs ys : List Bool) → length (add xs ys) ≡ length xs
length-add [] ys = refl
length-add (x ∷ xs) [] = refl
length-add (x ∷ xs) (y ∷ ys) = ap suc (length-add xs ys)

length-shift_in : (register : List Bool) (b : Bool) → length register ≡ 16 → length (shift_in register b) ≡ 16
length-shift_in register b h = go (xor b (get_or register 0 false))
  where
    shifted : length (drop 1 register ++ false ∷ []) ≡ 16
    shifted = rw (length-append, length-drop, h) refl

    go : (t : Bool) → length (cond t (add (drop 1 register ++ false ∷ []) divisor) (drop 1 register ++ false ∷ [])) ≡ 16
    go true = length-add (drop 1 register ++ false ∷ []) divisor ∙ shifted
    go false = shifted

-- zeros add to what they meet
add_zeros : (n : ℕ) (xs : List Bool) → length xs ≡ n → add (replicate n false) xs ≡ xs
add_zeros zero [] h = refl
add_zeros zero (x ∷ xs) h = absurd (omega arith)
add_zeros (suc n) [] h = absurd (omega arith)
add_zeros (suc n) (x ∷ xs) h = ap (λ ys. x ∷ ys) (add_zeros n xs (omega arith))

-- the long division leaves what the register holds after all bits
pub register_divides : (bits register : List Bool) → length register ≡ 16 → remainder (length bits) (add (bits ++ sixteen false) register)
    ≡ fold shift_in register bits
register_divides [] register h = add_zeros 16 register h
register_divides (b ∷ bits) [] h = absurd (omega arith)
register_divides (b ∷ bits) (r ∷ register) h =
    step (xor b r) ∙ register_divides bits (shift_in (r ∷ register) b) (length-shift_in (r ∷ register) b h)
  where
    step : (t : Bool)
        → remainder (length bits) (cond t (add (add (bits ++ sixteen false) register) divisor) (add (bits ++ sixteen false) register))
        ≡ remainder (length bits) (add (bits ++ sixteen false) (cond t (add (register ++ false ∷ []) divisor) (register ++ false ∷ [])))
    step true =
        let size : length divisor ≤ length (register ++ false ∷ []) = rw length-append (omega arith) in
        ap (λ xs. remainder (length bits) (add xs divisor)) (sym (add-push_zero (bits ++ sixteen false) register)) ∙
        ap (remainder (length bits)) (add_assoc (bits ++ sixteen false) (register ++ false ∷ []) divisor size)
    step false = ap (remainder (length bits)) (sym (add-push_zero (bits ++ sixteen false) register))

pub check_bits_is : (bits : List Bool) → check_bits bits ≡ map not (fold shift_in (sixteen true) bits)
unfolding check_bits
check_bits_is bits = ap (map not) (register_divides bits (sixteen true) refl)

length-fold : (bits register : List Bool) → length register ≡ 16 → length (fold shift_in register bits) ≡ 16
length-fold [] register h = h
length-fold (b ∷ bits) register h = length-fold bits (shift_in register b) (length-shift_in register b h)

-- the xor of two numbers is the sum without carry of their bits
number-add : (xs ys : List Bool) → length xs ≡ length ys → number (add xs ys) ≡ bit_xor (number xs) (number ys)
number-add [] [] h = refl
number-add [] (y ∷ ys) h = absurd (omega arith)
number-add (x ∷ xs) [] h = absurd (omega arith)
number-add (x ∷ xs) (y ∷ ys) h = step x y (number-add xs ys (omega arith))
    ∙ (sym (xor_block 1 (number xs) (number ys) (cond x 1 0) (cond y 1 0) (low x) (low y)) ∙ both)
  where
    low : (x : Bool) → cond x 1 0 < 2 ^ 1
    low true = omega arith
    low false = omega arith

    twice : (n : ℕ) → 2 * n ≡ n * 2 ^ 1
    twice n = omega arith

    bit : (x y : Bool) → cond (xor x y) 1 0 ≡ bit_xor (cond x 1 0) (cond y 1 0)
    bit true true = refl
    bit true false = refl
    bit false true = refl
    bit false false = refl

    step : (x y : Bool) → number (add xs ys) ≡ bit_xor (number xs) (number ys) → cond (xor x y) 1 0 + 2 * number (add xs ys)
        ≡ bit_xor (number xs) (number ys) * 2 ^ 1 + bit_xor (cond x 1 0) (cond y 1 0)
    step x y rest = rw (rest, bit x y) (omega arith)

    swap : (x : Bool) (zs : List Bool) → number zs * 2 ^ 1 + cond x 1 0 ≡ cond x 1 0 + 2 * number zs
    swap x zs = omega arith

    both : bit_xor (number xs * 2 ^ 1 + cond x 1 0) (number ys * 2 ^ 1 + cond y 1 0) ≡ bit_xor (cond x 1 0 + 2 * number xs)
        (cond y 1 0 + 2 * number ys)
    both = rw (swap x xs, swap y ys) refl

number-push_zero : (xs : List Bool) → number (xs ++ false ∷ []) ≡ number xs
number-push_zero [] = refl
number-push_zero (x ∷ xs) = ap (λ n. cond x 1 0 + 2 * n) (number-push_zero xs)

number-rest : (xs : List Bool) → number (drop 1 xs ++ false ∷ []) ≡ number xs / 2
number-rest [] = refl
number-rest (true ∷ xs) = number-push_zero xs ∙ omega arith
number-rest (false ∷ xs) = number-push_zero xs ∙ omega arith

first_is : (xs : List Bool) → get_or xs 0 false ≡ nat_eq (number xs % 2) 1
first_is [] = refl
first_is (true ∷ xs) = sym (eq-eqb ((1 + 2 * number xs) % 2) 1 (omega arith))
first_is (false ∷ xs) = sym (ne_eqb ((0 + 2 * number xs) % 2) 1 (λ e. omega arith))

pub number-shift_in : (register : List Bool) (b : Bool) → length register ≡ 16 → number (shift_in register b) ≡ crc_bit (number register) b
number-shift_in register b h = rw (first_is register) (go (xor b (nat_eq (number register % 2) 1)))
  where
    size : length (drop 1 register ++ false ∷ []) ≡ length divisor
    size = rw (length-append, length-drop, h) refl

    go : (t : Bool) → number (cond t (add (drop 1 register ++ false ∷ []) divisor) (drop 1 register ++ false ∷ []))
        ≡ cond t (bit_xor (number register / 2) 0x8408) (number register / 2)
    go true = number-add (drop 1 register ++ false ∷ []) divisor size ∙ ap (λ n. bit_xor n 0x8408) (number-rest register)
    go false = number-rest register

pub number-fold : (bits register : List Bool) → length register ≡ 16
    → number (fold shift_in register bits) ≡ fold crc_bit (number register) bits
number-fold [] register h = refl
number-fold (b ∷ bits) register h = number-fold bits (shift_in register b) (length-shift_in register b h)
    ∙ ap (λ r. fold crc_bit r bits) (number-shift_in register b h)

number-not : (xs : List Bool) (n : ℕ) → length xs ≡ n → number (map not xs) + number xs + 1 ≡ 2 ^ n
number-not [] n h = rw (sym h) refl
number-not (x ∷ xs) zero h = absurd (omega arith)
number-not (x ∷ xs) (suc n) h =
    let rest : number (map not xs) + number xs + 1 ≡ 2 ^ n = number-not xs n (omega arith) in
    let both : cond (not x) 1 0 + cond x 1 0 ≡ 1 = one x in
    rw pow-suc (omega arith)
  where
    one : (x : Bool) → cond (not x) 1 0 + cond x 1 0 ≡ 1
    one true = refl
    one false = refl

-- the register with 0x8408, from 0xFFFF, complemented, is the check sequence
pub fcs_is : (octets : List ℕ) → fcs_of octets ≡ 65535 - fold crc_bit 65535 (bits_of LsbFirst octets)
fcs_is octets =
    let register : List Bool = fold shift_in (sixteen true) (bits_of LsbFirst octets) in
    let size : length register ≡ 16 = length-fold (bits_of LsbFirst octets) (sixteen true) refl in
    let is : number register ≡ fold crc_bit 65535 (bits_of LsbFirst octets) = number-fold (bits_of LsbFirst octets) (sixteen true) refl in
    let whole : number (map not register) + number register + 1 ≡ 65536 = number-not register 16 size in
    ap number (check_bits_is (bits_of LsbFirst octets)) ∙ (rw (sym is) (omega arith))

pub length-check_bits : (bits : List Bool) → length (check_bits bits) ≡ 16
length-check_bits bits = rw (check_bits_is bits, length-map) (length-fold bits (sixteen true) refl)

-- the low octet of the check sequence is sent first
pub check_octets_are : (octets : List ℕ) → check_octets octets ≡ fcs_of octets % 256 ∷ fcs_of octets / 256 ∷ []
check_octets_are octets = sixteen_bits (check_bits (bits_of LsbFirst octets)) (length-check_bits (bits_of LsbFirst octets))

pub checks_number : (sent : List ℕ) (octets : List ℕ) → length sent ≡ 2 → ((k : ℕ) → get_or sent k 0 < 256)
    → nat_eq (get_or sent 0 0 + 256 * (get_or sent 1 0 + 256 * 0)) (fcs_of octets) ≡ pointwise nat_eq sent (check_octets octets)
checks_number [] octets h small = absurd (omega arith)
checks_number (x ∷ []) octets h small = absurd (omega arith)
checks_number (x ∷ y ∷ z ∷ rest) octets h small = absurd (omega arith)
checks_number (x ∷ y ∷ []) octets h small =
    let low : x < 256 = small 0 in
    let high : y < 256 = small 1 in
    rw (check_octets_are octets) (go (fcs_of octets))
  where
    go : (f : ℕ) → nat_eq (x + 256 * (y + 256 * 0)) f ≡ (nat_eq x (f % 256) && (nat_eq y (f / 256) && true))
    go f =
        let low : x < 256 = small 0 in
        elim (cases_eq (x + 256 * (y + 256 * 0)) f) [
          | inl e ↦ rw (eq-eqb (x + 256 * (y + 256 * 0)) f e, eq-eqb x (f % 256) (omega arith), eq-eqb y (f / 256) (omega arith)) refl
          | inr ne ↦ rw (ne_eqb (x + 256 * (y + 256 * 0)) f ne) (elim (cases_eq x (f % 256)) [
            | inl e ↦ rw (eq-eqb x (f % 256) e, ne_eqb y (f / 256) (λ g. ne (omega arith))) refl
            | inr other ↦ rw (ne_eqb x (f % 256) other) refl
          ])
        ]
