-- Octets more of a stuffed text, by the tables of stuffed octets, and bits that wait.
use Rattle.std.proofs.Common.{◌≡◌, ℕ, suc, zero, ◌+◌, ◌*◌, ◌/◌, ◌%◌, ◌^◌, ◌<◌, ◌≤◌, Bool, true, false, ◌&&◌, List, [], ◌∷◌, ◌++◌}
use Rattle.std.proofs.Common.{length, reverse, refl, ap, sym, ◌∙◌, subst, arith, nat_eq, nat_lt, append_assoc, get_or, inl, inr, w32}
use Rattle.std.specs.Int.{trailing_ones}
use lib.Count.{count_trailing_zeros}
use Rattle.std.proofs.lemmas.List.{append-nil}
use Rattle.std.proofs.lemmas.List.FromFn.{get_or-map-range_with_len}
use Rattle.std.proofs.lemmas.Nat.{shl_whole}
use Rattle.std.proofs.Math.Nat.{pow-le-pow_right}
use Rattle.std.proofs.lemmas.Bool.{and_parts, ltb-true, lt-ltb, le-ltb, cases_lt, eqb-true, agree_below_at}
use Rattle.raster.specs.Octets.{number}
use Rattle.raster.specs.Words.{number_bits}
use Rattle.raster.proofs.OctetBits.{octet_bits}
use Rattle.run_tables.specs.Numbers.{number_text}
use Rattle.run_tables.specs.Texts.{begins}
use Rattle.run_tables.proofs.NumberLemmas.{joined_below, number_append, length-number_text}
use Rattle.hdlc.specs.declared.bit_buffer.BitBuffer.{BitBuffer}
use Rattle.hdlc.specs.Flags.{flag}
use Rattle.hdlc.specs.Writing.{IsWriting}
use Rattle.hdlc.specs.Stuffing.{stuffed_bit, run_sent, stuffed_from, run_after_all, waiting_bits}
use Rattle.hdlc.specs.Stuffing.{stuffed_at, stuffed_lengths, stuffed_numbers}
use Rattle.hdlc.proofs.UnstuffedLemmas.{begins_whole}
use Rattle.hdlc.proofs.Written.{writes_plain, writes_fifth, writes_none}

-- one bit more, and the 0 bit that may come after it
writes_bit : (all start bits : List Bool) (count : ℕ) (b : Bool) → IsWriting all start bits count
    → IsWriting (all ++ stuffed_bit count b) start (bits ++ b ∷ []) (run_sent count b)
writes_bit all start bits count false w = writes_plain all (all ++ false ∷ []) start bits count false w refl (omega arith)
writes_bit all start bits count true w = elim (cases_lt count 4) [
  | inl few ↦ rw (lt-ltb count 4 few) (writes_plain all (all ++ true ∷ []) start bits count true w refl (omega arith))
  | inr many ↦
      let most : count ≤ 4 = w.few in
      let four : count ≡ 4 = omega arith in
      let old : IsWriting all start bits 4 = rw four at w in
      let both : all ++ true ∷ false ∷ [] ≡ (all ++ true ∷ []) ++ false ∷ [] = sym (append_assoc all (true ∷ []) (false ∷ [])) in
      rw (le-ltb count 4 many) (writes_fifth all (all ++ true ∷ false ∷ []) start bits old both)
]

-- more bits
writes_bits : (all start bits more : List Bool) (count : ℕ) → IsWriting all start bits count
    → IsWriting (all ++ stuffed_from count more) start (bits ++ more) (run_after_all count more)
writes_bits all start bits [] count w = rw (append-nil all, append-nil bits) w
writes_bits all start bits (b ∷ more) count w =
    rw (← append_assoc all (stuffed_bit count b) (stuffed_from (run_sent count b) more), ← append_assoc bits (b ∷ []) more)
    (writes_bits (all ++ stuffed_bit count b) start (bits ++ b ∷ []) more (run_sent count b) (writes_bit all start bits count b w))

-- a flag has come, and nothing waits
pub writes_first : (old new : List Bool) (w : BitBuffer) → w ≡ record { value = 0; count = 0; ones = 0 } → new ≡ old ++ flag
    → IsWriting (new ++ waiting_bits w) old [] w.ones
writes_first old new w e is =
    let one : IsWriting (new ++ []) old [] 0 = rw (append-nil new) (writes_none old new is) in rw e one

-- the bits of one more octet wait after those that do
pub writes_octet : (old new start bits more waits next last : List Bool) (count mid end : ℕ) → new ++ next ≡ old ++ waits → mid ≡ count
    → last ≡ next ++ stuffed_from mid more → end ≡ run_after_all mid more → IsWriting (old ++ waits) start bits count
    → IsWriting (new ++ last) start (bits ++ more) end
writes_octet old new start bits more waits next last count mid end same ones is run w =
    let all : (old ++ waits) ++ stuffed_from count more ≡ new ++ last =
    ap (λ xs. xs ++ stuffed_from count more) (sym same) ∙ (append_assoc new next (stuffed_from count more)
    ∙ ap (λ xs. new ++ xs) (ap (λ n. next ++ stuffed_from n more) (sym ones) ∙ sym is)) in
    let run_ : run_after_all count more ≡ end = ap (λ n. run_after_all n more) (sym ones) ∙ sym run in
    rw (← all, ← run_) (writes_bits (old ++ waits) start bits more count w)

-- ---- numbers that grow at their low end

-- a shift by so many that no bit is lost
pub shifted_whole : (a b high : ℕ) → high < 2 ^ a → a + b ≤ 32 → high * 2 ^ b % 4294967296 ≡ high * 2 ^ b
shifted_whole a b high h room = shl_whole high a b 32 h room

pub joined_fits : (a b high low : ℕ) → high < 2 ^ a → low < 2 ^ b → a + b ≤ 32 → high * 2 ^ b % 4294967296 + low < 4294967296
joined_fits a b high low h l room =
    let below : high * 2 ^ b + low < 2 ^ (a + b) = joined_below a b high low h l in
    let most : 2 ^ (a + b) ≤ 2 ^ 32 = pow-le-pow_right (omega arith) room in
    let whole : 2 ^ 32 ≡ 4294967296 = refl in
    rw (shifted_whole a b high h room) (omega arith)

pub joined_bits : (a b high low : ℕ) → low < 2 ^ b → number_bits (a + b) (high * 2 ^ b + low) ≡ number_bits a high ++ number_bits b low
unfolding number_text
joined_bits a b high low h = number_append a b high low h

-- ---- the tables, by computing

abbrev bits_at : ℕ → ℕ → List Bool
bits_at n octet = stuffed_from n (octet_bits octet)

abbrev number_of : ℕ → ℕ → ℕ
number_of n octet = number (reverse (bits_at n octet))

abbrev length_of : ℕ → ℕ → ℕ
length_of n octet = length (bits_at n octet)

number_entry : (n octet : ℕ) → n ≤ 4 → octet < 256 → get_or stuffed_numbers (n * 256 + octet) 0 ≡ number_of n octet
number_entry n octet few small =
    let place : ℕ = n * 256 + octet in
    let row : place / 256 ≡ n = omega arith in
    let column : place % 256 ≡ octet = omega arith in
    get_or-map-range_with_len (λ place. number (reverse (stuffed_at place))) 0 1280 place place 0 (omega arith) (omega arith)
    ∙ (ap (λ r. number_of r (place % 256)) row ∙ ap (number_of n) column)

length_entry : (n octet : ℕ) → n ≤ 4 → octet < 256 → get_or stuffed_lengths (n * 256 + octet) 0 ≡ length_of n octet
length_entry n octet few small =
    let place : ℕ = n * 256 + octet in
    let row : place / 256 ≡ n = omega arith in
    let column : place % 256 ≡ octet = omega arith in
    get_or-map-range_with_len (λ place. length (stuffed_at place)) 0 1280 place place 0 (omega arith) (omega arith)
    ∙ (ap (λ r. length_of r (place % 256)) row ∙ ap (length_of n) column)

abbrev sizes_of : ℕ → ℕ → Bool
sizes_of n octet = nat_lt (number_of n octet) (2 ^ length_of n octet) && nat_lt (length_of n octet) 11

abbrev runs_of : ℕ → ℕ → Bool
runs_of n octet = nat_eq (trailing_ones w32 (number_of n octet)) (run_after_all n (octet_bits octet))
    && nat_lt (run_after_all n (octet_bits octet)) 5

abbrev test_of : ℕ → ℕ → Bool
test_of n octet = begins (bits_at n octet) (number_bits (length_of n octet) (number_of n octet)) && (sizes_of n octet && runs_of n octet)

abbrev always : ℕ → Bool
always octet = true

tests : (n octet : ℕ) → n ≤ 4 → octet < 256 → test_of n octet ≡ true
unfolding count_trailing_zeros
tests zero octet few small = agree_below_at (test_of 0) always 256 octet refl small
tests (suc zero) octet few small = agree_below_at (test_of 1) always 256 octet refl small
tests (suc (suc zero)) octet few small = agree_below_at (test_of 2) always 256 octet refl small
tests (suc (suc (suc zero))) octet few small = agree_below_at (test_of 3) always 256 octet refl small
tests (suc (suc (suc (suc zero)))) octet few small = agree_below_at (test_of 4) always 256 octet refl small
tests (suc (suc (suc (suc (suc n))))) octet few small = absurd (omega arith)

-- what an entry of the tables is
pub record IsEntry (n octet value count : ℕ) : Type 0 where
  pub bits : number_bits count value ≡ stuffed_from n (octet_bits octet)
  pub below : value < 2 ^ count
  pub few : count ≤ 10
  pub ones : trailing_ones w32 value ≡ run_after_all n (octet_bits octet)

is_entry : (n octet : ℕ) → n ≤ 4 → octet < 256 → IsEntry n octet (number_of n octet) (length_of n octet)
unfolding number_text
is_entry n octet few small =
    let size : ℕ = length_of n octet in
    let value : ℕ = number_of n octet in
    let run : ℕ = run_after_all n (octet_bits octet) in
    let parts = and_parts (begins (bits_at n octet) (number_bits size value)) (sizes_of n octet && runs_of n octet) (tests n octet few
    small) in
    let both = and_parts (sizes_of n octet) (runs_of n octet) parts.1 in
    let sizes = and_parts (nat_lt value (2 ^ size)) (nat_lt size 11) both.0 in
    let runs = and_parts (nat_eq (trailing_ones w32 value) run) (nat_lt run 5) both.1 in
    let short : size < 11 = ltb-true size 11 sizes.1 in
    record {
      bits = sym (begins_whole (bits_at n octet) (number_bits size value) (sym (length-number_text size value)) parts.0);
      below = ltb-true value (2 ^ size) sizes.0;
      few = omega arith;
      ones = eqb-true (trailing_ones w32 value) run runs.0;
    }

entry_with : (n octet value count : ℕ) → value ≡ number_of n octet → count ≡ length_of n octet → n ≤ 4 → octet < 256
    → IsEntry n octet value count
entry_with n octet value count v k few small =
    subst (λ x. IsEntry n octet x count) (sym v) (subst (λ x. IsEntry n octet (number_of n octet) x) (sym k) (is_entry n octet few small))

pub table_entry : (numbers lengths : List ℕ) (n octet : ℕ) → numbers ≡ stuffed_numbers → lengths ≡ stuffed_lengths → n ≤ 4 → octet < 256
    → IsEntry n octet (get_or numbers (n * 256 + octet) 0) (get_or lengths (n * 256 + octet) 0)
table_entry numbers lengths n octet ns ls few small =
    entry_with n octet (get_or numbers (n * 256 + octet) 0) (get_or lengths (n * 256 + octet) 0)
    (ap (λ xs. get_or xs (n * 256 + octet) 0) ns ∙ number_entry n octet few small)
    (ap (λ xs. get_or xs (n * 256 + octet) 0) ls ∙ length_entry n octet few small) few small

pub run_few : (n octet : ℕ) → n ≤ 4 → octet < 256 → run_after_all n (octet_bits octet) ≤ 4
run_few n octet few small =
    let run : ℕ = run_after_all n (octet_bits octet) in
    let parts = and_parts (begins (bits_at n octet) (number_bits (length_of n octet) (number_of n octet))) (sizes_of n octet && runs_of n
    octet) (tests n octet few small) in
    let both = and_parts (sizes_of n octet) (runs_of n octet) parts.1 in
    let runs = and_parts (nat_eq (trailing_ones w32 (number_of n octet)) run) (nat_lt run 5) both.1 in
    let less : run < 5 = ltb-true run 5 runs.1 in omega arith
