-- Bits that a writer holds in octets and in a word.
use Rattle.std.proofs.Common.{◌≡◌, ℕ, ◌+◌, ◌-◌, ◌*◌, ◌/◌, ◌%◌, ◌^◌, ◌<◌, ◌≤◌, ◌||◌, Bool, true, false, List, [], ◌∷◌, ◌++◌}
use Rattle.std.proofs.Common.{refl, sym, ap, ◌∙◌, nat_eq, arith, zero, suc, inl, inr, length, map, take, replicate, append_assoc}
use Rattle.std.proofs.Common.{bit_or, zero-add}
use Rattle.std.specs.Int.{bit_at}
use Rattle.std.specs.List.{range_with_len}
use Rattle.std.proofs.lemmas.List.{append-nil, length-append, length-take-le}
use Rattle.std.proofs.lemmas.List.FromFn.{map-range_with_len_more, fill_by_all, length-map-range_with_len, get_or-map-range_with_len}
use Rattle.std.proofs.lemmas.Nat.Bits.{bit_at_above}
use Rattle.std.proofs.Math.Nat.{suc-add}
use Rattle.std.proofs.lemmas.Bool.{cases_lt}
use Rattle.raster.specs.declared.packed.Order.{Order}
use Rattle.raster.specs.Packed.{bit_in, bits_in, bits_of, FillsOctets}
use Rattle.raster.specs.Words.{bit_of_word, number_bits}
use Rattle.raster.proofs.PackedLemmas.{length-bits_in, bit_in-take, take-bits_in, bits_in-none, bits_in-same}
use Rattle.raster.proofs.PushLemmas.{bits_in_grow}
use Rattle.raster.proofs.WordLemmas.{bit_at_rest, bit_at_shl_low, bit_at_shl_high, bit_at_shr, ored}
use Rattle.run_tables.specs.Pending.{word_bits, held, IsClear, IsStored}

-- ---- values by place

pub map_same : (f h : ℕ → Bool) (n : ℕ) → ((k : ℕ) → k < n → h k ≡ f k) → map h (range_with_len 0 n) ≡ map f (range_with_len 0 n)
map_same f h n same =
    fill_by_all f (map h (range_with_len 0 n)) n true (length-map-range_with_len h 0 n)
    (λ k less. get_or-map-range_with_len h 0 n k k true less (omega arith) ∙ same k less)

-- values, and then others
map_join : (f g h : ℕ → Bool) (a b : ℕ) → ((k : ℕ) → k < a → h k ≡ f k) → ((j : ℕ) → j < b → h (a + j) ≡ g j)
    → map h (range_with_len 0 (a + b)) ≡ map f (range_with_len 0 a) ++ map g (range_with_len 0 b)
map_join f g h a zero same new =
    let none : a + 0 ≡ a = omega arith in
    rw (none, append-nil) (map_same f h a same)
map_join f g h a (suc b) same new =
    let more : a + suc b ≡ (a + b) + 1 = omega arith in
    let next : b + 1 ≡ suc b = omega arith in
    rw more
    (map-range_with_len_more h 0 (a + b) (a + b) (omega arith) ∙
    (ap (λ (front : List Bool). front ++ h (a + b) ∷ []) (map_join f g h a b same (λ j less. new j (omega arith))) ∙
    (ap (λ (bit : Bool). (map f (range_with_len 0 a) ++ map g (range_with_len 0 b)) ++ bit ∷ []) (new b (omega arith)) ∙
    (append_assoc (map f (range_with_len 0 a)) (map g (range_with_len 0 b)) (g b ∷ []) ∙
    ap (λ (bits : List Bool). map f (range_with_len 0 a) ++ bits) (sym (map-range_with_len_more g 0 b b (omega arith))
    ∙ ap (λ q. map g (range_with_len 0 q)) next)))))

all_alike : (bit : Bool) (a m : ℕ) → map (λ (place : ℕ). bit) (range_with_len a m) ≡ replicate m bit
all_alike bit a zero = refl
all_alike bit a (suc m) = ap (λ (bits : List Bool). bit ∷ bits) (all_alike bit (a + 1) m)

-- ---- words moved by so many bits

moved_before : (word by k : ℕ) → word < 2 ^ 64 → k < by → bit_of_word (word / 2 ^ by) k ≡ false
moved_before word by k fits h =
    ap (λ b. nat_eq b 1) (bit_at_shr word by (63 - k) ∙ bit_at_above word 64 (by + (63 - k)) fits (omega arith))

moved_after : (word by k : ℕ) → by ≤ k → k < 64 → bit_of_word (word / 2 ^ by) k ≡ bit_of_word word (k - by)
moved_after word by k low h =
    let e : by + (63 - k) ≡ 63 - (k - by) = omega arith in
    ap (λ b. nat_eq b 1) (bit_at_shr word by (63 - k) ∙ ap (bit_at word) e)

back_inside : (word by k : ℕ) → by + k < 64 → bit_of_word (word * 2 ^ by % 2 ^ 64) k ≡ bit_of_word word (by + k)
back_inside word by k h =
    let e : 63 - k - by ≡ 63 - (by + k) = omega arith in
    ap (λ b. nat_eq b 1) (bit_at_rest (word * 2 ^ by) 64 (63 - k) (omega arith) ∙
    (bit_at_shl_high word by (63 - k) (omega arith) ∙ ap (bit_at word) e))

back_past : (word by k : ℕ) → 64 ≤ by + k → k < 64 → bit_of_word (word * 2 ^ by % 2 ^ 64) k ≡ false
back_past word by k low h =
    ap (λ b. nat_eq b 1) (bit_at_rest (word * 2 ^ by) 64 (63 - k) (omega arith) ∙
    bit_at_shl_low word by (63 - k) (omega arith))

-- ---- the lowest bits of a number, as the highest of a word

abbrev pub highest : ℕ → ℕ → ℕ
highest value count = value * 2 ^ 32 % 2 ^ 64 * 2 ^ (32 - count) % 2 ^ 64

highest_inside : (value count k : ℕ) → count ≤ 32 → k < count
    → bit_of_word (highest value count) k ≡ nat_eq (bit_at value (count - 1 - k)) 1
highest_inside value count k few h =
    let e : 63 - (32 + (32 - count + k)) ≡ count - 1 - k = omega arith in
    back_inside (value * 2 ^ 32 % 2 ^ 64) (32 - count) k (omega arith) ∙
    (back_inside value 32 (32 - count + k) (omega arith) ∙ ap (λ place. nat_eq (bit_at value place) 1) e)

pub highest_clear : (value count : ℕ) → count ≤ 32 → IsClear count (highest value count)
highest_clear value count few k low h =
    elim (cases_lt (32 - count + k) 64) [
      | inl lt ↦ back_inside (value * 2 ^ 32 % 2 ^ 64) (32 - count) k lt ∙ back_past value 32 (32 - count + k) (omega arith) lt
      | inr le ↦ back_past (value * 2 ^ 32 % 2 ^ 64) (32 - count) k le h
    ]

pub highest_bits : (value count : ℕ) → count ≤ 32 → word_bits count (highest value count) ≡ number_bits count value
unfolding word_bits
highest_bits value count few =
    map_same (λ place. nat_eq (bit_at value (count - 1 - place)) 1) (λ place. bit_of_word (highest value count) place) count
    (λ k h. highest_inside value count k few h)

-- ---- a word that others are or'ed to

or_false : (a b : Bool) → b ≡ false → (a || b) ≡ a
or_false true b e = refl
or_false false b e = e

false_or : (a b : Bool) → a ≡ false → (a || b) ≡ b
false_or true b e = absurd (cc)
false_or false b e = refl

both_before : (word more filled k : ℕ) → more < 2 ^ 64 → k < filled
    → bit_of_word (bit_or word (more / 2 ^ filled)) k ≡ bit_of_word word k
both_before word more filled k fits h =
    ored word (more / 2 ^ filled) (63 - k) ∙
    or_false (bit_of_word word k) (bit_of_word (more / 2 ^ filled) k) (moved_before more filled k fits h)

both_after : (word more filled k : ℕ) → IsClear filled word → filled ≤ k → k < 64
    → bit_of_word (bit_or word (more / 2 ^ filled)) k ≡ bit_of_word more (k - filled)
both_after word more filled k clear low h =
    ored word (more / 2 ^ filled) (63 - k) ∙
    (false_or (bit_of_word word k) (bit_of_word (more / 2 ^ filled) k) (clear k low h) ∙ moved_after more filled k low h)

both_bits : (word more filled count : ℕ) → more < 2 ^ 64 → IsClear filled word → filled + count ≤ 64
    → word_bits (filled + count) (bit_or word (more / 2 ^ filled)) ≡ word_bits filled word ++ word_bits count more
unfolding word_bits
both_bits word more filled count fits clear room =
    map_join (λ place. bit_of_word word place) (λ place. bit_of_word more place)
    (λ place. bit_of_word (bit_or word (more / 2 ^ filled)) place) filled count
    (λ k h. both_before word more filled k fits h)
    (λ j h.
    let e : filled + j - filled ≡ j = omega arith in
    both_after word more filled (filled + j) clear (omega arith) (omega arith) ∙ ap (bit_of_word more) e)

-- bits that fit into the word
pub held_more : (order : Order) (octets : List ℕ) (at word filled more count : ℕ) → more < 2 ^ 64 → IsClear filled word
    → filled + count ≤ 64
    → held order octets at (bit_or word (more / 2 ^ filled)) (filled + count) ≡ held order octets at word filled ++ word_bits count more
unfolding held
held_more order octets at word filled more count fits clear room =
    ap (λ (bits : List Bool). bits_in order octets (8 * at) ++ bits) (both_bits word more filled count fits clear room) ∙
    sym (append_assoc (bits_in order octets (8 * at)) (word_bits filled word) (word_bits count more))

pub clear_more : (word filled more count : ℕ) → IsClear filled word → IsClear count more
    → IsClear (filled + count) (bit_or word (more / 2 ^ filled))
clear_more word filled more count clear rest k low h =
    both_after word more filled k clear (omega arith) h ∙ rest (k - filled) (omega arith) (omega arith)

-- ---- a word that is stored

pub stored_bits : (order : Order) (old new : List ℕ) (at word filled : ℕ) → IsStored order old new at word → filled ≤ 64
    → bits_in order new (8 * at + filled) ≡ held order old at word filled
unfolding held word_bits
stored_bits order old new at word filled stored few =
    bits_in_grow order old new (8 * at) filled (λ place. bit_of_word word place) stored.before
    (λ j h. stored.inside j (omega arith))

rest_bits : (more filled count : ℕ) → filled ≤ 64 → count ≤ 64 → 64 ≤ filled + count
    → word_bits count more ≡ word_bits (64 - filled) more ++ word_bits (filled + count - 64) (more * 2 ^ (64 - filled) % 2 ^ 64)
unfolding word_bits
rest_bits more filled count few most full =
    let all : count ≡ (64 - filled) + (filled + count - 64) = omega arith in
    ap (λ n. map (λ (place : ℕ). bit_of_word more place) (range_with_len 0 n)) all ∙
    map_join (λ place. bit_of_word more place) (λ place. bit_of_word (more * 2 ^ (64 - filled) % 2 ^ 64) place)
    (λ place. bit_of_word more place) (64 - filled) (filled + count - 64)
    (λ k h. refl)
    (λ j h. elim (cases_lt (64 - filled + j) 64) [
      | inl lt ↦ sym (back_inside more (64 - filled) j lt)
      | inr le ↦ absurd (omega arith)
    ])

-- bits of which the word takes the first ones and is stored, and the others wait
pub held_full : (order : Order) (old new : List ℕ) (at word filled more count : ℕ) → more < 2 ^ 64 → IsClear filled word → filled ≤ 64
    → count ≤ 64 → 64 ≤ filled + count → IsStored order old new at (bit_or word (more / 2 ^ filled))
    → held order new (at + 8) (more * 2 ^ (64 - filled) % 2 ^ 64) (filled + count - 64)
    ≡ held order old at word filled ++ word_bits count more
unfolding held
held_full order old new at word filled more count fits clear few most full stored =
    let both : ℕ = bit_or word (more / 2 ^ filled) in
    let rest : ℕ = more * 2 ^ (64 - filled) % 2 ^ 64 in
    let left : ℕ = filled + count - 64 in
    let next : 8 * (at + 8) ≡ 8 * at + 64 = omega arith in
    let word_full : filled + (64 - filled) ≡ 64 = omega arith in
    let front : bits_in order new (8 * (at + 8)) ≡ (bits_in order old (8 * at) ++ word_bits filled word) ++ word_bits (64 - filled) more =
    ap (bits_in order new) next ∙ (stored_bits order old new at both 64 stored (omega arith) ∙
    (ap (λ (bits : List Bool). bits_in order old (8 * at) ++ bits) (ap (λ n. word_bits n both) (sym word_full) ∙
    both_bits word more filled (64 - filled) fits clear (omega arith)) ∙
    sym (append_assoc (bits_in order old (8 * at)) (word_bits filled word) (word_bits (64 - filled) more)))) in
    ap (λ (bits : List Bool). bits ++ word_bits left rest) front ∙
    (append_assoc (bits_in order old (8 * at) ++ word_bits filled word) (word_bits (64 - filled) more) (word_bits left rest) ∙
    ap (λ (bits : List Bool). (bits_in order old (8 * at) ++ word_bits filled word) ++ bits)
    (sym (rest_bits more filled count few most full)))

pub clear_rest : (filled more count : ℕ) → filled ≤ 64 → IsClear count more
    → IsClear (filled + count - 64) (more * 2 ^ (64 - filled) % 2 ^ 64)
clear_rest filled more count few clear k low h =
    elim (cases_lt (64 - filled + k) 64) [
      | inl lt ↦ back_inside more (64 - filled) k lt ∙ clear (64 - filled + k) (omega arith) lt
      | inr le ↦ back_past more (64 - filled) k le h
    ]

-- ---- all bits

pub length-held : (order : Order) (octets : List ℕ) (at word filled : ℕ) → length (held order octets at word filled) ≡ 8 * at + filled
unfolding held word_bits
length-held order octets at word filled =
    rw (
      length-append,
      length-bits_in,
      length-map-range_with_len (λ (place : ℕ). bit_of_word word place) 0 filled,
    ) refl

pub held-none : (order : Order) (octets : List ℕ) (word : ℕ) → held order octets 0 word 0 ≡ []
unfolding held word_bits
held-none order octets word = rw (bits_in-none) refl

pub ruleset views = (length-held, held-none)

-- other octets with the same bits
pub held-same : (order : Order) (old new : List ℕ) (at word filled : ℕ) → ((k : ℕ) → bit_in order new k ≡ bit_in order old k)
    → held order new at word filled ≡ held order old at word filled
unfolding held
held-same order old new at word filled same =
    ap (λ (bits : List Bool). bits ++ word_bits filled word) (bits_in-same order new old (8 * at) (λ k h. same k))

-- the bits of all octets, of which none waits
pub held-octets : (order : Order) (old new : List ℕ) → ((k : ℕ) → bit_in order new k ≡ bit_in order old k)
    → held order new (length old) 0 0 ≡ bits_of order old
unfolding held word_bits
held-octets order old new same =
    append-nil (bits_in order new (8 * length old)) ∙ bits_in-same order new old (8 * length old) (λ k h. same k)

filled_word : (word filled fill : ℕ) → IsClear filled word → filled + fill ≤ 64
    → word_bits (filled + fill) word ≡ word_bits filled word ++ replicate fill false
unfolding word_bits
filled_word word filled fill clear h =
    map_join (λ place. bit_of_word word place) (λ place. false) (λ place. bit_of_word word place) filled fill
    (λ k lt. refl) (λ j lt. clear (filled + j) (omega arith) (omega arith)) ∙
    ap (λ (bits : List Bool). map (λ (place : ℕ). bit_of_word word place) (range_with_len 0 filled) ++ bits) (all_alike false 0 fill)

-- the octets that the bits need are the bits, filled with fewer than eight 0 bits
pub fills_held : (order : Order) (old new : List ℕ) (at word filled : ℕ) → filled < 64 → at + 8 ≤ length new
    → IsStored order old new at word → IsClear filled word
    → FillsOctets order (held order old at word filled) (take (at + (filled + 7) / 8) new)
unfolding held
fills_held order old new at word filled few room stored clear =
    let n : ℕ = at + (filled + 7) / 8 in
    let fill : ℕ = 8 * ((filled + 7) / 8) - filled in
    let long : length (take (at + (filled + 7) / 8) new) ≡ at + (filled + 7) / 8 =
    length-take-le (at + (filled + 7) / 8) new (omega (arith, room)) in
    let whole : 8 * length (take (at + (filled + 7) / 8) new) ≡ 8 * at + (filled + fill) = omega (arith, long) in
    record {
      fill = fill;
      few = omega arith;
      filled = ap (bits_in order (take n new)) whole ∙
          (bits_in-same order (take n new) new (8 * at + (filled + fill)) (λ k h. bit_in-take order new n k (omega arith)) ∙
          (stored_bits order old new at word (filled + fill) stored (omega arith) ∙
          (ap (λ (bits : List Bool). bits_in order old (8 * at) ++ bits) (filled_word word filled fill clear (omega arith)) ∙
          sym (append_assoc (bits_in order old (8 * at)) (word_bits filled word) (replicate fill false)))));
    }

-- the first bits, of which the last ones are in a word again
pub held_first : (order : Order) (old new : List ℕ) (at word filled at' word' filled' : ℕ) → IsStored order old new at word → filled ≤ 64
    → 8 * at' + filled' ≤ 8 * at + filled → ((k : ℕ) → k < filled' → bit_of_word word' k ≡ bit_in order new (8 * at' + k))
    → held order new at' word' filled' ≡ take (8 * at' + filled') (held order old at word filled)
unfolding held word_bits
held_first order old new at word filled at' word' filled' stored few fits same =
    sym (bits_in_grow order new new (8 * at') filled' (λ place. bit_of_word word' place) (λ k h. refl) (λ j h. sym (same j h))) ∙
    (sym (take-bits_in order new (8 * at' + filled') (8 * at + filled) fits) ∙
    ap (take (8 * at' + filled')) (stored_bits order old new at word filled stored few))

-- ---- the first bits of a word

abbrev pub cut_word : ℕ → ℕ → ℕ
cut_word word count = word / 2 ^ 1 / 2 ^ (63 - count) * 2 ^ (63 - count) % 2 ^ 64 * 2 ^ 1 % 2 ^ 64

pub cut_inside : (word count k : ℕ) → count < 64 → k < count → bit_of_word (cut_word word count) k ≡ bit_of_word word k
cut_inside word count k few h =
    let e : 63 - count + (1 + k) - (63 - count) - 1 ≡ k = omega arith in
    back_inside (word / 2 ^ 1 / 2 ^ (63 - count) * 2 ^ (63 - count) % 2 ^ 64) 1 k (omega arith) ∙
    (back_inside (word / 2 ^ 1 / 2 ^ (63 - count)) (63 - count) (1 + k) (omega arith) ∙
    (moved_after (word / 2 ^ 1) (63 - count) (63 - count + (1 + k)) (omega arith) (omega arith) ∙
    (moved_after word 1 (63 - count + (1 + k) - (63 - count)) (omega arith) (omega arith) ∙ ap (bit_of_word word) e)))

pub cut_clear : (word count : ℕ) → count < 64 → IsClear count (cut_word word count)
cut_clear word count few k low h =
    elim (cases_lt (1 + k) 64) [
      | inl lt ↦
          back_inside (word / 2 ^ 1 / 2 ^ (63 - count) * 2 ^ (63 - count) % 2 ^ 64) 1 k lt ∙
          back_past (word / 2 ^ 1 / 2 ^ (63 - count)) (63 - count) (1 + k) (omega arith) lt
      | inr le ↦ back_past (word / 2 ^ 1 / 2 ^ (63 - count) * 2 ^ (63 - count) % 2 ^ 64) 1 k le h
    ]

-- where there are no bits, no octets hold them
pub fills_none : (order : Order) (octets : List ℕ) (at word filled : ℕ) → at ≡ 0 → filled ≡ 0
    → FillsOctets order (held order octets at word filled) []
fills_none order octets at word filled none empty =
    rw (none, empty, held-none) (record { fill = 0; few = omega arith; filled = bits_in-none order [] })

-- ---- whole octets that are moved out

-- a stored word changes no bits that are held
pub held_stored : (order : Order) (old new : List ℕ) (at word filled : ℕ) → IsStored order old new at word
    → held order new at word filled ≡ held order old at word filled
unfolding held
held_stored order old new at word filled stored =
    ap (λ (bits : List Bool). bits ++ word_bits filled word) (bits_in-same order new old (8 * at) stored.before)

abbrev pub rest_word : ℕ → ℕ → ℕ
rest_word word filled = word * 2 ^ (filled - filled % 8) % 2 ^ 64

pub length-left : (order : Order) (octets : List ℕ) (word filled : ℕ) → length (held order octets 0 word (filled % 8)) < 8
length-left order octets word filled = rw length-held (omega arith)

pub clear_left : (word filled : ℕ) → filled < 64 → IsClear filled word → IsClear (filled % 8) (rest_word word filled)
clear_left word filled few clear k low h =
    elim (cases_lt (filled - filled % 8 + k) 64) [
      | inl lt ↦ back_inside word (filled - filled % 8) k lt ∙ clear (filled - filled % 8 + k) (omega arith) lt
      | inr le ↦ back_past word (filled - filled % 8) k le h
    ]

-- the bits held are those of the whole octets, and then the ones that are left in the word
pub held_moved : (order : Order) (old new : List ℕ) (at word filled : ℕ) → filled < 64 → at + 8 ≤ length new
    → IsStored order old new at word
    → held order old at word filled
    ≡ bits_of order (take (at + filled / 8) new) ++ held order new 0 (rest_word word filled) (filled % 8)
unfolding held word_bits
held_moved order old new at word filled few room stored =
    let n : ℕ = at + filled / 8 in
    let by : ℕ = filled - filled % 8 in
    let long : length (take (at + filled / 8) new) ≡ at + filled / 8 = length-take-le (at + filled / 8) new (omega (arith, room)) in
    let whole : 8 * n ≡ 8 * length (take n new) = ap (λ m. 8 * m) (sym long) in
    let all : 8 * at + filled ≡ 8 * (at + filled / 8) + filled % 8 = omega arith in
    sym (stored_bits order old new at word filled stored (omega arith)) ∙
    (ap (bits_in order new) all ∙
    (bits_in_grow order (take n new) new (8 * n) (filled % 8) (λ place. bit_of_word (rest_word word filled) place)
    (λ k h. sym (bit_in-take order new n k h))
    (λ j h.
    let there : 8 * (at + filled / 8) + j ≡ 8 * at + (filled - filled % 8 + j) = omega arith in
    ap (bit_in order new) there ∙ (stored.inside (by + j) (omega arith) ∙ sym (back_inside word by j (omega arith)))) ∙
    (ap (λ m. bits_in order (take n new) m ++ word_bits (filled % 8) (rest_word word filled)) whole ∙
    ap (λ (bits : List Bool). bits_of order (take n new) ++ (bits ++ word_bits (filled % 8) (rest_word word filled)))
    (sym (bits_in-none order new)))))

-- ---- runs of a bit

pub replicate_join : (a b : ℕ) (bit : Bool) → replicate (a + b) bit ≡ replicate a bit ++ replicate b bit
replicate_join zero b bit = ap (λ n. replicate n bit) (zero-add b)
replicate_join (suc a) b bit = ap (λ n. replicate n bit) (suc-add a b) ∙ ap (λ (bits : List Bool). bit ∷ bits) (replicate_join a b bit)
