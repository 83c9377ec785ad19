-- Bits that grow at their end.
use Rattle.std.proofs.Common.{◌≡◌, ℕ, ◌+◌, ◌<◌, ◌≤◌, Bool, List, [], ◌∷◌, ◌++◌, refl, sym, ap, ◌∙◌}
use Rattle.std.proofs.Common.{arith, zero, suc, map, replicate, append_assoc}
use Rattle.std.specs.List.{range_with_len}
use Rattle.std.proofs.lemmas.List.{append-nil}
use Rattle.std.proofs.lemmas.List.FromFn.{map-range_with_len_more}
use Rattle.raster.specs.Packed.{bit_in, bits_in}
use Rattle.raster.proofs.PackedLemmas.{bits_in-same, bits_in_more}
use Rattle.raster.specs.declared.packed.Order.{Order}

-- the bits so far, and then others
pub bits_in_grow : (order : Order) (xs ys : List ℕ) (n m : ℕ) (f : ℕ → Bool) → ((k : ℕ) → k < n → bit_in order ys k ≡ bit_in order xs k)
    → ((j : ℕ) → j < m → bit_in order ys (n + j) ≡ f j) → bits_in order ys (n + m) ≡ bits_in order xs n ++ map f (range_with_len 0 m)
bits_in_grow order xs ys n zero f same new =
    let none : n + 0 ≡ n = omega arith in
    rw (none, append-nil) (bits_in-same order ys xs n same)
bits_in_grow order xs ys n (suc m) f same new =
    let more : n + suc m ≡ (n + m) + 1 = omega arith in
    let next : m + 1 ≡ suc m = omega arith in
    rw more
    (bits_in_more order ys ys (n + m) (f m) (λ j h. refl) (new m (omega arith)) ∙
    (ap (λ (front : List Bool). front ++ f m ∷ []) (bits_in_grow order xs ys n m f same (λ j h. new j (omega arith))) ∙
    (append_assoc (bits_in order xs n) (map f (range_with_len 0 m)) (f m ∷ []) ∙
    ap (λ (bits : List Bool). bits_in order xs n ++ bits) (sym (map-range_with_len_more f 0 m m (omega arith))
    ∙ ap (λ q. map f (range_with_len 0 q)) next))))

all_alike : (bit : Bool) (a m : ℕ) → map (λ (place : ℕ). bit) (range_with_len a m) ≡ replicate m bit
all_alike bit a zero = refl
all_alike bit a (suc m) = ap (λ (bits : List Bool). bit ∷ bits) (all_alike bit (a + 1) m)

-- the bits so far, and then a run
pub bits_in_run : (order : Order) (xs ys : List ℕ) (n m : ℕ) (bit : Bool) → ((k : ℕ) → k < n → bit_in order ys k ≡ bit_in order xs k)
    → ((k : ℕ) → n ≤ k → k < n + m → bit_in order ys k ≡ bit) → bits_in order ys (n + m) ≡ bits_in order xs n ++ replicate m bit
bits_in_run order xs ys n m bit same new =
    bits_in_grow order xs ys n m (λ (place : ℕ). bit) same (λ j h. new (n + j) (omega arith) (omega arith)) ∙
    ap (λ (bits : List Bool). bits_in order xs n ++ bits) (all_alike bit 0 m)
