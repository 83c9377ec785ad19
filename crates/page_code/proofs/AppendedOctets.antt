-- Octets whose bits begin with those of others, in either order.
use Rattle.std.proofs.Common.{◌≡◌, ◌<◌, ◌+◌, ◌*◌, ◌++◌, ◌∙◌, ℕ, zero, suc, Bool, false, List, [], ◌∷◌, ap, sym, refl, arith}
use Rattle.std.proofs.Common.{append_assoc, drop, get_or, length, nat_eq, replicate, subst, take}
use Rattle.std.proofs.lemmas.List.{append-nil, drop_at, length-append, length-replicate, take_at}
use Rattle.std.proofs.lemmas.List.FromFn.{get_or-map-range_with_len}
use Rattle.std.proofs.lemmas.Nat.Bits.{bit_at-lt, same_from_bits_below}
use Rattle.std.specs.Int.{bit_at}
use Rattle.std.specs.Prelude.{Result, Ok, Err, OnErr, OnOk, is_err}
use Rattle.std.proofs.lemmas.Bool.{false≢true}
use Rattle.std.proofs.Common.{true}
use Rattle.raster.specs.Octets.{AreOctets}
use Rattle.raster.specs.Packed.{Bits, FillsOctets, bits_of, place_in}
use Rattle.raster.specs.declared.packed.Order.{Order}
use Rattle.raster.specs.declared.packed.Order.TheVariants.{LsbFirst, MsbFirst}
use Rattle.raster.proofs.OctetBits.{bits_of-first, octet_bits_in}
use Rattle.raster.proofs.PackedLemmas.{bits_in-none, length-bits_in}
use Rattle.run_tables.specs.Written.{Appends, KeepsBits}
use Rattle.page_code.specs.PageCodes.{AppendsCode}

-- ---- one octet

one_is : (a b : ℕ) → a < 2 → b < 2 → nat_eq a 1 ≡ nat_eq b 1 → a ≡ b
one_is zero zero few few' same = refl
one_is zero (suc zero) few few' same = absurd (cc)
one_is (suc zero) zero few few' same = absurd (cc)
one_is (suc zero) (suc zero) few few' same = refl
one_is (suc (suc a)) b few few' same = absurd (omega arith)
one_is a (suc (suc b)) few few' same = absurd (omega arith)

place_in-twice : (order : Order) (place : ℕ) → place < 8 → place_in order (place_in order place) ≡ place
place_in-twice LsbFirst place less = omega arith
place_in-twice MsbFirst place less = omega arith

place_in-less : (order : Order) (place : ℕ) → place_in order place < 8
place_in-less LsbFirst place = omega arith
place_in-less MsbFirst place = omega arith

octet_bits_in-at : (order : Order) (x above : ℕ) → above < 8
    → get_or (octet_bits_in order x) (place_in order above) false ≡ nat_eq (bit_at x above) 1
octet_bits_in-at order x above less =
    get_or-map-range_with_len (λ place. nat_eq (bit_at x (place_in order place)) 1) 0 8 (place_in order above) (place_in order above) false
    (place_in-less order above) (omega arith) ∙
    ap (λ place. nat_eq (bit_at x place) 1) (place_in-twice order above less)

-- octets with the same bits
same_octet : (order : Order) (x y : ℕ) → x < 256 → y < 256 → octet_bits_in order x ≡ octet_bits_in order y → x ≡ y
same_octet order x y small small' same =
    same_from_bits_below 8 x y small small' (λ above less.
    one_is (bit_at x above) (bit_at y above) (bit_at-lt x above) (bit_at-lt y above)
    (sym (octet_bits_in-at order x above less) ∙ (ap (λ (bits : List Bool). get_or bits (place_in order above) false) same ∙
    octet_bits_in-at order y above less)))

-- ---- lists of octets

-- octets whose bits begin with those of others begin with the others
begins_with : (order : Order) (old new : List ℕ) (rest : List Bool) → AreOctets old → AreOctets new
    → bits_of order new ≡ bits_of order old ++ rest → (octets : List ℕ) × (new ≡ old ++ octets) × (bits_of order octets ≡ rest)
begins_with order [] new rest small small' same = (new, refl, same ∙ ap (λ (bits : List Bool). bits ++ rest) (bits_in-none order []))
begins_with order (x ∷ xs) [] rest small small' same =
    let none : length (bits_of order []) ≡ 0 = length-bits_in order [] 0 in
    let some : length (bits_of order (x ∷ xs) ++ rest) ≡ 8 * length (x ∷ xs) + length rest =
    length-append (bits_of order (x ∷ xs)) rest ∙ ap (λ n. n + length rest) (length-bits_in order (x ∷ xs) (8 * length (x ∷ xs))) in
    absurd (omega (arith, none, some, ap length same))
begins_with order (x ∷ xs) (y ∷ ys) rest small small' same =
    let first : octet_bits_in order y ++ bits_of order ys ≡ octet_bits_in order x ++ (bits_of order xs ++ rest) =
    sym (bits_of-first order y ys) ∙ (same ∙ (ap (λ (bits : List Bool). bits ++ rest) (bits_of-first order x xs) ∙
    append_assoc (octet_bits_in order x) (bits_of order xs) rest)) in
    let fronts : octet_bits_in order y ≡ octet_bits_in order x =
    sym (take_at (octet_bits_in order y) (bits_of order ys) 8 refl) ∙ (ap (take 8) first ∙
    take_at (octet_bits_in order x) (bits_of order xs ++ rest) 8 refl) in
    let rests : bits_of order ys ≡ bits_of order xs ++ rest =
    sym (drop_at (octet_bits_in order y) (bits_of order ys) 8 refl) ∙ (ap (drop 8) first ∙
    drop_at (octet_bits_in order x) (bits_of order xs ++ rest) 8 refl) in
    let (octets, is, bits) = begins_with order xs ys rest small.1 small'.1 rests in
    (octets, ap (λ n. n ∷ ys) (same_octet order y x small'.0 small.0 fronts) ∙ ap (λ (l : List ℕ). x ∷ l) is, bits)

-- ---- what a writer holds after the octets of a list

-- the octets of the list's bits and of a code
pub appended : (order : Order) (code : List Bool) (old new : List ℕ) (first last : Bits) → AreOctets old → AreOctets new
    → first ≡ record { order = order; bits = bits_of order old } → Appends code first last → FillsOctets last.order last.bits new
    → AppendsCode order code old new
appended order code old new first last small small' begins appends fills =
    let all : last ≡ record { order = order; bits = bits_of order old ++ code } =
    appends ∙ ap (λ (w : Bits). record { order = w.order; bits = w.bits ++ code }) begins in
    let filled = subst (λ (w : Bits). FillsOctets w.order w.bits new) all fills in
    let (octets, is, bits) = begins_with order old new (code ++ replicate filled.fill false) small small'
    (filled.filled ∙ append_assoc (bits_of order old) code (replicate filled.fill false)) in
    (octets, is, record { fill = filled.fill; few = filled.few; filled = bits })

-- the octets of the list's bits alone
alone : (order : Order) (old new : List ℕ) → AreOctets old → AreOctets new → FillsOctets order (bits_of order old) new → new ≡ old
alone order old new small small' fills = no_more (begins_with order old new (replicate fills.fill false) small small' fills.filled)
  where
    no_more : (octets : List ℕ) × (new ≡ old ++ octets) × (bits_of order octets ≡ replicate fills.fill false) → new ≡ old
    no_more ([], is, bits) = is ∙ append-nil old
    no_more (x ∷ xs, is, bits) =
        absurd (omega (
          arith,
          fills.few,
          sym (length-bits_in order (x ∷ xs) (8 * length (x ∷ xs))) ∙ (ap length bits ∙
              length-replicate fills.fill false),
        ))

-- where what was appended is forgotten, the list is as it was
pub unchanged : (order : Order) (old new : List ℕ) (start : ℕ) (first mid last : Bits) → AreOctets old → AreOctets new
    → first ≡ record { order = order; bits = bits_of order old } → start ≡ length first.bits → KeepsBits first mid
    → last ≡ record mid { bits = take start mid.bits } → FillsOctets last.order last.bits new → new ≡ old
unchanged order old new start first mid last small small' begins at (more, appends) forgets fills =
    let back : last ≡ first =
    forgets ∙ (ap (λ (w : Bits). record w { bits = take start w.bits }) appends ∙
    ap (λ (bits : List Bool). record first { bits = bits }) (take_at first.bits more start (sym at))) in
    alone order old new small small' (subst (λ (w : Bits). FillsOctets w.order w.bits new) (back ∙ begins) fills)

-- ---- an answer that is refused, or isn't

pub ok_of_err : {A E : Type 0} (P : Type 0) (r : Result A E) → is_err r ≡ true → OnOk r P
ok_of_err P (Ok x) refused = absurd (false≢true refused)
ok_of_err P (Err x) refused = tt

pub err_of_ok : {A E : Type 0} (P : Type 0) (r : Result A E) → is_err r ≡ false → OnErr r P
err_of_ok P (Ok x) done = tt
err_of_ok P (Err x) done = absurd (false≢true (sym done))
