-- The 0 bits before an EOL's 1, and the EOLs that are one after the other.
use Rattle.std.proofs.Common.{ltb, ℕ, zero, suc, ◌≡◌, ◌+◌, ◌<◌, Bool, true, false, List, [], ◌∷◌, ◌++◌, length, drop, replicate, Some, None}
use Rattle.std.proofs.Common.{refl, ap, sym, ◌∙◌, arith, cond, length-append, append_assoc}
use Rattle.std.specs.Prelude.{Option, slice_index_or}
use Rattle.std.specs.Option.{option_map}
use Rattle.std.proofs.lemmas.Bool.{false≢true, ltb-true, ltb-false, le-ltb}
use Rattle.std.proofs.lemmas.List.{length-replicate, drop_at}
use Rattle.page_code.specs.OneDimension.Pages.{eol_word, eol_words, AreEols, AreZeros}
use Rattle.page_code.specs.OneDimension.Fronts.{zeros_before, eol_bits, bits_of_eols}

-- a 1 stays where it is
pub zeros_front : (a y : List Bool) (n : ℕ) → zeros_before a ≡ Some n → zeros_before (a ++ y) ≡ Some n
zeros_front [] y n e = cc
zeros_front (true ∷ a) y n e = e
zeros_front (false ∷ a) y n e = seen (zeros_before a) refl e (λ m is. zeros_front a y m is)
  where
    seen : (o : Option ℕ) → zeros_before a ≡ o → option_map suc o ≡ Some n → ((m : ℕ) → zeros_before a ≡ Some m
        → zeros_before (a ++ y) ≡ Some m) → option_map suc (zeros_before (a ++ y)) ≡ Some n
    seen None is e later = cc
    seen (Some m) is e later = rw (later m is) e

pub zeros_eol : (n : ℕ) (y : List Bool) → zeros_before (eol_word n ++ y) ≡ Some n
zeros_eol zero y = refl
zeros_eol (suc n) y = ap (option_map suc) (zeros_eol n y)

pub zeros_split : (x : List Bool) (n : ℕ) → zeros_before x ≡ Some n → (rest : List Bool) × (x ≡ eol_word n ++ rest)
zeros_split [] n e = cc
zeros_split (true ∷ x) n e = let is : 0 ≡ n = cc in (x, rw (← is) refl)
zeros_split (false ∷ x) n e = seen (zeros_before x) refl e (λ m is. zeros_split x m is)
  where
    seen : (o : Option ℕ) → zeros_before x ≡ o → option_map suc o ≡ Some n → ((m : ℕ) → zeros_before x ≡ Some m
        → (rest : List Bool) × (x ≡ eol_word m ++ rest)) → (rest : List Bool) × (false ∷ x ≡ eol_word n ++ rest)
    seen None is e later = cc
    seen (Some m) is e later =
        let next : suc m ≡ n = cc in
        let there = later m is in
        (there.0, rw (← next) (ap (λ l. false ∷ l) there.1))

-- where no 1 is, all bits are 0
pub none_zeros : (x : List Bool) → zeros_before x ≡ None → AreZeros x
none_zeros [] e = λ k d h. absurd (omega arith)
none_zeros (true ∷ x) e = cc
none_zeros (false ∷ x) e = λ k d h. at (none_zeros x (after (zeros_before x) refl e)) k d h
  where
    after : (o : Option ℕ) → zeros_before x ≡ o → option_map suc o ≡ None → zeros_before x ≡ None
    after None is e = is
    after (Some m) is e = cc

    at : AreZeros x → (k : ℕ) (d : Bool) → k < length (false ∷ x) → slice_index_or (false ∷ x) k d ≡ false
    at later zero d h = refl
    at later (suc k) d h = later k d (omega (arith, h))

pub zeros_none : (x : List Bool) → AreZeros x → zeros_before x ≡ None
zeros_none [] all = refl
zeros_none (true ∷ x) all = absurd (false≢true (sym (all 0 false (omega arith))))
zeros_none (false ∷ x) all = ap (option_map suc) (zeros_none x (λ k d h. all (suc k) d (omega (arith, h))))

pub length-eol : (n : ℕ) → length (eol_word n) ≡ n + 1
length-eol n = omega (arith, length-append (replicate n false) (true ∷ []), length-replicate n false)

-- EOLs that are there are those that are counted
pub eols_counted : (most : ℕ) (x : List Bool) (eols : List ℕ) (rest : List Bool) → AreEols most x eols rest
    → bits_of_eols most x ≡ length (eol_words eols)
eols_counted zero x [] rest are = refl
eols_counted zero x (n ∷ eols) rest are = absurd (omega (arith, are.few))
eols_counted (suc most) x [] rest are = seen (zeros_before x) refl
  where
    test : (n : ℕ) (b : Bool) → zeros_before x ≡ Some n → ltb n 11 ≡ b → cond b 0 (n + 1 + bits_of_eols most (drop (n + 1) x)) ≡ 0
    test n true is e = refl
    test n false is e =
        let there = zeros_split x n is in
        absurd (are.no_more (omega arith) (n, there.0, ltb-false n 11 e, sym are.split ∙ there.1))

    seen : (o : Option ℕ) → zeros_before x ≡ o → eol_bits o (λ n. n + 1 + bits_of_eols most (drop (n + 1) x)) ≡ 0
    seen None is = refl
    seen (Some n) is = test n (ltb n 11) is refl
eols_counted (suc most) x (n ∷ eols) rest are =
    let after : List Bool = eol_words eols ++ rest in
    let split : x ≡ eol_word n ++ after = are.split ∙ append_assoc (eol_word n) (eol_words eols) rest in
    let later : AreEols most after eols rest = record {
      long = are.long.1;
      few = omega (arith, are.few);
      split = refl;
      no_more = λ h.
          are.no_more (omega arith);
    } in
    let rec = eols_counted most after eols rest later in
    let here : zeros_before (eol_word n ++ after) ≡ Some n = zeros_eol n after in
    let dropped : drop (n + 1) (eol_word n ++ after) ≡ after = drop_at (eol_word n) after (n + 1) (length-eol n) in
    rw (split, here, le-ltb n 11 are.long.0, dropped, rec) (omega (arith, length-eol n, length-append (eol_word n) (eol_words eols)))

-- there are such EOLs
pub eols_found : (most : ℕ) (x : List Bool) → (eols : List ℕ) × (rest : List Bool) × AreEols most x eols rest
eols_found zero x = ([], x, record { long = tt; few = omega arith; split = refl; no_more = λ h. absurd (omega arith) })
eols_found (suc most) x = seen (zeros_before x) refl (λ y. eols_found most y)
  where
    none : (zeros_before x ≡ None) → (eols : List ℕ) × (rest : List Bool) × AreEols (suc most) x eols rest
    none is = (
      [],
      x,
      record {
        long = tt;
        few = omega arith;
        split = refl;
        no_more = λ h stands. let other : zeros_before x ≡ Some stands.0
            = ap zeros_before stands.3 ∙ zeros_eol stands.0 stands.1 in cc;
      },
    )

    test : (n : ℕ) (b : Bool) → zeros_before x ≡ Some n → ltb n 11 ≡ b → ((y : List Bool)
        → (eols : List ℕ) × (rest : List Bool) × AreEols most y eols rest)
        → (eols : List ℕ) × (rest : List Bool) × AreEols (suc most) x eols rest
    test n true is e again = (
      [],
      x,
      record {
        long = tt;
        few = omega arith;
        split = refl;
        no_more = λ h stands.
            let other : Some n ≡ Some stands.0 = sym is ∙ (ap zeros_before stands.3 ∙ zeros_eol stands.0 stands.1) in
            let same : n ≡ stands.0 = cc in
            omega (arith, ltb-true n 11 e, stands.2);
      },
    )
    test n false is e again =
        let there = zeros_split x n is in
        let later = again there.0 in (
          n ∷ later.0,
          later.1,
          record {
            long = (ltb-false n 11 e, later.2.long);
            few = omega (arith, later.2.few);
            split = there.1 ∙ (ap (λ l. eol_word n ++ l) later.2.split ∙ sym (append_assoc (eol_word n) (eol_words later.0) later.1));
            no_more = λ h. later.2.no_more (omega arith);
          },
        )

    seen : (o : Option ℕ) → zeros_before x ≡ o → ((y : List Bool) → (eols : List ℕ) × (rest : List Bool) × AreEols most y eols rest)
        → (eols : List ℕ) × (rest : List Bool) × AreEols (suc most) x eols rest
    seen None is again = none is
    seen (Some n) is again = test n (ltb n 11) is refl again
