-- The unstuffed bits, six 1 bits in a row and octets, one bit more; registers of eight bits as numbers.
use Rattle.std.proofs.Common.{◌≡◌, ℕ, zero, suc, ◌+◌, ◌-◌, ◌*◌, ◌/◌, ◌%◌, ◌^◌, ◌<◌, ◌≤◌, Bool, true, false, ◌||◌, List, [], ◌∷◌, ◌++◌}
use Rattle.std.proofs.Common.{length, take, drop, map, cond, get_or, refl, ap, sym, ◌∙◌, arith, inl, inr, nat_eq, nat_lt, pow-suc}
use Rattle.std.specs.List.{range_with_len, filter, list_any, suffix_len, prefix_len}
use Rattle.std.proofs.lemmas.List.{drop-append-le, take-append-le, take_all, length-drop, length-append, append-nil, length-take-le}
use Rattle.std.proofs.lemmas.List.{map-append, get_or_append_left, get_or_push, reverse-append, take-append-drop}
use Rattle.std.proofs.lemmas.List.Folds.{list_any-append}
use Rattle.std.proofs.lemmas.List.FromFn.{length-map-range_with_len}
use Rattle.std.proofs.lemmas.Bool.{cases_eq, cases_Bool, ne_eqb, eq-eqb, and_parts, false≢true}
use Rattle.std.specs.Bool.{beq}
use Rattle.raster.specs.Octets.{number, octet_at, octets_of}
use Rattle.run_tables.specs.Texts.{begins}
use Rattle.hdlc.specs.Flags.{flag}
use Rattle.hdlc.specs.Gaps.{ones_before, unstuffed, has_six}
use Rattle.hdlc.specs.OpenGap.{recent, at_flag}
use Rattle.hdlc.proofs.Flags.{range_more, filter_range_more, filter_range_agree, Below, Below-filter, recent-more, length-recent}
use Rattle.hdlc.proofs.Flags.{recent_long}

-- how many 1 bits in a row end the bits
abbrev pub ones : List Bool → ℕ
ones gap = suffix_len (λ bit. bit) gap

pub ones-more : (gap : List Bool) (b : Bool) → ones (gap ++ b ∷ []) ≡ cond b (1 + ones gap) 0
ones-more gap b = ap (prefix_len (λ bit. bit)) (reverse-append gap (b ∷ []))

pub length-more : (gap : List Bool) (b : Bool) → length (gap ++ b ∷ []) ≡ suc (length gap)
length-more gap b = length-append gap (b ∷ []) ∙ omega arith

map_below : {X : Type 0} (f g : ℕ → X) (n : ℕ) (xs : List ℕ) → Below n xs → ((k : ℕ) → k < n → f k ≡ g k) → map f xs ≡ map g xs
map_below f g n [] all same = refl
map_below f g n (x ∷ xs) all same = ap (λ y. y ∷ map f xs) (same x all.0) ∙ ap (λ ys. g x ∷ ys) (map_below f g n xs all.1 same)

-- one bit more: it is kept unless it comes directly after five 1 bits
pub unstuffed-more : (gap : List Bool) (b : Bool) → unstuffed (gap ++ b ∷ []) ≡ unstuffed gap ++ cond (nat_lt (ones gap) 5) (b ∷ []) []
unfolding unstuffed
unstuffed-more gap b =
    ap (λ n. map read (filter test (range_with_len 0 n))) (length-more gap b) ∙
    (ap (map read) (filter_range_more test (length gap)) ∙
    (ap (λ ks. map read (ks ++ cond (test (length gap)) (length gap ∷ []) [])) (filter_range_agree test old_test (length gap) same) ∙
    (map-append read (filter old_test (range_with_len 0 (length gap))) (cond (test (length gap)) (length gap ∷ []) []) ∙
    (ap (λ xs. xs ++ map read (cond (test (length gap)) (length gap ∷ []) []))
    (map_below read old_read (length gap) (filter old_test (range_with_len 0 (length gap))) (Below-filter old_test (length gap))
    (λ k h. get_or_append_left gap (b ∷ []) false k h)) ∙
    (ap (λ t. unstuffed_old ++ map read (cond t (length gap ∷ []) [])) last ∙
    ap (λ xs. unstuffed_old ++ xs) (one (nat_lt (ones gap) 5)))))))
  where
    read : ℕ → Bool
    read place = get_or (gap ++ b ∷ []) place false

    old_read : ℕ → Bool
    old_read place = get_or gap place false

    test : ℕ → Bool
    test place = nat_lt (ones_before (gap ++ b ∷ []) place) 5

    old_test : ℕ → Bool
    old_test place = nat_lt (ones_before gap place) 5

    unstuffed_old : List Bool
    unstuffed_old = map old_read (filter old_test (range_with_len 0 (length gap)))

    same : (k : ℕ) → k < length gap → test k ≡ old_test k
    same k h = ap (λ xs. nat_lt (ones xs) 5) (take-append-le k gap (b ∷ []) (omega arith))

    last : test (length gap) ≡ nat_lt (ones gap) 5
    last = ap (λ xs. nat_lt (ones xs) 5) (take-append-le (length gap) gap (b ∷ []) (omega arith) ∙ take_all (length gap) gap (omega arith))

    one : (t : Bool) → map read (cond t (length gap ∷ []) []) ≡ cond t (b ∷ []) []
    one true = ap (λ x. x ∷ []) (get_or_push gap b false (length gap) refl)
    one false = refl

pub any_range_more : (p : ℕ → Bool) (n : ℕ) → list_any p (range_with_len 0 (suc n)) ≡ (list_any p (range_with_len 0 n) || p n)
any_range_more p n =
    let next : 0 + n ≡ n = omega arith in
    ap (list_any p) (range_more 0 n ∙ ap (λ j. range_with_len 0 n ++ j ∷ []) next) ∙
    (list_any-append p (range_with_len 0 n) (n ∷ []) ∙ ap (λ x. list_any p (range_with_len 0 n) || x) (or_false (p n)))
  where
    or_false : (x : Bool) → (x || false) ≡ x
    or_false true = refl
    or_false false = refl

any_range_agree : (p q : ℕ → Bool) (n : ℕ) → ((k : ℕ) → k < n → p k ≡ q k)
    → list_any p (range_with_len 0 n) ≡ list_any q (range_with_len 0 n)
any_range_agree p q zero same = refl
any_range_agree p q (suc n) same =
    any_range_more p n ∙
    (ap (λ front. front || p n) (any_range_agree p q n (λ k h. same k (omega arith))) ∙
    (ap (λ x. list_any q (range_with_len 0 n) || x) (same n (omega arith)) ∙ sym (any_range_more q n)))

-- one bit more: six 1 bits in a row stand before it, or end with it
pub has_six-more : (gap : List Bool) (b : Bool) → has_six (gap ++ b ∷ []) ≡ (has_six gap || nat_lt 5 (ones (gap ++ b ∷ [])))
unfolding has_six
has_six-more gap b =
    ap (λ n. list_any test (range_with_len 0 n)) size ∙
    (any_range_more test (suc (length gap)) ∙
    (ap (λ x. x || test (suc (length gap))) (any_range_agree test old_test (suc (length gap)) same) ∙
    (ap (λ n. list_any old_test (range_with_len 0 n) || test (suc (length gap))) plus ∙
    ap (λ x. list_any old_test (range_with_len 0 (length gap + 1)) || x) last)))
  where
    test : ℕ → Bool
    test place = nat_lt 5 (ones_before (gap ++ b ∷ []) place)

    old_test : ℕ → Bool
    old_test place = nat_lt 5 (ones_before gap place)

    plus : suc (length gap) ≡ length gap + 1
    plus = omega arith

    size : length (gap ++ b ∷ []) + 1 ≡ suc (suc (length gap))
    size = let e : length (gap ++ b ∷ []) ≡ suc (length gap) = length-more gap b in omega arith

    same : (k : ℕ) → k < suc (length gap) → test k ≡ old_test k
    same k h = ap (λ xs. nat_lt 5 (ones xs)) (take-append-le k gap (b ∷ []) (omega arith))

    last : test (suc (length gap)) ≡ nat_lt 5 (ones (gap ++ b ∷ []))
    last = ap (λ xs. nat_lt 5 (ones xs)) (take_all (suc (length gap)) (gap ++ b ∷ []) (let e : length (gap ++ b ∷ []) ≡ suc (length gap) =
        length-more gap b in omega arith))

pub map_range_agree : {X : Type 0} (f g : ℕ → X) (n : ℕ) → ((k : ℕ) → k < n → f k ≡ g k)
    → map f (range_with_len 0 n) ≡ map g (range_with_len 0 n)
map_range_agree f g zero same = refl
map_range_agree f g (suc n) same =
    ap (map f) (rest n) ∙ (map-append f (range_with_len 0 n) (n ∷ []) ∙
    (ap (λ xs. xs ++ f n ∷ []) (map_range_agree f g n (λ k h. same k (omega arith))) ∙
    (ap (λ x. map g (range_with_len 0 n) ++ x ∷ []) (same n (omega arith)) ∙
    (sym (map-append g (range_with_len 0 n) (n ∷ [])) ∙ ap (map g) (sym (rest n))))))
  where
    rest : (n : ℕ) → range_with_len 0 (suc n) ≡ range_with_len 0 n ++ n ∷ []
    rest n = let next : 0 + n ≡ n = omega arith in range_more 0 n ∙ ap (λ j. range_with_len 0 n ++ j ∷ []) next

pub octet_at-append : (bits ys : List Bool) (i : ℕ) → 8 * i + 8 ≤ length bits → octet_at (bits ++ ys) i ≡ octet_at bits i
octet_at-append bits ys i h =
    let within : 8 * i ≤ length bits = omega arith in
    let room : 8 ≤ length (drop (8 * i) bits) = rw length-drop (omega arith) in
    ap (λ xs. number (take 8 xs)) (drop-append-le (8 * i) bits ys within) ∙ ap number (take-append-le 8 (drop (8 * i) bits) ys room)

-- one bit more: an octet more where it is the eighth, and that is the number of the last eight
pub octets_of-more : (bits : List Bool) (b : Bool) → octets_of (bits ++ b ∷ []) ≡ octets_of bits ++ cond (nat_eq (length bits % 8) 7)
    (number (recent false (bits ++ b ∷ [])) ∷ []) []
unfolding octets_of
octets_of-more bits b = elim (cases_eq (length bits % 8) 7) [
  | inl whole ↦
      let size : length (bits ++ b ∷ []) ≡ suc (length bits) = length-more bits b in
      let count : length (bits ++ b ∷ []) / 8 ≡ suc (length bits / 8) = omega arith in
      let next : 0 + length bits / 8 ≡ length bits / 8 = omega arith in
      let long : 8 ≤ length (bits ++ b ∷ []) = omega arith in
      let at : length (bits ++ b ∷ []) - 8 ≡ 8 * (length bits / 8) = omega arith in
      let all : length (drop (8 * (length bits / 8)) (bits ++ b ∷ [])) ≤ 8 = rw length-drop (omega arith) in
      let is : octet_at (bits ++ b ∷ []) (length bits / 8) ≡ number (recent false (bits ++ b ∷ [])) =
      ap number (take_all 8 (drop (8 * (length bits / 8)) (bits ++ b ∷ [])) all ∙
      (ap (λ n. drop n (bits ++ b ∷ [])) (sym at) ∙ sym (recent_long false (bits ++ b ∷ []) long))) in
      rw (eq-eqb (length bits % 8) 7 whole)
      (ap (λ n. map (octet_at (bits ++ b ∷ [])) (range_with_len 0 n)) count ∙
      (ap (map (octet_at (bits ++ b ∷ []))) (range_more 0 (length bits / 8) ∙ ap (λ j. range_with_len 0 (length bits / 8) ++ j ∷ []) next) ∙
      (map-append (octet_at (bits ++ b ∷ [])) (range_with_len 0 (length bits / 8)) (length bits / 8 ∷ []) ∙
      (ap (λ xs. xs ++ octet_at (bits ++ b ∷ []) (length bits / 8) ∷ []) same ∙
      ap (λ x. map (octet_at bits) (range_with_len 0 (length bits / 8)) ++ x ∷ []) is))))
  | inr part ↦
      let size : length (bits ++ b ∷ []) ≡ suc (length bits) = length-more bits b in
      let count : length (bits ++ b ∷ []) / 8 ≡ length bits / 8 = omega arith in
      rw (ne_eqb (length bits % 8) 7 part)
      (ap (λ n. map (octet_at (bits ++ b ∷ [])) (range_with_len 0 n)) count
      ∙ (same ∙ sym (append-nil (map (octet_at bits) (range_with_len 0 (length bits / 8))))))
]
  where
    same : map (octet_at (bits ++ b ∷ [])) (range_with_len 0 (length bits / 8)) ≡ map (octet_at bits) (range_with_len 0 (length bits / 8))
    same = map_range_agree (octet_at (bits ++ b ∷ [])) (octet_at bits) (length bits / 8)
        (λ i h. octet_at-append bits (b ∷ []) i (omega arith))

pub length-octets_of : (bits : List Bool) → length (octets_of bits) ≡ length bits / 8
unfolding octets_of
length-octets_of bits = length-map-range_with_len (octet_at bits) 0 (length bits / 8)

number-shift : (w : List Bool) (n : ℕ) (b : Bool) → length w ≡ n → number (w ++ b ∷ []) ≡ number w + cond b 1 0 * 2 ^ n
number-shift [] n true h = rw (sym h) refl
number-shift [] n false h = rw (sym h) refl
number-shift (x ∷ w) zero b h = absurd (omega arith)
number-shift (x ∷ w) (suc n) b h =
    let rest : number (w ++ b ∷ []) ≡ number w + cond b 1 0 * 2 ^ n = number-shift w n b (omega arith) in
    rw (rest, pow-suc) (omega arith)

seven : (w : List Bool) (b : Bool) → length w ≡ 7 → number (w ++ b ∷ []) ≡ number w + cond b 128 0
seven w true h = number-shift w 7 true h
seven w false h = number-shift w 7 false h

-- a register of eight bits with one more
pub number-more : (w : List Bool) (b : Bool) → length w ≡ 8 → number (drop 1 w ++ b ∷ []) ≡ number w / 2 + cond b 128 0
number-more [] b h = absurd (omega arith)
number-more (true ∷ w) b h = seven w b (omega arith) ∙ ap (λ n. n + cond b 128 0) (omega arith)
number-more (false ∷ w) b h = seven w b (omega arith) ∙ ap (λ n. n + cond b 128 0) (omega arith)

pub number-recent : (fill : Bool) (bits : List Bool) (b : Bool)
    → number (recent fill (bits ++ b ∷ [])) ≡ number (recent fill bits) / 2 + cond b 128 0
number-recent fill bits b = ap number (recent-more fill bits b) ∙ number-more (recent fill bits) b (length-recent fill bits)

same_from_number : (xs ys : List Bool) → length xs ≡ length ys → number xs ≡ number ys → xs ≡ ys
same_from_number [] [] h e = refl
same_from_number [] (y ∷ ys) h e = absurd (omega arith)
same_from_number (x ∷ xs) [] h e = absurd (omega arith)
same_from_number (true ∷ xs) (true ∷ ys) h e = ap (λ zs. true ∷ zs) (same_from_number xs ys (omega arith) (omega arith))
same_from_number (false ∷ xs) (false ∷ ys) h e = ap (λ zs. false ∷ zs) (same_from_number xs ys (omega arith) (omega arith))
same_from_number (true ∷ xs) (false ∷ ys) h e = absurd (omega arith)
same_from_number (false ∷ xs) (true ∷ ys) h e = absurd (omega arith)

beq_is : (x y : Bool) → beq x y ≡ true → x ≡ y
beq_is true true e = refl
beq_is false false e = refl
beq_is true false e = absurd (false≢true e)
beq_is false true e = absurd (false≢true e)

pub begins_whole : (t w : List Bool) → length t ≡ length w → begins t w ≡ true → t ≡ w
begins_whole [] [] h e = refl
begins_whole [] (y ∷ w) h e = absurd (omega arith)
begins_whole (x ∷ t) [] h e = absurd (omega arith)
begins_whole (x ∷ t) (y ∷ w) h e =
    let parts : (beq y x ≡ true) × (begins t w ≡ true) = and_parts (beq y x) (begins t w) e in
    ap (λ z. z ∷ t) (sym (beq_is y x parts.0)) ∙ ap (λ zs. y ∷ zs) (begins_whole t w (omega arith) parts.1)

-- the register tells a flag
pub at_flag_is : (bits : List Bool) → at_flag bits ≡ nat_eq (number (recent true bits)) 126
at_flag_is bits = go (recent true bits) (length-recent true bits)
  where
    go : (w : List Bool) → length w ≡ 8 → begins flag w ≡ nat_eq (number w) 126
    go w h = elim (cases_eq (number w) 126) [
      | inl e ↦ let is : w ≡ flag = same_from_number w flag h e in rw is refl
      | inr ne ↦ rw (ne_eqb (number w) 126 ne) (elim (cases_Bool (begins flag w)) [
        | inl is ↦ absurd (ne (ap number (sym (begins_whole flag w (sym h) is))))
        | inr isnt ↦ isnt
      ])
    ]

pub oldest_is : (bits : List Bool) → get_or (recent true bits) 0 true ≡ nat_eq (number (recent true bits) % 2) 1
oldest_is bits = go (recent true bits) (length-recent true bits)
  where
    go : (w : List Bool) → length w ≡ 8 → get_or w 0 true ≡ nat_eq (number w % 2) 1
    go [] h = absurd (omega arith)
    go (true ∷ w) h = sym (eq-eqb ((1 + 2 * number w) % 2) 1 (omega arith))
    go (false ∷ w) h = sym (ne_eqb ((0 + 2 * number w) % 2) 1 (λ e. omega arith))

pub number_fits : (xs : List Bool) (n : ℕ) → length xs ≤ n → number xs < 2 ^ n
number_fits [] n h = pos_pow n
  where
    pos_pow : (n : ℕ) → 0 < 2 ^ n
    pos_pow zero = omega arith
    pos_pow (suc n) = rw pow-suc (let ih : 0 < 2 ^ n = pos_pow n in omega arith)
number_fits (x ∷ xs) zero h = absurd (omega arith)
number_fits (true ∷ xs) (suc n) h = let rest : number xs < 2 ^ n = number_fits xs n (omega arith) in rw pow-suc (omega arith)
number_fits (false ∷ xs) (suc n) h = let rest : number xs < 2 ^ n = number_fits xs n (omega arith) in rw pow-suc (omega arith)

pub number-append : (xs ys : List Bool) (n : ℕ) → length xs ≡ n → number (xs ++ ys) ≡ number xs + number ys * 2 ^ n
number-append [] ys n h = rw (sym h) (omega arith)
number-append (x ∷ xs) ys zero h = absurd (omega arith)
number-append (x ∷ xs) ys (suc n) h =
    let rest : number (xs ++ ys) ≡ number xs + number ys * 2 ^ n = number-append xs ys n (omega arith) in
    rw (rest, pow-suc) (omega arith)

-- sixteen bits are two octets, the low one first
pub sixteen_bits : (bits : List Bool) → length bits ≡ 16 → octets_of bits ≡ number bits % 256 ∷ number bits / 256 ∷ []
unfolding octets_of
sixteen_bits bits h =
    let le : 8 ≤ length bits = omega arith in
    let size : length (take 8 bits) ≡ 8 = length-take-le 8 bits le in
    let low : number (take 8 bits) < 256 = number_fits (take 8 bits) 8 (omega arith) in
    let whole : number (take 8 bits ++ drop 8 bits) ≡ number (take 8 bits) + number (drop 8 bits) * 256 =
    number-append (take 8 bits) (drop 8 bits) 8 size in
    let is : number bits ≡ number (take 8 bits) + number (drop 8 bits) * 256 = ap number (sym (take-append-drop 8 bits)) ∙ whole in
    let rest : length (drop 8 bits) ≤ 8 = rw length-drop (omega arith) in
    let first : number (take 8 bits) ≡ number bits % 256 = omega arith in
    let second : number (take 8 (drop 8 bits)) ≡ number bits / 256 = ap number (take_all 8 (drop 8 bits) rest) ∙ omega arith in
    ap (λ n. map (octet_at bits) (range_with_len 0 (n / 8))) h
    ∙ (ap (λ x. x ∷ number (take 8 (drop 8 bits)) ∷ []) first ∙ ap (λ x. number bits % 256 ∷ x ∷ []) second)
