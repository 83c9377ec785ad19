-- The flags, one bit more.
use Rattle.std.proofs.Common.{◌≡◌, ℕ, zero, suc, ◌+◌, ◌-◌, ◌<◌, ◌≤◌, Bool, true, false, ◌&&◌, List, [], ◌∷◌, ◌++◌, length, drop, map, cond}
use Rattle.std.proofs.Common.{refl, ap, sym, ◌∙◌, arith, inl, inr, Option, Some, None}
use Rattle.std.specs.Bool.{beq}
use Rattle.std.specs.List.{range_with_len, filter}
use Rattle.std.proofs.lemmas.List.{drop-append-le, take-append-le, length-drop, length-append, drop-drop}
use Rattle.std.proofs.lemmas.List.Elements.{filter-append}
use Rattle.std.proofs.lemmas.Bool.{cases_lt}
use Rattle.run_tables.specs.Texts.{begins}
use Rattle.hdlc.specs.Flags.{flag, flag_at, flags, neighbours, pairs_from, between}
use Rattle.hdlc.specs.OpenGap.{recent, last_of, last_from, last_flag}

pub begins-append : (t xs ys : List Bool) → length t ≤ length xs → begins t (xs ++ ys) ≡ begins t xs
begins-append [] xs ys h = refl
begins-append (x ∷ t) [] ys h = absurd (omega arith)
begins-append (x ∷ t) (y ∷ xs) ys h = ap (λ r. beq y x && r) (begins-append t xs ys (omega arith))

pub flag_at-append : (bits ys : List Bool) (k : ℕ) → k + 8 ≤ length bits → flag_at (bits ++ ys) k ≡ flag_at bits k
flag_at-append bits ys k h =
    let within : k ≤ length bits = omega arith in
    let room : 8 ≤ length (drop k bits) = rw length-drop (omega arith) in
    ap (begins flag) (drop-append-le k bits ys within) ∙ begins-append flag (drop k bits) ys room

pub range_more : (a n : ℕ) → range_with_len a (suc n) ≡ range_with_len a n ++ (a + n) ∷ []
range_more a zero = ap (λ x. x ∷ []) (omega arith)
range_more a (suc n) =
    let next : a + 1 + n ≡ a + suc n = omega arith in
    ap (λ xs. a ∷ xs) (range_more (a + 1) n ∙ ap (λ j. range_with_len (a + 1) n ++ j ∷ []) next)

pub filter_range_more : (p : ℕ → Bool) (n : ℕ) → filter p (range_with_len 0 (suc n)) ≡ filter p (range_with_len 0 n) ++ cond (p n)
    (n ∷ []) []
filter_range_more p n =
    let next : 0 + n ≡ n = omega arith in
    ap (filter p) (range_more 0 n ∙ ap (λ j. range_with_len 0 n ++ j ∷ []) next) ∙ filter-append p (range_with_len 0 n) (n ∷ [])

pub filter_range_agree : (p q : ℕ → Bool) (n : ℕ) → ((k : ℕ) → k < n → p k ≡ q k)
    → filter p (range_with_len 0 n) ≡ filter q (range_with_len 0 n)
filter_range_agree p q zero same = refl
filter_range_agree p q (suc n) same =
    filter_range_more p n ∙
    (ap (λ front. front ++ cond (p n) (n ∷ []) []) (filter_range_agree p q n (λ k h. same k (omega arith))) ∙
    (ap (λ b. filter q (range_with_len 0 n) ++ cond b (n ∷ []) []) (same n (omega arith)) ∙ sym (filter_range_more q n)))

-- the last eight bits, as a register holds them
pub recent-more : (fill : Bool) (bits : List Bool) (b : Bool) → recent fill (bits ++ b ∷ []) ≡ drop 1 (recent fill bits) ++ b ∷ []
unfolding recent
recent-more fill bits b =
    let long : List Bool = fill ∷ fill ∷ fill ∷ fill ∷ fill ∷ fill ∷ fill ∷ fill ∷ bits in
    let size : length (bits ++ b ∷ []) ≡ length bits + 1 = length-append bits (b ∷ []) in
    let within : length bits + 1 ≤ length long = omega arith in
    ap (λ n. drop n (long ++ b ∷ [])) size
    ∙ (drop-append-le (length bits + 1) long (b ∷ []) within ∙ ap (λ xs. xs ++ b ∷ []) (sym (drop-drop 1 (length bits) long)))

pub length-recent : (fill : Bool) (bits : List Bool) → length (recent fill bits) ≡ 8
unfolding recent
length-recent fill bits = length-drop (length bits) (fill ∷ fill ∷ fill ∷ fill ∷ fill ∷ fill ∷ fill ∷ fill ∷ bits) ∙ omega arith

pub recent_long : (fill : Bool) (bits : List Bool) → 8 ≤ length bits → recent fill bits ≡ drop (length bits - 8) bits
unfolding recent
recent_long fill bits h =
    let long : List Bool = fill ∷ fill ∷ fill ∷ fill ∷ fill ∷ fill ∷ fill ∷ fill ∷ bits in
    let split : length bits ≡ 8 + (length bits - 8) = omega arith in
    ap (λ n. drop n long) split ∙ sym (drop-drop (length bits - 8) 8 long)

no_flag_in_fill : (n : ℕ) (bits : List Bool) → n < 8 → begins flag (drop n (true ∷ true ∷ true ∷ true ∷ true ∷ true ∷ true ∷ true ∷ bits))
    ≡ false
no_flag_in_fill zero bits h = refl
no_flag_in_fill (suc zero) bits h = refl
no_flag_in_fill (suc (suc zero)) bits h = refl
no_flag_in_fill (suc (suc (suc zero))) bits h = refl
no_flag_in_fill (suc (suc (suc (suc zero)))) bits h = refl
no_flag_in_fill (suc (suc (suc (suc (suc zero))))) bits h = refl
no_flag_in_fill (suc (suc (suc (suc (suc (suc zero)))))) bits h = refl
no_flag_in_fill (suc (suc (suc (suc (suc (suc (suc zero))))))) bits h = refl
no_flag_in_fill (suc (suc (suc (suc (suc (suc (suc (suc n)))))))) bits h = absurd (omega arith)

pub recent_short : (bits : List Bool) → length bits < 8 → begins flag (recent true bits) ≡ false
unfolding recent
recent_short bits h = no_flag_in_fill (length bits) bits h

pub flags_none : (bits : List Bool) → length bits ≤ 7 → flags bits ≡ []
unfolding flags
flags_none bits h =
    let none : length bits - 7 ≡ 0 = omega arith in ap (λ n. filter (flag_at bits) (range_with_len 0 n)) none

flags-more_long : (bits : List Bool) (b : Bool) → 7 ≤ length bits
    → flags (bits ++ b ∷ []) ≡ flags bits ++ cond (begins flag (recent true (bits ++ b ∷ []))) ((length bits - 7) ∷ []) []
unfolding flags
flags-more_long bits b many =
    let size : length (bits ++ b ∷ []) ≡ length bits + 1 = length-append bits (b ∷ []) in
    let long : 8 ≤ length (bits ++ b ∷ []) = omega arith in
    let at : length (bits ++ b ∷ []) - 8 ≡ length bits - 7 = omega arith in
    let room : length (bits ++ b ∷ []) - 7 ≡ suc (length bits - 7) = omega arith in
    let last : recent true (bits ++ b ∷ []) ≡ drop (length bits - 7) (bits ++ b ∷ []) = recent_long true (bits ++ b ∷ []) long
    ∙ ap (λ n. drop n (bits ++ b ∷ [])) at in
    ap (λ n. filter (flag_at (bits ++ b ∷ [])) (range_with_len 0 n)) room ∙
    (filter_range_more (flag_at (bits ++ b ∷ [])) (length bits - 7) ∙
    (ap (λ front. front ++ cond (flag_at (bits ++ b ∷ []) (length bits - 7)) ((length bits - 7) ∷ []) [])
    (filter_range_agree (flag_at (bits ++ b ∷ [])) (flag_at bits) (length bits - 7) (λ k h. flag_at-append bits (b ∷ []) k (omega arith))) ∙
    ap (λ r. filter (flag_at bits) (range_with_len 0 (length bits - 7)) ++ cond (begins flag r) ((length bits - 7) ∷ []) []) (sym last)))

-- one bit more: a flag more exactly where the last eight bits are one
pub flags-more : (bits : List Bool) (b : Bool) → flags (bits ++ b ∷ []) ≡ flags bits ++ cond (begins flag (recent true (bits ++ b ∷ [])))
    ((length bits - 7) ∷ []) []
flags-more bits b = elim (cases_lt (length bits) 7) [
  | inl few ↦
      let size : length (bits ++ b ∷ []) ≡ length bits + 1 = length-append bits (b ∷ []) in
      let short : length (bits ++ b ∷ []) < 8 = omega arith in
      let shorter : length bits ≤ 7 = omega arith in
      rw (flags_none bits shorter, recent_short (bits ++ b ∷ []) short) (flags_none (bits ++ b ∷ []) (omega arith))
  | inr many ↦ flags-more_long bits b many
]

-- places below a bound
abbrev pub Below : ℕ → List ℕ → Type 0
Below n [] = Unit {0}
Below n (x ∷ xs) = (x < n) × Below n xs

Below-weaken : (m n : ℕ) (xs : List ℕ) → m ≤ n → Below m xs → Below n xs
Below-weaken m n [] h all = tt
Below-weaken m n (x ∷ xs) h all = (let first : x < m = all.0 in omega arith, Below-weaken m n xs h all.1)

Below-push : (n : ℕ) (xs : List ℕ) (b : Bool) (x : ℕ) → x < n → Below n xs → Below n (xs ++ cond b (x ∷ []) [])
Below-push n [] true x h all = (h, tt)
Below-push n [] false x h all = tt
Below-push n (y ∷ xs) b x h all = (all.0, Below-push n xs b x h all.1)

pub Below-filter : (p : ℕ → Bool) (n : ℕ) → Below n (filter p (range_with_len 0 n))
Below-filter p zero = tt
Below-filter p (suc n) =
    rw (filter_range_more p n) (Below-push (suc n) (filter p (range_with_len 0 n)) (p n) n (omega arith)
    (Below-weaken n (suc n) (filter p (range_with_len 0 n)) (omega arith) (Below-filter p n)))

pub flags_below : (bits : List Bool) → Below (length bits - 7) (flags bits)
unfolding flags
flags_below bits = Below-filter (flag_at bits) (length bits - 7)

last_below : (n p : ℕ) (ps : List ℕ) → p < n → Below n ps → last_from p ps < n
last_below n p [] h all = h
last_below n p (q ∷ qs) h all = last_below n q qs all.0 all.1

-- the last flag ends within the bits
pub last_flag_within : (bits : List Bool) (p : ℕ) → last_flag bits ≡ Some p → p + 8 ≤ length bits
last_flag_within bits p e = go (flags bits) (flags_below bits) e
  where
    go : (ps : List ℕ) → Below (length bits - 7) ps → last_of ps ≡ Some p → p + 8 ≤ length bits
    go [] all e = cc
    go (q ∷ qs) all e =
        let is : last_from q qs ≡ p = cc in
        let within : last_from q qs < length bits - 7 = last_below (length bits - 7) q qs all.0 all.1 in omega arith

abbrev pub closing : Option ℕ → ℕ → List (ℕ × ℕ)
closing None q = []
closing (Some p) q = (p, q) ∷ []

pairs_from-push : (p : ℕ) (ps : List ℕ) (q : ℕ) → pairs_from p (ps ++ q ∷ []) ≡ pairs_from p ps ++ (last_from p ps, q) ∷ []
pairs_from-push p [] q = refl
pairs_from-push p (x ∷ xs) q = ap (λ rest. (p, x) ∷ rest) (pairs_from-push x xs q)

pub neighbours-push : (ps : List ℕ) (q : ℕ) → neighbours (ps ++ q ∷ []) ≡ neighbours ps ++ closing (last_of ps) q
neighbours-push [] q = refl
neighbours-push (p ∷ ps) q = pairs_from-push p ps q

last_from-push : (p : ℕ) (ps : List ℕ) (q : ℕ) → last_from p (ps ++ q ∷ []) ≡ q
last_from-push p [] q = refl
last_from-push p (x ∷ xs) q = last_from-push x xs q

pub last_of-push : (ps : List ℕ) (q : ℕ) → last_of (ps ++ q ∷ []) ≡ Some q
last_of-push [] q = refl
last_of-push (p ∷ ps) q = ap Some (last_from-push p ps q)

between-append : (bits ys : List Bool) (p q : ℕ) → q ≤ length bits → between (bits ++ ys) (p, q) ≡ between bits (p, q)
between-append bits ys p q h = ap (drop (p + 8)) (take-append-le q bits ys h)

pairs-append : (bits ys : List Bool) (p : ℕ) (ps : List ℕ) → Below (length bits) ps → map (between (bits ++ ys)) (pairs_from p ps)
    ≡ map (between bits) (pairs_from p ps)
pairs-append bits ys p [] all = refl
pairs-append bits ys p (q ∷ qs) all =
    let first : q < length bits = all.0 in
    ap (λ g. g ∷ map (between (bits ++ ys)) (pairs_from q qs)) (between-append bits ys p q (omega arith)) ∙
    ap (λ gs. between bits (p, q) ∷ gs) (pairs-append bits ys q qs all.1)

pub between-same : (bits ys : List Bool) → map (between (bits ++ ys)) (neighbours (flags bits)) ≡ map (between bits)
    (neighbours (flags bits))
between-same bits ys = go (flags bits) (flags_below bits)
  where
    go : (ps : List ℕ) → Below (length bits - 7) ps → map (between (bits ++ ys)) (neighbours ps) ≡ map (between bits) (neighbours ps)
    go [] all = refl
    go (p ∷ ps) all = pairs-append bits ys p ps (Below-weaken (length bits - 7) (length bits) ps (omega arith) all.1)
