-- Octets none of whose bits ends a flag, many at once.
use Rattle.std.proofs.Common.{◌≡◌, ℕ, zero, suc, ◌+◌, ◌-◌, ◌*◌, ◌/◌, ◌%◌, ◌^◌, ◌<◌, ◌≤◌, Bool, true, false, not, ◌&&◌, List, [], ◌∷◌, ◌++◌}
use Rattle.std.proofs.Common.{length, take, drop, cond, refl, ap, sym, ◌∙◌, arith, nat_eq}
use Rattle.std.proofs.Common.{bit_and, append_assoc, Option, Some, None, get_or}
use Rattle.std.proofs.Common.{subst}
use Rattle.std.proofs.Math.Seq.{drop-cons, take-add}
use Rattle.std.specs.Prelude.{is_some}
use Rattle.std.proofs.lemmas.List.{length-take, take_more, take_all, take-append-drop}
use Rattle.std.specs.Int.{bit_at}
use Rattle.std.proofs.lemmas.Nat.{and_shr, shr-shr}
use Rattle.std.proofs.lemmas.Nat.Bits.{bit_at-suc}
use Rattle.std.proofs.lemmas.Bool.{and_parts}
use Rattle.hdlc.specs.declared.flag_finder.FlagFinder.{FlagFinder}
use Rattle.raster.specs.Octets.{number, AreOctets}
use Rattle.raster.specs.Packed.{bits_of}
use Rattle.raster.specs.declared.packed.Order.TheVariants.{LsbFirst}
use Rattle.raster.proofs.OctetBits.{octet_bits, bits_of-cons}
use Rattle.raster.proofs.OctetLemmas.{bits_of-append, octet_bits-number, number-octet_bits}
use Rattle.raster.proofs.PackedLemmas.{bits_in-none, length-bits_in}
use Rattle.hdlc.specs.OpenGap.{begun, held, recent, unclosed, unclosed_after, last_flag, held_after}
use Rattle.hdlc.specs.Collects.{Collects}
use Rattle.hdlc.specs.DeframerParts.{Cuts}
use Rattle.hdlc.specs.EightBits.{ends_no_flag, end_no_flag}
use Rattle.hdlc.proofs.BitPlaces.{bits_of-one, octets-none}
use Rattle.hdlc.proofs.Flags.{length-recent}
use Rattle.hdlc.proofs.UnstuffedLemmas.{number-append, number_fits}
use Rattle.hdlc.proofs.AssemblingOctets.{recent_after}
use Rattle.hdlc.proofs.QuietOctets.{sixes, none_1, no_flag_below, shifted_front, and_assoc, Unflagged, unflagged, next_held, next_full}
use Rattle.hdlc.proofs.QuietOctets.{next_empty, begun_if_full}

-- ---- no six 1 bits in a row in a number of any size

sixes_half : (x : ℕ) → sixes (x / 2) ≡ sixes x / 2
sixes_half x =
    let pairs : ℕ = bit_and x (x / 2) in
    let half : bit_and (x / 2) (x / 2 / 2) ≡ pairs / 2 = sym (and_shr x (x / 2) 1) in
    let four : pairs / 2 / 4 ≡ pairs / 4 / 2 = omega arith in
    let sixteen : pairs / 2 / 16 ≡ pairs / 16 / 2 = omega arith in
    rw (half, four, sixteen) (ap (λ n. bit_and n (pairs / 16 / 2)) (sym (and_shr pairs (pairs / 4) 1))
    ∙ sym (and_shr (bit_and pairs (pairs / 4)) (pairs / 16) 1))

calm : (n x : ℕ) → ((i : ℕ) → i < n → bit_at (sixes x) (i + 2) ≡ 0) → no_flag_below n x ≡ true
calm zero x none = refl
calm (suc n) x none =
    let one : not (nat_eq (x / 2 % 256) 126) ≡ true = none_1 x (none 0 (omega arith)) in
    ap (λ t. t && no_flag_below n (x / 2)) one ∙ calm n (x / 2) (λ i less.
    let next : suc (i + 2) ≡ i + 1 + 2 = omega arith in
    ap (λ s. bit_at s (i + 2)) (sixes_half x) ∙ (sym (bit_at-suc (sixes x) (i + 2)) ∙ (ap (bit_at (sixes x)) next ∙ none (i + 1) (omega arith))))

-- ---- octets one after the other

-- the register after bits
abbrev after_bits : ℕ → List Bool → ℕ
after_bits w [] = w
after_bits w (b ∷ bits) = after_bits (w / 2 + cond b 128 0) bits

no_flag-append : (xs ys : List Bool) (w : ℕ) → ends_no_flag w (xs ++ ys) ≡ (ends_no_flag w xs && ends_no_flag (after_bits w xs) ys)
no_flag-append [] ys w = refl
no_flag-append (x ∷ xs) ys w =
    let next : ℕ = w / 2 + cond x 128 0 in
    ap (λ t. not (nat_eq next 126) && t) (no_flag-append xs ys next)
    ∙ sym (and_assoc (not (nat_eq next 126)) (ends_no_flag next xs) (ends_no_flag (after_bits next xs) ys))

after_is : (bits : List Bool) (w : ℕ) → after_bits w bits ≡ (w + 256 * number bits) / 2 ^ length bits
after_is [] w = omega arith
after_is (b ∷ bits) w = go b (after_is bits)
  where
    power : 1 + length bits ≡ suc (length bits)
    power = omega arith

    go : (b : Bool) → ((w : ℕ) → after_bits w bits ≡ (w + 256 * number bits) / 2 ^ length bits)
        → after_bits (w / 2 + cond b 128 0) bits ≡ (w + 256 * (cond b 1 0 + 2 * number bits)) / 2 ^ suc (length bits)
    go true rest =
        let next : (w / 2 + 128) + 256 * number bits ≡ (w + 256 * (1 + 2 * number bits)) / 2 = omega arith in
        rest (w / 2 + 128) ∙ (ap (λ n. n / 2 ^ length bits) next
        ∙ (shr-shr (w + 256 * (1 + 2 * number bits)) 1 (length bits) ∙ ap (λ k. (w + 256 * (1 + 2 * number bits)) / 2 ^ k) power))
    go false rest =
        let next : (w / 2 + 0) + 256 * number bits ≡ (w + 256 * (0 + 2 * number bits)) / 2 = omega arith in
        rest (w / 2 + 0) ∙ (ap (λ n. n / 2 ^ length bits) next
        ∙ (shr-shr (w + 256 * (0 + 2 * number bits)) 1 (length bits) ∙ ap (λ k. (w + 256 * (0 + 2 * number bits)) / 2 ^ k) power))

after_eight : (w o : ℕ) → w < 256 → o < 256 → after_bits w (octet_bits o) ≡ o
after_eight w o small fits =
    let same : number (octet_bits o) ≡ o = number-octet_bits o fits in
    let all : (w + 256 * o) / 256 ≡ o = omega arith in
    after_is (octet_bits o) w ∙ (ap (λ n. (w + 256 * n) / 256) same ∙ all)

pub end_split : (octets : List ℕ) (w : ℕ) → w < 256 → AreOctets octets → ends_no_flag w (bits_of LsbFirst octets) ≡ end_no_flag w octets
end_split [] w small fit = ap (ends_no_flag w) (bits_in-none LsbFirst [])
end_split (o ∷ os) w small fit =
    ap (ends_no_flag w) (bits_of-cons o os) ∙ (no_flag-append (octet_bits o) (bits_of LsbFirst os) w ∙
    (ap (λ n. ends_no_flag w (octet_bits o) && ends_no_flag n (bits_of LsbFirst os)) (after_eight w o small fit.0) ∙
    (ap (λ t. ends_no_flag w (octet_bits o) && t) (end_split os o fit.0 fit.1) ∙
    ap (λ bs. ends_no_flag w bs && end_no_flag o os) (sym (bits_of-one o)))))

-- ---- seven octets as one number

pub number_octets : (o : ℕ) (os : List ℕ) → o < 256 → number (bits_of LsbFirst (o ∷ os)) ≡ o + 256 * number (bits_of LsbFirst os)
number_octets o os fits =
    let swap : number (bits_of LsbFirst os) * 256 ≡ 256 * number (bits_of LsbFirst os) = omega arith in
    ap number (bits_of-cons o os) ∙ (number-append (octet_bits o) (bits_of LsbFirst os) 8 refl
    ∙ (ap (λ n. n + number (bits_of LsbFirst os) * 256) (number-octet_bits o fits) ∙ ap (λ n. o + n) swap))

pub number_seven : (a b c d e f g : ℕ) → a < 256 → b < 256 → c < 256 → d < 256 → e < 256 → f < 256 → g < 256
    → number (bits_of LsbFirst (a ∷ b ∷ c ∷ d ∷ e ∷ f ∷ g ∷ [])) ≡ a + 256 * (b + 256 * (c + 256 * (d + 256 * (e + 256 * (f + 256 * g)))))
number_seven a b c d e f g la lb lc ld le lf lg =
    let n1 : number (bits_of LsbFirst (g ∷ [])) ≡ g = number_octets g [] lg ∙ (ap (λ bs. g + 256 * number bs) (bits_in-none LsbFirst []) ∙ omega arith) in
    let n2 = number_octets f (g ∷ []) lf ∙ ap (λ m. f + 256 * m) n1 in
    let n3 = number_octets e (f ∷ g ∷ []) le ∙ ap (λ m. e + 256 * m) n2 in
    let n4 = number_octets d (e ∷ f ∷ g ∷ []) ld ∙ ap (λ m. d + 256 * m) n3 in
    let n5 = number_octets c (d ∷ e ∷ f ∷ g ∷ []) lc ∙ ap (λ m. c + 256 * m) n4 in
    let n6 = number_octets b (c ∷ d ∷ e ∷ f ∷ g ∷ []) lb ∙ ap (λ m. b + 256 * m) n5 in
    number_octets a (b ∷ c ∷ d ∷ e ∷ f ∷ g ∷ []) la ∙ ap (λ m. a + 256 * m) n6

fit_front : (xs ys : List ℕ) → AreOctets (xs ++ ys) → AreOctets xs
fit_front [] ys fit = tt
fit_front (x ∷ xs) ys fit = (fit.0, fit_front xs ys fit.1)

-- octets before six 1 bits in a row have ended
pub calm_front : (a n k : ℕ) (os : List ℕ) → a < 256 → AreOctets os → n ≡ a + 256 * number (bits_of LsbFirst os)
    → ((i : ℕ) → i < 8 * k → bit_at (sixes n) (i + 2) ≡ 0) → end_no_flag a (take k os) ≡ true
calm_front a n k os small fit is none =
    let xs : List ℕ = take k os in
    let bits : List Bool = bits_of LsbFirst xs in
    let more : List Bool = bits_of LsbFirst (drop k os) in
    let split : bits_of LsbFirst os ≡ bits ++ more = ap (bits_of LsbFirst) (sym (take-append-drop k os)) ∙ bits_of-append LsbFirst xs (drop k os) in
    let count : length xs ≤ k = omega (arith, length-take k os) in
    let size : length bits ≡ 8 * length xs = length-bits_in LsbFirst xs (8 * length xs) in
    let fine : AreOctets xs = fit_front xs (drop k os) (subst AreOctets (sym (take-append-drop k os)) fit) in
    let same : n ≡ a + 256 * number (bits ++ more) = is ∙ ap (λ bs. a + 256 * number bs) split in
    sym (end_split xs a small fine) ∙ (sym (shifted_front bits more a small) ∙ (ap (no_flag_below (length bits)) (sym same)
    ∙ calm (length bits) n (λ i less. none i (omega arith))))

pub take_next : (os : List ℕ) (at next n : ℕ) → at < length os → next ≡ at + 1 → take (suc n) (drop at os) ≡ get_or os at 0 ∷ take n
    (drop next os)
take_next os at next n h e =
    let same : suc at ≡ next = omega arith in
    ap (take (suc n)) (drop-cons os at 0 h ∙ ap (λ m. get_or os at 0 ∷ drop m os) same)

pub take_seven : (os : List ℕ) (at : ℕ) → at + 8 ≤ length os → take 7 (drop at os)
    ≡ get_or os at 0 ∷ get_or os (at + 1) 0 ∷ get_or os (at + 2) 0 ∷ get_or os (at + 3) 0 ∷ get_or os (at + 4) 0 ∷ get_or os (at + 5) 0
    ∷ get_or os (at + 6) 0 ∷ []
take_seven os at h =
    let g : ℕ → ℕ = λ k. get_or os k 0 in
    take_next os at (at + 1) 6 (omega arith) (omega arith) ∙ ap (λ r. g at ∷ r)
    (take_next os (at + 1) (at + 2) 5 (omega arith) (omega arith) ∙ ap (λ r. g (at + 1) ∷ r)
    (take_next os (at + 2) (at + 3) 4 (omega arith) (omega arith) ∙ ap (λ r. g (at + 2) ∷ r)
    (take_next os (at + 3) (at + 4) 3 (omega arith) (omega arith) ∙ ap (λ r. g (at + 3) ∷ r)
    (take_next os (at + 4) (at + 5) 2 (omega arith) (omega arith) ∙ ap (λ r. g (at + 4) ∷ r)
    (take_next os (at + 5) (at + 6) 1 (omega arith) (omega arith) ∙ ap (λ r. g (at + 5) ∷ r)
    (take_next os (at + 6) (at + 7) 0 (omega arith) (omega arith)))))))

pub one_quiet : (os : List ℕ) (at w : ℕ) → at < length os → ends_no_flag w (bits_of LsbFirst (get_or os at 0 ∷ [])) ≡ true
    → end_no_flag w (take 1 (drop at os)) ≡ true
one_quiet os at w h quiet = rw (take_next os at (at + 1) 0 h refl, quiet) refl

-- ---- octets in front

-- the last eight bits after octets
abbrev pub last_octet : ℕ → List ℕ → ℕ
last_octet w [] = w
last_octet w (o ∷ os) = last_octet o os

pub end-append : (xs ys : List ℕ) (w : ℕ) → end_no_flag w (xs ++ ys) ≡ (end_no_flag w xs && end_no_flag (last_octet w xs) ys)
end-append [] ys w = refl
end-append (x ∷ xs) ys w =
    let one : Bool = ends_no_flag w (bits_of LsbFirst (x ∷ [])) in
    ap (λ t. one && t) (end-append xs ys x) ∙ sym (and_assoc one (end_no_flag x xs) (end_no_flag (last_octet x xs) ys))

last-push : (xs : List ℕ) (w o : ℕ) → last_octet w (xs ++ o ∷ []) ≡ o
last-push [] w o = refl
last-push (x ∷ xs) w o = last-push xs x o

pub last_of_take : (xs : List ℕ) (n w : ℕ) → 0 < n → n ≤ length xs → get_or xs (n - 1) 0 ≡ last_octet w (take n xs)
last_of_take xs n w least most =
    let back : n - 1 + 1 ≡ n = omega arith in
    sym (ap (λ k. last_octet w (take k xs)) (sym back)
    ∙ (ap (last_octet w) (take_more xs (n - 1) 0 (omega arith)) ∙ last-push (take (n - 1) xs) w (get_or xs (n - 1) 0)))

-- octets more
pub quiet_more : (xs : List ℕ) (n k w : ℕ) → 0 < n → n ≤ length xs → end_no_flag w (take n xs) ≡ true
    → end_no_flag (get_or xs (n - 1) 0) (take k (drop (n - 1 + 1) xs)) ≡ true → end_no_flag w (take (n + k) xs) ≡ true
quiet_more xs n k w least most quiet more =
    let back : n - 1 + 1 ≡ n = omega arith in
    ap (end_no_flag w) (take-add n k xs) ∙ (end-append (take n xs) (take k (drop n xs)) w
    ∙ (ap (λ t. t && end_no_flag (last_octet w (take n xs)) (take k (drop n xs))) quiet
    ∙ (ap (λ o. end_no_flag o (take k (drop n xs))) (sym (last_of_take xs n w least most))
    ∙ (ap (λ m. end_no_flag (get_or xs (n - 1) 0) (take k (drop m xs))) (sym back) ∙ more))))

-- octets at the end, some of them a second time
pub end_overlap : (xs : List ℕ) (m k w : ℕ) → 0 < m → m + k ≤ length xs → end_no_flag w (take (m + k) xs) ≡ true
    → end_no_flag (get_or xs (m - 1) 0) (drop m xs) ≡ true → end_no_flag w xs ≡ true
end_overlap xs m k w least most front back =
    let more : List ℕ = take k (drop m xs) in
    let both : (end_no_flag w (take m xs) && end_no_flag (last_octet w (take m xs)) more) ≡ true =
    sym (ap (end_no_flag w) (take-add m k xs) ∙ end-append (take m xs) more w) ∙ front in
    let first : end_no_flag w (take m xs) ≡ true =
    (and_parts (end_no_flag w (take m xs)) (end_no_flag (last_octet w (take m xs)) more) both).0 in
    ap (end_no_flag w) (sym (take-append-drop m xs)) ∙ (end-append (take m xs) (drop m xs) w
    ∙ (ap (λ t. t && end_no_flag (last_octet w (take m xs)) (drop m xs)) first
    ∙ (ap (λ o. end_no_flag o (drop m xs)) (sym (last_of_take xs m w least (omega arith))) ∙ back)))

-- ---- the gap after them

-- after these bits eight are held, and this is the open gap
record Run (bits gap : List Bool) : Type 0 where
  held_ : held bits ≡ 8
  gap_ : unclosed bits ≡ gap

single : (bits : List Bool) (window o : ℕ) → recent true bits ≡ octet_bits window → window < 256
    → ends_no_flag window (bits_of LsbFirst (o ∷ [])) ≡ true → Unflagged bits (octet_bits o)
single bits window o last small quiet =
    let is : number (recent true bits) ≡ window = ap number last ∙ number-octet_bits window small in
    unflagged bits (octet_bits o) (rw is (ap (ends_no_flag window) (sym (bits_of-one o)) ∙ quiet))

single_full : (bits : List Bool) (window o : ℕ) → held bits ≡ 8 → recent true bits ≡ octet_bits window → window < 256
    → ends_no_flag window (bits_of LsbFirst (o ∷ [])) ≡ true
    → Run (bits ++ bits_of LsbFirst (o ∷ [])) (unclosed bits ++ bits_of LsbFirst (window ∷ []))
single_full bits window o full last small quiet =
    let u : Unflagged bits (octet_bits o) = single bits window o last small quiet in
    rw (bits_of-one o, bits_of-one window, ← last) (record {
      held_ = next_held bits (octet_bits o) refl u ∙ (rw (begun_if_full bits full) refl);
      gap_ = next_full bits (octet_bits o) refl u full;
    })

single_empty : (bits : List Bool) (window o : ℕ) → begun bits ≡ true → held bits ≡ 0 → recent true bits ≡ octet_bits window → window < 256
    → ends_no_flag window (bits_of LsbFirst (o ∷ [])) ≡ true → Run (bits ++ bits_of LsbFirst (o ∷ [])) (unclosed bits)
single_empty bits window o yes_ empty last small quiet =
    let u : Unflagged bits (octet_bits o) = single bits window o last small quiet in
    rw (bits_of-one o) (record {
      held_ = next_held bits (octet_bits o) refl u ∙ (rw yes_ refl);
      gap_ = next_empty bits (octet_bits o) refl u empty;
    })

pub joined : (bits : List Bool) (x : ℕ) (xs : List ℕ) → (bits ++ bits_of LsbFirst (x ∷ [])) ++ bits_of LsbFirst xs ≡ bits
    ++ bits_of LsbFirst (x ∷ xs)
joined bits x xs = append_assoc bits (bits_of LsbFirst (x ∷ [])) (bits_of LsbFirst xs)
    ∙ ap (λ r. bits ++ r) (sym (bits_of-append LsbFirst (x ∷ []) xs))

recent_one : (bits : List Bool) (o : ℕ) → recent true (bits ++ bits_of LsbFirst (o ∷ [])) ≡ octet_bits o
recent_one bits o = ap (λ r. recent true (bits ++ r)) (bits_of-one o) ∙ recent_after true bits (octet_bits o) refl

full_run : (octets : List ℕ) (o : ℕ) (bits : List Bool) (window : ℕ) → held bits ≡ 8 → recent true bits ≡ octet_bits window → window < 256
    → AreOctets octets → end_no_flag window (octets ++ o ∷ []) ≡ true
    → Run (bits ++ bits_of LsbFirst (octets ++ o ∷ [])) (unclosed bits ++ bits_of LsbFirst (window ∷ octets))
full_run [] o bits window full last small fit quiet =
    single_full bits window o full last small (and_parts (ends_no_flag window (bits_of LsbFirst (o ∷ []))) true quiet).0
full_run (x ∷ xs) o bits window full last small fit quiet =
    let parts = and_parts (ends_no_flag window (bits_of LsbFirst (x ∷ []))) (end_no_flag x (xs ++ o ∷ [])) quiet in
    let one = single_full bits window x full last small parts.0 in
    let rest = full_run xs o (bits ++ bits_of LsbFirst (x ∷ [])) x one.held_ (recent_one bits x) fit.0 fit.1 parts.1 in
    rw (← joined bits x (xs ++ o ∷ [])) (record {
      held_ = rest.held_;
      gap_ = rest.gap_ ∙ (ap (λ g. g ++ bits_of LsbFirst (x ∷ xs)) one.gap_ ∙ joined (unclosed bits) window (x ∷ xs));
    })

empty_run : (octets : List ℕ) (o : ℕ) (bits : List Bool) (window : ℕ) → begun bits ≡ true → held bits ≡ 0
    → recent true bits ≡ octet_bits window → window < 256 → AreOctets octets → end_no_flag window (octets ++ o ∷ []) ≡ true
    → Run (bits ++ bits_of LsbFirst (octets ++ o ∷ [])) (unclosed bits ++ bits_of LsbFirst octets)
empty_run [] o bits window yes_ empty last small fit quiet =
    let one = single_empty bits window o yes_ empty last small (and_parts (ends_no_flag window (bits_of LsbFirst (o ∷ []))) true quiet).0 in
    record { held_ = one.held_; gap_ = one.gap_ ∙ sym (octets-none (unclosed bits)) }
empty_run (x ∷ xs) o bits window yes_ empty last small fit quiet =
    let parts = and_parts (ends_no_flag window (bits_of LsbFirst (x ∷ []))) (end_no_flag x (xs ++ o ∷ [])) quiet in
    let one = single_empty bits window x yes_ empty last small parts.0 in
    let rest = full_run xs o (bits ++ bits_of LsbFirst (x ∷ [])) x one.held_ (recent_one bits x) fit.0 fit.1 parts.1 in
    rw (← joined bits x (xs ++ o ∷ [])) (record {
      held_ = rest.held_;
      gap_ = rest.gap_ ∙ ap (λ g. g ++ bits_of LsbFirst (x ∷ xs)) one.gap_;
    })

-- ---- a flag finder after them

-- octets, none of whose bits ends a flag, come to a flag finder
pub record Comes (finder : FlagFinder) (bits : List Bool) (octets : List ℕ) : Type 0 where
  pub cuts : Cuts finder bits
  pub fit : AreOctets octets
  pub quiet : end_no_flag finder.window octets ≡ true

window_small : (finder : FlagFinder) (bits : List Bool) → Cuts finder bits → finder.window < 256
window_small finder bits cuts = rw cuts.window (number_fits (recent true bits) 8 (rw (length-recent true bits) (omega arith)))

window_bits : (finder : FlagFinder) (bits : List Bool) → Cuts finder bits → recent true bits ≡ octet_bits finder.window
window_bits finder bits cuts = sym (ap octet_bits cuts.window ∙ octet_bits-number (recent true bits) (length-recent true bits))

pub no_flag_comes : (finder : FlagFinder) (bits : List Bool) (octets : List ℕ) → Comes finder bits octets
    → ends_no_flag finder.window (bits_of LsbFirst octets) ≡ true
no_flag_comes finder bits octets come = end_split octets finder.window (window_small finder bits come.cuts) come.fit ∙ come.quiet

all_unflagged : (finder : FlagFinder) (bits : List Bool) (octets : List ℕ) → Comes finder bits octets → Unflagged bits (bits_of LsbFirst octets)
all_unflagged finder bits octets come =
    unflagged bits (bits_of LsbFirst octets) (rw (← come.cuts.window) (no_flag_comes finder bits octets come))

fit_last : (xs : List ℕ) (o : ℕ) → AreOctets (xs ++ o ∷ []) → o < 256
fit_last [] o fit = fit.0
fit_last (x ∷ xs) o fit = fit_last xs o fit.1

last_window : (xs : List ℕ) (o : ℕ) (bits : List Bool) → o < 256 → number (recent true (bits ++ bits_of LsbFirst (xs ++ o ∷ []))) ≡ o
last_window xs o bits fits =
    let apart : bits ++ bits_of LsbFirst (xs ++ o ∷ []) ≡ (bits ++ bits_of LsbFirst xs) ++ bits_of LsbFirst (o ∷ []) =
    ap (λ r. bits ++ r) (bits_of-append LsbFirst xs (o ∷ [])) ∙ sym (append_assoc bits (bits_of LsbFirst xs) (bits_of LsbFirst (o ∷ []))) in
    ap (λ r. number (recent true r)) apart ∙ (ap number (recent_one (bits ++ bits_of LsbFirst xs) o) ∙ number-octet_bits o fits)

split_last : (xs : List ℕ) (n : ℕ) → n + 1 ≡ length xs → xs ≡ take n xs ++ get_or xs n 0 ∷ []
split_last xs n e = sym (sym (take_more xs n 0 (omega arith)) ∙ take_all (n + 1) xs (omega arith))

module _ (finder new : FlagFinder) (bits : List Bool) (xs : List ℕ) (o : ℕ) (come : Comes finder bits (xs ++ o ∷ []))
    (begun_ : new.begun ≡ finder.begun) (window_ : new.window ≡ o) where
  same_begun : begun (bits ++ bits_of LsbFirst (xs ++ o ∷ [])) ≡ begun bits
  same_begun = ap is_some (all_unflagged finder bits (xs ++ o ∷ []) come).last

  new_window : new.window ≡ number (recent true (bits ++ bits_of LsbFirst (xs ++ o ∷ [])))
  new_window = window_ ∙ sym (last_window xs o bits (fit_last xs o come.fit))

  cuts_run : (gap : List Bool) → Run (bits ++ bits_of LsbFirst (xs ++ o ∷ [])) gap → new.held ≡ 8 → Collects new.gap gap
      → Cuts new (bits ++ bits_of LsbFirst (xs ++ o ∷ []))
  cuts_run gap run held_ more = record {
    begun = begun_ ∙ (come.cuts.begun ∙ sym same_begun);
    held = held_ ∙ sym run.held_;
    window = new_window;
    gap = rw run.gap_ more;
  }

  cuts_after_full : finder.held ≡ 8 → new.held ≡ 8 → Collects new.gap (unclosed bits ++ bits_of LsbFirst (finder.window ∷ xs))
      → Cuts new (bits ++ bits_of LsbFirst (xs ++ o ∷ []))
  cuts_after_full full held_ more =
      cuts_run _ (full_run xs o bits finder.window (sym come.cuts.held ∙ full) (window_bits finder bits come.cuts)
      (window_small finder bits come.cuts) (fit_front xs (o ∷ []) come.fit) come.quiet) held_ more

  cuts_after_empty : finder.begun ≡ true → finder.held ≡ 0 → new.held ≡ 8 → Collects new.gap (unclosed bits ++ bits_of LsbFirst xs)
      → Cuts new (bits ++ bits_of LsbFirst (xs ++ o ∷ []))
  cuts_after_empty yes_ empty held_ more =
      cuts_run _ (empty_run xs o bits finder.window (sym come.cuts.begun ∙ yes_) (sym come.cuts.held ∙ empty)
      (window_bits finder bits come.cuts) (window_small finder bits come.cuts) (fit_front xs (o ∷ []) come.fit) come.quiet) held_ more

  cuts_unbegun : finder.begun ≡ false → new.held ≡ finder.held → new.gap ≡ finder.gap
      → Cuts new (bits ++ bits_of LsbFirst (xs ++ o ∷ []))
  cuts_unbegun not_yet held_ gap_ = record {
    begun = begun_ ∙ (come.cuts.begun ∙ sym same_begun);
    held = held_ ∙ (come.cuts.held ∙ sym (ap (held_after all) same ∙ held_none (last_flag bits) none));
    window = new_window;
    gap = rw (gap_, ap (unclosed_after all) same ∙ unclosed_none (last_flag bits) none) come.cuts.gap;
  }
    where
      all : List Bool
      all = bits ++ bits_of LsbFirst (xs ++ o ∷ [])

      none : is_some (last_flag bits) ≡ false
      none = sym come.cuts.begun ∙ not_yet

      same : last_flag all ≡ last_flag bits
      same = (all_unflagged finder bits (xs ++ o ∷ []) come).last

      held_none : (f : Option ℕ) → is_some f ≡ false → held_after all f ≡ held_after bits f
      held_none None e = refl
      held_none (Some p) e = cc

      unclosed_none : (f : Option ℕ) → is_some f ≡ false → unclosed_after all f ≡ unclosed_after bits f
      unclosed_none None e = refl
      unclosed_none (Some p) e = cc

-- the same of a list of octets with its last one

pub after_full : (finder new : FlagFinder) (bits : List Bool) (octets : List ℕ) (n : ℕ) → n + 1 ≡ length octets → Comes finder bits octets
    → new.begun ≡ finder.begun → new.window ≡ get_or octets n 0 → finder.held ≡ 8 → new.held ≡ 8
    → Collects new.gap (unclosed bits ++ bits_of LsbFirst (finder.window ∷ take n octets)) → Cuts new (bits ++ bits_of LsbFirst octets)
after_full finder new bits octets n size come begun_ window_ full held_ more =
    let is : octets ≡ take n octets ++ get_or octets n 0 ∷ [] = split_last octets n size in
    subst (λ all. Cuts new (bits ++ bits_of LsbFirst all)) (sym is)
    (cuts_after_full finder new bits (take n octets) (get_or octets n 0) (subst (Comes finder bits) is come) begun_ window_ full held_
    more)

pub after_empty : (finder new : FlagFinder) (bits : List Bool) (octets : List ℕ) (n : ℕ) → n + 1 ≡ length octets → Comes finder bits octets
    → new.begun ≡ finder.begun → new.window ≡ get_or octets n 0 → finder.begun ≡ true → finder.held ≡ 0 → new.held ≡ 8
    → Collects new.gap (unclosed bits ++ bits_of LsbFirst (take n octets)) → Cuts new (bits ++ bits_of LsbFirst octets)
after_empty finder new bits octets n size come begun_ window_ yes_ empty held_ more =
    let is : octets ≡ take n octets ++ get_or octets n 0 ∷ [] = split_last octets n size in
    subst (λ all. Cuts new (bits ++ bits_of LsbFirst all)) (sym is)
    (cuts_after_empty finder new bits (take n octets) (get_or octets n 0)
    (subst (Comes finder bits) is come) begun_ window_ yes_ empty held_
    more)

pub after_unbegun : (finder new : FlagFinder) (bits : List Bool) (octets : List ℕ) (n : ℕ) → n + 1 ≡ length octets → Comes finder bits octets
    → new.begun ≡ finder.begun → new.window ≡ get_or octets n 0 → finder.begun ≡ false → new.held ≡ finder.held → new.gap ≡ finder.gap
    → Cuts new (bits ++ bits_of LsbFirst octets)
after_unbegun finder new bits octets n size come begun_ window_ not_yet held_ gap_ =
    let is : octets ≡ take n octets ++ get_or octets n 0 ∷ [] = split_last octets n size in
    subst (λ all. Cuts new (bits ++ bits_of LsbFirst all)) (sym is)
    (cuts_unbegun finder new bits (take n octets) (get_or octets n 0) (subst (Comes finder bits) is come) begun_ window_ not_yet held_ gap_)
