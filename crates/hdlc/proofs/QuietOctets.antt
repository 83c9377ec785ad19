-- Eight bits more in a flag finder: those that end no flag, and those that repeat flags.
use Rattle.std.proofs.Common.{◌≡◌, ℕ, zero, suc, ◌+◌, ◌-◌, ◌*◌, ◌/◌, ◌%◌, ◌^◌, ◌<◌, ◌≤◌, Bool, true, false, not, ◌&&◌, List, [], ◌∷◌, ◌++◌}
use Rattle.std.proofs.Common.{length, take, drop, cond, min, refl, ap, sym, ◌∙◌, arith, nat_eq, bit_and, inl, inr, append_assoc, Option}
use Rattle.std.proofs.Common.{Some, None}
use Rattle.std.proofs.Common.{get_or}
use Rattle.std.proofs.Math.Seq.{drop-cons}
use Rattle.std.specs.Prelude.{is_some}
use Rattle.std.proofs.lemmas.List.{append-nil, drop-append-le, drop-drop, length-append, length-take, take_at, take-append-drop, drop_all, length-take-le}
use Rattle.std.specs.Int.{bit_at}
use Rattle.std.proofs.lemmas.Nat.{and_shr}
use Rattle.std.proofs.lemmas.Nat.Bits.{bit_at_and}
use Rattle.std.proofs.lemmas.Bool.{and_parts, cases_eq, ne_eqb}
use Rattle.hdlc.specs.declared.counts.Class.{Class}
use Rattle.hdlc.specs.declared.counts.Counts.{Counts}
use Rattle.hdlc.specs.declared.flag_finder.FlagFinder.{FlagFinder}
use Rattle.raster.specs.Octets.{number}
use Rattle.raster.specs.Packed.{bits_of}
use Rattle.raster.specs.declared.packed.Order.TheVariants.{LsbFirst}
use Rattle.raster.proofs.OctetBits.{octet_bits}
use Rattle.raster.proofs.OctetLemmas.{octet_bits-number, number-octet_bits}
use Rattle.hdlc.specs.Gaps.{good, count_of}
use Rattle.hdlc.specs.OpenGap.{begun, held, recent, unclosed, unclosed_after, at_flag, last_flag, held_after}
use Rattle.hdlc.specs.Collects.{Collects}
use Rattle.hdlc.specs.DeframerParts.{Cuts, PartsAfter}
use Rattle.hdlc.specs.EightBits.{ends_no_flag, end_no_flag}
use Rattle.hdlc.proofs.BitPlaces.{bits_of-one}
use Rattle.hdlc.proofs.Flags.{length-recent, recent_long, last_flag_within}
use Rattle.hdlc.proofs.UnstuffedLemmas.{number-recent, at_flag_is}
use Rattle.hdlc.proofs.Gaps.{last_flag-more, good-more, count-more}
use Rattle.hdlc.proofs.AssemblingOctets.{recent_after}

not_false : (x : Bool) → not x ≡ true → x ≡ false
not_false true h = sym h
not_false false h = refl

-- bits that end no flag add no gap
pub record Unflagged (bits more : List Bool) : Type 0 where
  pub last : last_flag (bits ++ more) ≡ last_flag bits
  pub good_same : good (bits ++ more) ≡ good bits
  pub counts : (class : Class) → count_of class (bits ++ more) ≡ count_of class bits

pub unflagged : (bits more : List Bool) → ends_no_flag (number (recent true bits)) more ≡ true → Unflagged bits more
unflagged bits [] h = record {
  last = ap last_flag (append-nil bits);
  good_same = ap good (append-nil bits);
  counts = λ class. ap (count_of class) (append-nil bits);
}
unflagged bits (b ∷ more) h =
    let next : ℕ = number (recent true bits) / 2 + cond b 128 0 in
    let parts = and_parts (not (nat_eq next 126)) (ends_no_flag next more) h in
    let window : number (recent true (bits ++ b ∷ [])) ≡ next = number-recent true bits b in
    let isnt : at_flag (bits ++ b ∷ []) ≡ false =
    at_flag_is (bits ++ b ∷ []) ∙ (ap (λ n. nat_eq n 126) window ∙ not_false (nat_eq next 126) parts.0) in
    let quiet : ends_no_flag (number (recent true (bits ++ b ∷ []))) more ≡ true = rw window parts.1 in
    let rest : Unflagged (bits ++ b ∷ []) more = unflagged (bits ++ b ∷ []) more quiet in
    let joined : bits ++ b ∷ more ≡ (bits ++ b ∷ []) ++ more = sym (append_assoc bits (b ∷ []) more) in
    record {
      last = ap last_flag joined ∙ (rest.last ∙ (last_flag-more bits b ∙ (rw isnt refl)));
      good_same = ap good joined ∙ (rest.good_same ∙ (good-more bits b ∙ (rw isnt (append-nil (good bits)))));
      counts = λ class. ap (count_of class) joined ∙ (rest.counts class ∙ (count-more class bits b ∙ (rw isnt (omega arith))));
    }

-- ---- where the last flag stays

-- the bits from a place on are at the end of the last eight
drop_recent : (fill : Bool) (bits : List Bool) (k h : ℕ) → length bits ≡ k + h → h ≤ 8 → drop k bits ≡ drop (8 - h) (recent fill bits)
unfolding recent
drop_recent fill bits k h size most =
    let long : List Bool = fill ∷ fill ∷ fill ∷ fill ∷ fill ∷ fill ∷ fill ∷ fill ∷ bits in
    let place : length bits + (8 - h) ≡ 8 + k = omega arith in
    sym (drop-drop (8 - h) (length bits) long ∙ (ap (λ j. drop j long) place ∙ sym (drop-drop k 8 long)))

module _ (bits eight : List Bool) (size : length eight ≡ 8) where
  all_size : length (bits ++ eight) ≡ length bits + 8
  all_size = length-append bits eight ∙ ap (λ n. length bits + n) size

  held_with : (o : Option ℕ) → last_flag bits ≡ o → held_after (bits ++ eight) o ≡ cond (is_some o) 8 0
  held_with None e = refl
  held_with (Some p) e =
      let within : p + 8 ≤ length bits = last_flag_within bits p e in
      let n : length (bits ++ eight) ≡ length bits + 8 = all_size in
      omega arith

  front : take (length (bits ++ eight) - 8) (bits ++ eight) ≡ bits
  front =
      let n : length (bits ++ eight) ≡ length bits + 8 = all_size in
      let less : length (bits ++ eight) - 8 ≡ length bits = omega arith in
      ap (λ k. take k (bits ++ eight)) less ∙ take_at bits eight (length bits) refl

  unclosed_full : (o : Option ℕ) → last_flag bits ≡ o → held_after bits o ≡ 8
      → unclosed_after (bits ++ eight) o ≡ unclosed_after bits o ++ recent true bits
  unclosed_full None e h = absurd (omega arith)
  unclosed_full (Some p) e h =
      let within : p + 8 ≤ length bits = last_flag_within bits p e in
      let long : 8 ≤ length bits = omega arith in
      let cut : length (take (length bits - 8) bits) ≡ length bits - 8 = length-take-le (length bits - 8) bits (omega arith) in
      let room : p + 8 ≤ length (take (length bits - 8) bits) = omega arith in
      ap (drop (p + 8)) (front ∙ sym (take-append-drop (length bits - 8) bits))
      ∙ (drop-append-le (p + 8) (take (length bits - 8) bits) (drop (length bits - 8) bits) room
      ∙ ap (λ xs. drop (p + 8) (take (length bits - 8) bits) ++ xs) (sym (recent_long true bits long)))

  unclosed_empty : (o : Option ℕ) → last_flag bits ≡ o → held_after bits o ≡ 0
      → unclosed_after (bits ++ eight) o ≡ unclosed_after bits o
  unclosed_empty None e h = refl
  unclosed_empty (Some p) e h =
      let few : length bits ≤ p + 8 = omega arith in
      let cut : length (take (length bits - 8) bits) ≤ p + 8 = rw (length-take-le (length bits - 8) bits (omega arith)) (omega arith) in
      ap (drop (p + 8)) front ∙ (drop_all (p + 8) bits few ∙ sym (drop_all (p + 8) (take (length bits - 8) bits) cut))

  unclosed_few : (o : Option ℕ) → last_flag bits ≡ o → held_after bits o < 8
      → unclosed_after (bits ++ eight) o ≡ unclosed_after bits o ++ drop (8 - held_after bits o) (recent true bits)
  unclosed_few None e h =
      let all : length (recent true bits) ≤ 8 = rw (length-recent true bits) (omega arith) in
      sym (drop_all 8 (recent true bits) all)
  unclosed_few (Some p) e h =
      let within : p + 8 ≤ length bits = last_flag_within bits p e in
      let cut : length (take (length bits - 8) bits) ≤ p + 8 = rw (length-take (length bits - 8) bits) (omega arith) in
      let n : ℕ = held_after bits (Some p) in
      let size_ : length bits ≡ p + 8 + n = omega arith in
      ap (drop (p + 8)) front ∙ (drop_recent true bits (p + 8) n size_ (omega arith)
      ∙ ap (λ xs. xs ++ drop (8 - n) (recent true bits)) (sym (drop_all (p + 8) (take (length bits - 8) bits) cut)))

  same_begun : Unflagged bits eight → begun (bits ++ eight) ≡ begun bits
  same_begun u = ap is_some u.last

  pub next_held : Unflagged bits eight → held (bits ++ eight) ≡ cond (begun bits) 8 0
  next_held u = ap (held_after (bits ++ eight)) u.last ∙ held_with (last_flag bits) refl

  pub next_full : Unflagged bits eight → held bits ≡ 8 → unclosed (bits ++ eight) ≡ unclosed bits ++ recent true bits
  next_full u h = ap (unclosed_after (bits ++ eight)) u.last ∙ unclosed_full (last_flag bits) refl h

  pub next_few : Unflagged bits eight → held bits < 8 → unclosed (bits ++ eight) ≡ unclosed bits ++ drop (8 - held bits) (recent true bits)
  next_few u h = ap (unclosed_after (bits ++ eight)) u.last ∙ unclosed_few (last_flag bits) refl h

  pub next_empty : Unflagged bits eight → held bits ≡ 0 → unclosed (bits ++ eight) ≡ unclosed bits
  next_empty u h = ap (unclosed_after (bits ++ eight)) u.last ∙ unclosed_empty (last_flag bits) refl h

pub begun_if_full : (bits : List Bool) → held bits ≡ 8 → begun bits ≡ true
begun_if_full bits h = go (last_flag bits) h
  where
    go : (o : Option ℕ) → held_after bits o ≡ 8 → is_some o ≡ true
    go None h = absurd (omega arith)
    go (Some p) h = refl

quiet_from : (finder : FlagFinder) (bits eight : List Bool) → Cuts finder bits → ends_no_flag finder.window eight ≡ true → Unflagged bits eight
quiet_from finder bits eight cuts quiet = unflagged bits eight (rw (← cuts.window) quiet)

-- what was in the register goes to the gap
pub cuts_full : (finder new : FlagFinder) (bits : List Bool) (octet : ℕ) → octet < 256 → Cuts finder bits
    → ends_no_flag finder.window (bits_of LsbFirst (octet ∷ [])) ≡ true → finder.held ≡ 8 → new.begun ≡ finder.begun → new.held ≡ 8
    → new.window ≡ octet → Collects new.gap (unclosed bits ++ bits_of LsbFirst (finder.window ∷ []))
    → Cuts new (bits ++ bits_of LsbFirst (octet ∷ []))
cuts_full finder new bits octet small cuts quiet full new_begun new_held new_window gap =
    let eight : List Bool = octet_bits octet in
    let is : bits_of LsbFirst (octet ∷ []) ≡ eight = bits_of-one octet in
    let u : Unflagged bits eight = quiet_from finder bits eight cuts (ap (ends_no_flag finder.window) (sym is) ∙ quiet) in
    let h : held bits ≡ 8 = sym cuts.held ∙ full in
    let left : bits_of LsbFirst (finder.window ∷ []) ≡ recent true bits =
    bits_of-one finder.window ∙ (ap octet_bits cuts.window ∙ octet_bits-number (recent true bits) (length-recent true bits)) in
    rw is (record {
      begun = new_begun ∙ (cuts.begun ∙ sym (same_begun bits eight refl u));
      held = new_held ∙ sym (next_held bits eight refl u ∙ (rw (begun_if_full bits h) refl));
      window = new_window ∙ (sym (number-octet_bits octet small) ∙ ap number (sym (recent_after true bits eight refl)));
      gap = rw (next_full bits eight refl u h, ← left) gap;
    })

-- what came after the flag does
pub cuts_few : (finder new : FlagFinder) (bits : List Bool) (octet start : ℕ) → octet < 256 → Cuts finder bits
    → ends_no_flag finder.window (bits_of LsbFirst (octet ∷ [])) ≡ true → finder.begun ≡ true → finder.held < 8 → start ≡ 8 - finder.held
    → new.begun ≡ finder.begun → new.held ≡ 8 → new.window ≡ octet
    → Collects new.gap (unclosed bits ++ drop start (bits_of LsbFirst (finder.window ∷ []))) → Cuts new (bits ++ bits_of LsbFirst (octet ∷ []))
cuts_few finder new bits octet start small cuts quiet yes_ few at new_begun new_held new_window gap =
    let eight : List Bool = octet_bits octet in
    let is : bits_of LsbFirst (octet ∷ []) ≡ eight = bits_of-one octet in
    let u : Unflagged bits eight = quiet_from finder bits eight cuts (ap (ends_no_flag finder.window) (sym is) ∙ quiet) in
    let h : held bits < 8 = rw (← cuts.held) few in
    let left : bits_of LsbFirst (finder.window ∷ []) ≡ recent true bits =
    bits_of-one finder.window ∙ (ap octet_bits cuts.window ∙ octet_bits-number (recent true bits) (length-recent true bits)) in
    let place : start ≡ 8 - held bits = at ∙ ap (λ n. 8 - n) cuts.held in
    rw is (record {
      begun = new_begun ∙ (cuts.begun ∙ sym (same_begun bits eight refl u));
      held = new_held ∙ sym (next_held bits eight refl u ∙ (rw (sym cuts.begun ∙ yes_) refl));
      window = new_window ∙ (sym (number-octet_bits octet small) ∙ ap number (sym (recent_after true bits eight refl)));
      gap = rw (next_few bits eight refl u h, ← left, ← place) gap;
    })

-- none of what was in the register does
pub cuts_empty : (finder new : FlagFinder) (bits : List Bool) (octet : ℕ) → octet < 256 → Cuts finder bits
    → ends_no_flag finder.window (bits_of LsbFirst (octet ∷ [])) ≡ true → finder.held ≡ 0 → new.begun ≡ finder.begun
    → new.held ≡ cond finder.begun 8 0 → new.window ≡ octet → new.gap ≡ finder.gap → Cuts new (bits ++ bits_of LsbFirst (octet ∷ []))
cuts_empty finder new bits octet small cuts quiet empty new_begun new_held new_window gap =
    let eight : List Bool = octet_bits octet in
    let is : bits_of LsbFirst (octet ∷ []) ≡ eight = bits_of-one octet in
    let u : Unflagged bits eight = quiet_from finder bits eight cuts (ap (ends_no_flag finder.window) (sym is) ∙ quiet) in
    let h : held bits ≡ 0 = sym cuts.held ∙ empty in
    rw is (record {
      begun = new_begun ∙ (cuts.begun ∙ sym (same_begun bits eight refl u));
      held = new_held ∙ (ap (λ x. cond x 8 0) cuts.begun ∙ sym (next_held bits eight refl u));
      window = new_window ∙ (sym (number-octet_bits octet small) ∙ ap number (sym (recent_after true bits eight refl)));
      gap = rw (next_empty bits eight refl u h, gap) cuts.gap;
    })

held_at_most : (bits : List Bool) → held bits ≤ 8
held_at_most bits = go (last_flag bits)
  where
    go : (o : Option ℕ) → held_after bits o ≤ 8
    go None = omega arith
    go (Some p) = omega arith

-- of none or eight bits, those that aren't eight are none
pub none_if_not_full : (finder : FlagFinder) (bits : List Bool) → Cuts finder bits → finder.held % 8 ≡ 0 → (finder.held ≡ 8 → ⊥)
    → finder.held ≡ 0
none_if_not_full finder bits cuts e ne =
    let most : held bits ≤ 8 = held_at_most bits in
    let is : finder.held ≡ held bits = cuts.held in
    omega (arith, ne)

-- an octet that ends no flag adds nothing to the counts and the queue
pub parts_quiet : (finder new : FlagFinder) (counts : Counts) (queue : List (List ℕ)) (bits eight : List Bool) (handed : ℕ)
    → PartsAfter finder counts queue bits handed → ends_no_flag finder.window eight ≡ true → Cuts new (bits ++ eight)
    → PartsAfter new counts queue (bits ++ eight) handed
parts_quiet finder new counts queue bits eight handed old quiet cuts =
    let u : Unflagged bits eight = quiet_from finder bits eight old.cuts quiet in
    record {
      cuts = cuts;
      counted = λ class. old.counted class ∙ ap (min (2 ^ 64 - 1)) (sym (u.counts class));
      within = rw u.good_same old.within;
      queued = old.queued ∙ ap (drop handed) (sym u.good_same);
    }

-- ---- the test of an octet, by its sixteen bits

-- of a number, shifted one bit after the other, no lowest octet is a flag
abbrev pub no_flag_below : ℕ → ℕ → Bool
no_flag_below zero both = true
no_flag_below (suc n) both = not (nat_eq (both / 2 % 256) 126) && no_flag_below n (both / 2)

pub shifted_front : (bits more : List Bool) (w : ℕ) → w < 256
    → no_flag_below (length bits) (w + 256 * number (bits ++ more)) ≡ ends_no_flag w bits
shifted_front [] more w h = refl
shifted_front (b ∷ bits) more w h = go b (shifted_front bits more)
  where
    go : (b : Bool) → ((w : ℕ) → w < 256 → no_flag_below (length bits) (w + 256 * number (bits ++ more)) ≡ ends_no_flag w bits)
        → no_flag_below (suc (length bits)) (w + 256 * (cond b 1 0 + 2 * number (bits ++ more))) ≡ ends_no_flag w (b ∷ bits)
    go true rest =
        let next : (w + 256 * (1 + 2 * number (bits ++ more))) / 2 ≡ (w / 2 + 128) + 256 * number (bits ++ more) = omega arith in
        let low : ((w / 2 + 128) + 256 * number (bits ++ more)) % 256 ≡ w / 2 + 128 = omega arith in
        ap (λ n. not (nat_eq (n % 256) 126) && no_flag_below (length bits) n) next ∙
        (ap (λ n. not (nat_eq n 126) && no_flag_below (length bits) ((w / 2 + 128) + 256 * number (bits ++ more))) low ∙
        ap (λ t. not (nat_eq (w / 2 + 128) 126) && t) (rest (w / 2 + 128) (omega arith)))
    go false rest =
        let next : (w + 256 * (0 + 2 * number (bits ++ more))) / 2 ≡ (w / 2 + 0) + 256 * number (bits ++ more) = omega arith in
        let low : ((w / 2 + 0) + 256 * number (bits ++ more)) % 256 ≡ w / 2 + 0 = omega arith in
        ap (λ n. not (nat_eq (n % 256) 126) && no_flag_below (length bits) n) next ∙
        (ap (λ n. not (nat_eq n 126) && no_flag_below (length bits) ((w / 2 + 0) + 256 * number (bits ++ more))) low ∙
        ap (λ t. not (nat_eq (w / 2 + 0) 126) && t) (rest (w / 2 + 0) (omega arith)))

pub shifted_test : (bits : List Bool) (w : ℕ) → w < 256 → no_flag_below (length bits) (w + 256 * number bits) ≡ ends_no_flag w bits
shifted_test bits w h =
    ap (λ xs. no_flag_below (length bits) (w + 256 * number xs)) (sym (append-nil bits)) ∙ shifted_front bits [] w h

-- the eight comparisons of a number of sixteen bits
abbrev pub differs : ℕ → Bool
differs n = not (nat_eq (n % 256) 126)

abbrev pub no_flag_in : ℕ → Bool
no_flag_in x =
    differs (x / 2) && (differs (x / 4) && (differs (x / 8) && (differs (x / 16) && (differs (x / 32)
    && (differs (x / 64) && (differs (x / 128) && differs (x / 256)))))))

pub and_assoc : (x y z : Bool) → ((x && y) && z) ≡ (x && (y && z))
and_assoc true y z = refl
and_assoc false y z = refl

-- ---- no six 1 bits in a row

abbrev pub sixes : ℕ → ℕ
sixes x = bit_and (bit_and (bit_and x (x / 2)) (bit_and x (x / 2) / 4)) (bit_and x (x / 2) / 16)

six_at : (x k : ℕ) → x / 2 ^ k % 2 ≡ 1 → x / 2 / 2 ^ k % 2 ≡ 1 → x / 4 / 2 ^ k % 2 ≡ 1 → x / 2 / 4 / 2 ^ k % 2 ≡ 1
    → x / 16 / 2 ^ k % 2 ≡ 1 → x / 2 / 16 / 2 ^ k % 2 ≡ 1 → sixes x / 2 ^ k % 2 ≡ 1
six_at x k a b c d e f =
    let pairs : ℕ = bit_and x (x / 2) in
    let p0 : bit_at pairs k ≡ 1 = bit_at_and x (x / 2) k ∙ (rw (a, b) refl) in
    let p2 : bit_at (pairs / 4) k ≡ 1 = ap (λ n. bit_at n k) (and_shr x (x / 2) 2) ∙ (bit_at_and (x / 4) (x / 2 / 4) k ∙ (rw (
      c,
      d,
    ) refl)) in
    let p4 : bit_at (pairs / 16) k ≡ 1 = ap (λ n. bit_at n k) (and_shr x (x / 2) 4) ∙ (bit_at_and (x / 16) (x / 2 / 16) k ∙ (rw (
      e,
      f,
    ) refl)) in
    let four : bit_at (bit_and pairs (pairs / 4)) k ≡ 1 = bit_at_and pairs (pairs / 4) k ∙ (rw (p0, p2) refl) in
    bit_at_and (bit_and pairs (pairs / 4)) (pairs / 16) k ∙ (rw (four, p4) refl)

pub none_1 : (x : ℕ) → sixes x / 4 % 2 ≡ 0 → differs (x / 2) ≡ true
none_1 x h = elim (cases_eq (x / 2 % 256) 126) [
  | inl e ↦
      let six : sixes x / 4 % 2 ≡ 1 =
      six_at x 2 (omega arith) (omega arith) (omega arith) (omega arith) (omega arith) (omega arith) in
      absurd (omega arith)
  | inr ne ↦ ap not (ne_eqb (x / 2 % 256) 126 ne)
]

none_2 : (x : ℕ) → sixes x / 4 % 256 ≡ 0 → differs (x / 4) ≡ true
none_2 x h = elim (cases_eq (x / 4 % 256) 126) [
  | inl e ↦
      let six : sixes x / 8 % 2 ≡ 1 =
      six_at x 3 (omega arith) (omega arith) (omega arith) (omega arith) (omega arith) (omega arith) in
      absurd (omega arith)
  | inr ne ↦ ap not (ne_eqb (x / 4 % 256) 126 ne)
]

none_3 : (x : ℕ) → sixes x / 4 % 256 ≡ 0 → differs (x / 8) ≡ true
none_3 x h = elim (cases_eq (x / 8 % 256) 126) [
  | inl e ↦
      let six : sixes x / 16 % 2 ≡ 1 =
      six_at x 4 (omega arith) (omega arith) (omega arith) (omega arith) (omega arith) (omega arith) in
      absurd (omega arith)
  | inr ne ↦ ap not (ne_eqb (x / 8 % 256) 126 ne)
]

none_4 : (x : ℕ) → sixes x / 4 % 256 ≡ 0 → differs (x / 16) ≡ true
none_4 x h = elim (cases_eq (x / 16 % 256) 126) [
  | inl e ↦
      let six : sixes x / 32 % 2 ≡ 1 =
      six_at x 5 (omega arith) (omega arith) (omega arith) (omega arith) (omega arith) (omega arith) in
      absurd (omega arith)
  | inr ne ↦ ap not (ne_eqb (x / 16 % 256) 126 ne)
]

none_5 : (x : ℕ) → sixes x / 4 % 256 ≡ 0 → differs (x / 32) ≡ true
none_5 x h = elim (cases_eq (x / 32 % 256) 126) [
  | inl e ↦
      let six : sixes x / 64 % 2 ≡ 1 =
      six_at x 6 (omega arith) (omega arith) (omega arith) (omega arith) (omega arith) (omega arith) in
      absurd (omega arith)
  | inr ne ↦ ap not (ne_eqb (x / 32 % 256) 126 ne)
]

none_6 : (x : ℕ) → sixes x / 4 % 256 ≡ 0 → differs (x / 64) ≡ true
none_6 x h = elim (cases_eq (x / 64 % 256) 126) [
  | inl e ↦
      let six : sixes x / 128 % 2 ≡ 1 =
      six_at x 7 (omega arith) (omega arith) (omega arith) (omega arith) (omega arith) (omega arith) in
      absurd (omega arith)
  | inr ne ↦ ap not (ne_eqb (x / 64 % 256) 126 ne)
]

none_7 : (x : ℕ) → sixes x / 4 % 256 ≡ 0 → differs (x / 128) ≡ true
none_7 x h = elim (cases_eq (x / 128 % 256) 126) [
  | inl e ↦
      let six : sixes x / 256 % 2 ≡ 1 =
      six_at x 8 (omega arith) (omega arith) (omega arith) (omega arith) (omega arith) (omega arith) in
      absurd (omega arith)
  | inr ne ↦ ap not (ne_eqb (x / 128 % 256) 126 ne)
]

none_8 : (x : ℕ) → sixes x / 4 % 256 ≡ 0 → differs (x / 256) ≡ true
none_8 x h = elim (cases_eq (x / 256 % 256) 126) [
  | inl e ↦
      let six : sixes x / 512 % 2 ≡ 1 =
      six_at x 9 (omega arith) (omega arith) (omega arith) (omega arith) (omega arith) (omega arith) in
      absurd (omega arith)
  | inr ne ↦ ap not (ne_eqb (x / 256 % 256) 126 ne)
]

pub no_six : (x : ℕ) → sixes x / 4 % 256 ≡ 0 → no_flag_in x ≡ true
no_six x h =
    rw (none_1 x (omega arith), none_2 x h, none_3 x h, none_4 x h, none_5 x h, none_6 x h, none_7 x h, none_8 x h) refl

-- the same in the order of the code
pub no_flag_left : (x : ℕ) → (((((((differs (x / 2) && differs (x / 4)) && differs (x / 8)) && differs (x / 16)) && differs (x / 32))
    && differs (x / 64)) && differs (x / 128)) && differs (x / 256)) ≡ no_flag_in x
no_flag_left x = simp and_assoc

and_true : (x : Bool) → (x && true) ≡ x
and_true true = refl
and_true false = refl

pub no_flag_is : (window octet : ℕ) → window < 256 → octet < 256
    → no_flag_in (octet * 256 + window) ≡ ends_no_flag window (bits_of LsbFirst (octet ∷ []))
no_flag_is window octet small fits =
    let swap : octet * 256 + window ≡ window + 256 * number (octet_bits octet) = rw (number-octet_bits octet fits) (omega arith) in
    same (octet * 256 + window)
    ∙ (ap (no_flag_below 8) swap ∙ (shifted_test (octet_bits octet) window small ∙ ap (ends_no_flag window) (sym (bits_of-one octet))))
  where
    same : (x : ℕ) → no_flag_in x ≡ no_flag_below 8 x
    same x =
        let e2 : x / 2 / 2 ≡ x / 4 = omega arith in
        let e3 : x / 4 / 2 ≡ x / 8 = omega arith in
        let e4 : x / 8 / 2 ≡ x / 16 = omega arith in
        let e5 : x / 16 / 2 ≡ x / 32 = omega arith in
        let e6 : x / 32 / 2 ≡ x / 64 = omega arith in
        let e7 : x / 64 / 2 ≡ x / 128 = omega arith in
        let e8 : x / 128 / 2 ≡ x / 256 = omega arith in
        rw (e2, e3, e4, e5, e6, e7, e8, and_true (differs (x / 256))) refl

-- ---- octets one after the other

pub full_whole : (b : Bool) → cond b 8 0 % 8 ≡ 0
full_whole true = refl
full_whole false = refl

pub end_next : (octets : List ℕ) (i last : ℕ) → i < length octets → end_no_flag last (drop i octets)
    ≡ (ends_no_flag last (bits_of LsbFirst (get_or octets i 0 ∷ [])) && end_no_flag (get_or octets i 0) (drop (i + 1) octets))
end_next octets i last h =
    let more : suc i ≡ i + 1 = omega arith in
    ap (end_no_flag last) (drop-cons octets i 0 h ∙ ap (λ n. get_or octets i 0 ∷ drop n octets) more)

pub end_none : (octets : List ℕ) (i last : ℕ) → length octets ≤ i → end_no_flag last (drop i octets) ≡ true
end_none octets i last h = ap (end_no_flag last) (drop_all i octets h)
