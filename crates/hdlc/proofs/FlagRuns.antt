-- Eight bits that repeat flags leave a flag finder as it was.
use Rattle.std.proofs.Common.{◌≡◌, ℕ, zero, suc, ◌+◌, ◌-◌, ◌/◌, ◌^◌, ◌<◌, ◌≤◌, Bool, true, false, ◌||◌, List, [], ◌∷◌, ◌++◌, length, take}
use Rattle.std.proofs.Common.{◌*◌, replicate}
use Rattle.raster.specs.Packed.{bits_of}
use Rattle.raster.specs.declared.packed.Order.TheVariants.{LsbFirst}
use Rattle.hdlc.proofs.BitPlaces.{octets-none}
use Rattle.hdlc.proofs.QuietRuns.{joined}
use Rattle.std.proofs.Common.{drop, cond, min, refl, ap, sym, ◌∙◌, arith, nat_eq, nat_lt, append_assoc, Option, Some, None, subst, get_or}
use Rattle.std.proofs.lemmas.List.{append-nil, drop_all, length-take-le}
use Rattle.std.proofs.lemmas.Bool.{ne_eqb, eqb-true, ltb-true, and_parts, and_right}
use Rattle.hdlc.specs.declared.counts.Class.{Class}
use Rattle.hdlc.specs.declared.counts.Counts.{Counts}
use Rattle.hdlc.specs.declared.flag_finder.FlagFinder.{FlagFinder}
use Rattle.raster.specs.Octets.{number}
use Rattle.raster.proofs.OctetBits.{octet_bits}
use Rattle.hdlc.specs.Gaps.{good, count_of}
use Rattle.hdlc.specs.OpenGap.{begun, held, recent, unclosed, unclosed_after, settled, at_flag, last_flag, held_after}
use Rattle.hdlc.specs.Collects.{Collects}
use Rattle.hdlc.specs.DeframerParts.{Cuts, PartsAfter}
use Rattle.hdlc.specs.EightBits.{leads_to, repeated}
use Rattle.hdlc.proofs.UnstuffedLemmas.{number-recent, at_flag_is}
use Rattle.hdlc.proofs.Gaps.{settled_is, unclosed-more, held-more, begun-more, good-more, count-more, closes}

-- a flag has come, so many bits are after it, and none has left the register of the last eight
record Idle (after window : ℕ) (bits : List Bool) : Type 0 where
  begun_ : begun bits ≡ true
  held_ : held bits ≡ after
  window_ : number (recent true bits) ≡ window
  none : unclosed bits ≡ []

-- bits that add no gap
record Same (bits more : List Bool) : Type 0 where
  good_same : good (bits ++ more) ≡ good bits
  counts : (class : Class) → count_of class (bits ++ more) ≡ count_of class bits

or_true : (x : Bool) → (x || true) ≡ true
or_true true = refl
or_true false = refl

none_either : (x : Bool) (xs : List Bool) → xs ≡ [] → cond x [] xs ≡ []
none_either true xs e = refl
none_either false xs e = e

module _ (after window : ℕ) (bits : List Bool) (b : Bool) (idle : Idle after window bits) (few : after < 8) where
  at : at_flag (bits ++ b ∷ []) ≡ nat_eq (window / 2 + cond b 128 0) 126
  at = at_flag_is (bits ++ b ∷ []) ∙ ap (λ n. nat_eq n 126) (number-recent true bits b ∙ ap (λ n. n / 2 + cond b 128 0) idle.window_)

  settled_none : settled bits ≡ []
  settled_none =
      let is : held bits ≡ after = idle.held_ in
      let part : nat_eq (held bits) 8 ≡ false = ne_eqb (held bits) 8 (λ e. omega arith) in
      settled_is bits ∙ (rw (part, idle.none) refl)

  no_gap : closes bits b ≡ false
  no_gap = and_right (at_flag (bits ++ b ∷ [])) (nat_lt 7 (length (settled bits))) (ap (λ g. nat_lt 7 (length g)) settled_none)

  idle_next : Idle (cond (nat_eq (window / 2 + cond b 128 0) 126) 0 (after + 1)) (window / 2 + cond b 128 0) (bits ++ b ∷ [])
  idle_next =
      let one : min 8 (after + 1) ≡ after + 1 = omega arith in
      record {
        begun_ = begun-more bits b ∙ (ap (λ x. at_flag (bits ++ b ∷ []) || x) idle.begun_ ∙ or_true (at_flag (bits ++ b ∷ [])));
        held_ = held-more bits b ∙ (rw (at, idle.begun_, idle.held_, one) refl);
        window_ = number-recent true bits b ∙ ap (λ n. n / 2 + cond b 128 0) idle.window_;
        none = unclosed-more bits b ∙ none_either (at_flag (bits ++ b ∷ [])) (settled bits) settled_none;
      }

  same_next : Same bits (b ∷ [])
  same_next = record {
    good_same = good-more bits b ∙ (rw no_gap (append-nil (good bits)));
    counts = λ class. count-more class bits b ∙ (rw no_gap (omega arith));
  }

idle_run : (more : List Bool) (after window : ℕ) (bits : List Bool) (last_after last_window : ℕ) → Idle after window bits
    → leads_to after window more last_after last_window ≡ true → Idle last_after last_window (bits ++ more) × Same bits more
idle_run [] after window bits last_after last_window idle h =
    let parts = and_parts (nat_eq after last_after) (nat_eq window last_window) h in (
      record {
        begun_ = ap begun (append-nil bits) ∙ idle.begun_;
        held_ = ap held (append-nil bits) ∙ (idle.held_ ∙ eqb-true after last_after parts.0);
        window_ = ap (λ xs. number (recent true xs)) (append-nil bits) ∙ (idle.window_ ∙ eqb-true window last_window parts.1);
        none = ap unclosed (append-nil bits) ∙ idle.none;
      },
      record { good_same = ap good (append-nil bits); counts = λ class. ap (count_of class) (append-nil bits) },
    )
idle_run (b ∷ more) after window bits last_after last_window idle h =
    let parts = and_parts (nat_lt after 8) (leads_to (cond (nat_eq (window / 2 + cond b 128 0) 126) 0 (after + 1))
    (window / 2 + cond b 128 0) more last_after last_window) h in
    let few : after < 8 = ltb-true after 8 parts.0 in
    let one : Same bits (b ∷ []) = same_next after window bits b idle few in
    let rest = idle_run more (cond (nat_eq (window / 2 + cond b 128 0) 126) 0 (after + 1)) (window / 2 + cond b 128 0) (bits ++ b ∷ [])
    last_after last_window (idle_next after window bits b idle few) parts.1 in
    let joined : (bits ++ b ∷ []) ++ more ≡ bits ++ b ∷ more = append_assoc bits (b ∷ []) more in (
      record {
        begun_ = ap begun (sym joined) ∙ rest.0.begun_;
        held_ = ap held (sym joined) ∙ rest.0.held_;
        window_ = ap (λ xs. number (recent true xs)) (sym joined) ∙ rest.0.window_;
        none = ap unclosed (sym joined) ∙ rest.0.none;
      },
      record {
        good_same = ap good (sym joined) ∙ (rest.1.good_same ∙ one.good_same);
        counts = λ class. ap (count_of class) (sym joined) ∙ (rest.1.counts class ∙ one.counts class);
      },
    )

unclosed_none : (bits : List Bool) → held bits < 8 → unclosed bits ≡ []
unclosed_none bits h = go (last_flag bits) h
  where
    go : (o : Option ℕ) → held_after bits o < 8 → unclosed_after bits o ≡ []
    go None h = refl
    go (Some p) h =
        let cut : length (take (length bits - 8) bits) ≤ p + 8 = rw (length-take-le (length bits - 8) bits (omega arith)) (omega arith) in
        drop_all (p + 8) (take (length bits - 8) bits) cut

pub flags_repeat : (finder : FlagFinder) (counts : Counts) (queue : List (List ℕ)) (bits eight : List Bool) (handed : ℕ)
    → PartsAfter finder counts queue bits handed → finder.begun ≡ true → finder.held < 8
    → leads_to finder.held finder.window eight finder.held finder.window ≡ true → PartsAfter finder counts queue (bits ++ eight) handed
flags_repeat finder counts queue bits eight handed old yes_ few leads =
    let cuts : Cuts finder bits = old.cuts in
    let none : unclosed bits ≡ [] = unclosed_none bits (rw (← cuts.held) few) in
    let idle : Idle finder.held finder.window bits =
    record { begun_ = sym cuts.begun ∙ yes_; held_ = sym cuts.held; window_ = sym cuts.window; none = none } in
    let run = idle_run eight finder.held finder.window bits finder.held finder.window idle leads in
    record {
      cuts = record {
        begun = yes_ ∙ sym run.0.begun_;
        held = sym run.0.held_;
        window = sym run.0.window_;
        gap = subst (Collects finder.gap) (none ∙ sym run.0.none) cuts.gap;
      };
      counted = λ class. old.counted class ∙ ap (min (2 ^ 64 - 1)) (sym (run.1.counts class));
      within = rw run.1.good_same old.within;
      queued = old.queued ∙ ap (drop handed) (sym run.1.good_same);
    }

-- ---- the octets of repeated flags

abbrev pub repeats : ℕ → ℕ → Bool
repeats held x = leads_to held x (octet_bits x) held x

pub repeated_leads : (held d : ℕ) → held < 8 → repeats held (get_or repeated held d) ≡ true
repeated_leads zero d h = refl
repeated_leads (suc zero) d h = refl
repeated_leads (suc (suc zero)) d h = refl
repeated_leads (suc (suc (suc zero))) d h = refl
repeated_leads (suc (suc (suc (suc zero)))) d h = refl
repeated_leads (suc (suc (suc (suc (suc zero))))) d h = refl
repeated_leads (suc (suc (suc (suc (suc (suc zero)))))) d h = refl
repeated_leads (suc (suc (suc (suc (suc (suc (suc zero))))))) d h = refl
repeated_leads (suc (suc (suc (suc (suc (suc (suc (suc n)))))))) d h = absurd (omega arith)

-- ---- octets that repeat the last one

digit_same : (a r o s : ℕ) → a < 256 → o < 256 → a + 256 * r ≡ o + 256 * s → (a ≡ o) × (r ≡ s)
digit_same a r o s small fits e = (omega arith, omega arith)

pub four_same : (a b c d o n : ℕ) → a < 256 → b < 256 → c < 256 → d < 256 → o < 256 → n ≡ a + 256 * (b + 256 * (c + 256 * d))
    → n ≡ o * 0x1010101 → a ∷ b ∷ c ∷ d ∷ [] ≡ replicate 4 o
four_same a b c d o n la lb lc ld fits is same =
    let all : a + 256 * (b + 256 * (c + 256 * d)) ≡ o + 256 * (o + 256 * (o + 256 * o)) = omega arith in
    let one = digit_same a _ o _ la fits all in
    let two = digit_same b _ o _ lb fits one.1 in
    let three = digit_same c d o o lc fits two.1 in
    rw (one.0, two.0, three.0, three.1) refl

-- if one octet may be repeated, many may
pub repeat_all : (finder : FlagFinder) (counts : Counts) (queue : List (List ℕ)) (handed : ℕ)
    → ((bits : List Bool) → PartsAfter finder counts queue bits handed
    → PartsAfter finder counts queue (bits ++ bits_of LsbFirst (finder.window ∷ [])) handed)
    → (n : ℕ) (bits : List Bool) → PartsAfter finder counts queue bits handed
    → PartsAfter finder counts queue (bits ++ bits_of LsbFirst (replicate n finder.window)) handed
repeat_all finder counts queue handed once zero bits old = rw (octets-none bits) old
repeat_all finder counts queue handed once (suc n) bits old =
    rw (← joined bits finder.window (replicate n finder.window))
    (repeat_all finder counts queue handed once n (bits ++ bits_of LsbFirst (finder.window ∷ [])) (once bits old))
