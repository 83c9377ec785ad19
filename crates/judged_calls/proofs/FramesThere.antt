-- Which frames of a block an answerer has.
use Rattle.std.proofs.Common.{◌≡◌, ◌⊎◌, ℕ, suc, zero, ◌≤◌, ◌<◌, Bool, true, false, ◌&&◌, List, [], ◌∷◌, refl, sym, ap, subst, inl, inr, ◌∙◌, arith, rules, length}
use Rattle.std.specs.Prelude.{Option, Some, None, nat_eq, nat_le, nat_lt, slice_set, replicate}
use Rattle.std.proofs.lemmas.Bool.{eqb-true, eqb-false, eq-eqb, ltb-false}
use Rattle.partial_page.specs.Assembling.{Frames, all_there, is_whole}
use Rattle.partial_page.specs.Store.{has_frame, no_frames}
use Rattle.judged_calls.proofs.BlockViews.{clash}

pub none_in : (count n : ℕ) → has_frame (replicate count None) n ≡ false
none_in zero n = refl
none_in (suc count) zero = refl
none_in (suc count) (suc n) = none_in count n

pub no_frame : (n : ℕ) → has_frame no_frames n ≡ true → ⊥
unfolding no_frames
no_frame n has = clash (sym has ∙ none_in 256 n)

pub places_of : (count : ℕ) → length (replicate {A = Option (List ℕ)} count None) ≡ count
places_of zero = refl
places_of (suc count) = ap suc (places_of count)

pub no_places : length no_frames ≡ 256
unfolding no_frames
no_places = places_of 256

pub has_within : (frames : Frames) (n : ℕ) → has_frame frames n ≡ true → n < length frames
has_within [] n has = clash (sym has)
has_within (frame ∷ frames) zero has = omega arith
has_within (frame ∷ frames) (suc n) has = let h = has_within frames n has in omega (arith, h)

pub put_more : (frames : Frames) (number : ℕ) (octets : List ℕ) (n : ℕ) → has_frame (slice_set frames number (Some octets)) n ≡ true →
    (nat_eq number n ≡ true) ⊎ (has_frame frames n ≡ true)
put_more [] number octets n h = inr h
put_more (frame ∷ frames) zero octets zero h = inl refl
put_more (frame ∷ frames) zero octets (suc n) h = inr h
put_more (frame ∷ frames) (suc number) octets zero h = inr h
put_more (frame ∷ frames) (suc number) octets (suc n) h = up number n (put_more frames number octets n h)
  where
    up : (k n : ℕ) → (nat_eq k n ≡ true) ⊎ (has_frame frames n ≡ true) →
        (nat_eq (suc k) (suc n) ≡ true) ⊎ (has_frame frames n ≡ true)
    up k n (inl same) = inl (eq-eqb (suc k) (suc n) (ap suc (eqb-true k n same)))
    up k n (inr has) = inr has

pub put_places : (frames : Frames) (number : ℕ) (octets : List ℕ) → length (slice_set frames number (Some octets)) ≡ length frames
put_places [] number octets = refl
put_places (frame ∷ frames) zero octets = refl
put_places (frame ∷ frames) (suc number) octets = ap suc (put_places frames number octets)

pub and_both : (a b : Bool) → (a && b) ≡ true → (a ≡ true) × (b ≡ true)
and_both true b e = (refl, e)
and_both false b e = clash (sym e)

-- all frames below a count are there, or one isn't
pub whole_has : (frames : Frames) (count n : ℕ) → is_whole frames count ≡ true → n < count → has_frame frames n ≡ true
whole_has frames zero n e within = absurd (omega (arith, within))
whole_has frames (suc count) n e within = at (nat_eq n count) refl (λ whole below. whole_has frames count n whole below)
  where
    both : (is_whole frames count ≡ true) × (has_frame frames count ≡ true)
    both = and_both (is_whole frames count) (has_frame frames count) e

    at : (b : Bool) → nat_eq n count ≡ b → (is_whole frames count ≡ true → n < count → has_frame frames n ≡ true) → has_frame frames n ≡ true
    at true is rest = subst (λ k. has_frame frames k ≡ true) (sym (eqb-true n count is)) both.1
    at false is rest = rest both.0 (omega (arith, within, eqb-false n count is))

pub gap : (frames : Frames) (count : ℕ) → is_whole frames count ≡ false → (n : ℕ) × (n < count) × (has_frame frames n ≡ false)
gap frames zero e = clash e
gap frames (suc count) e = at (is_whole frames count) refl e (λ none. gap frames count none)
  where
    at : (b : Bool) → is_whole frames count ≡ b → (b && has_frame frames count) ≡ false →
        (is_whole frames count ≡ false → (n : ℕ) × (n < count) × (has_frame frames n ≡ false)) →
        (n : ℕ) × (n < suc count) × (has_frame frames n ≡ false)
    at true is none rest = (count, omega arith, none)
    at false is none rest = let g = rest is in let low = g.1 in (g.0, omega (arith, low), g.2)

pub there_has : (frames : Frames) (last n : ℕ) → all_there frames last ≡ true → n ≤ last → has_frame frames n ≡ true
unfolding all_there
there_has frames last n e below = whole_has frames (suc last) n e (omega (arith, below))

pub there_gap : (frames : Frames) (last : ℕ) → all_there frames last ≡ false → (n : ℕ) × (n ≤ last) × (has_frame frames n ≡ false)
unfolding all_there
there_gap frames last e = let g = gap frames (suc last) e in let low = g.1 in (g.0, omega (arith, low), g.2)

pub leb_of : (n last : ℕ) → nat_lt last n ≡ false → n ≤ last
leb_of n last e = ltb-false last n e

pub leb_so : (n last : ℕ) → n ≤ last → nat_le n last ≡ true
leb_so n last within = search rules

pub ltb_none : (n last : ℕ) → n ≤ last → nat_lt last n ≡ false
ltb_none n last within = search rules
