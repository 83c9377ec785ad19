-- The stuffed text of a content and its check sequence between flags is a frame.
use Rattle.std.proofs.Common.{◌≡◌, ℕ, ◌+◌, ◌-◌, ◌*◌, ◌/◌, ◌%◌, ◌<◌, ◌≤◌, Bool, true, false, List, [], ◌∷◌, ◌++◌, length, take, drop, map}
use Rattle.std.proofs.Common.{cond, refl, ap, sym, ◌∙◌, arith, nat_eq, nat_lt, append_assoc}
use Rattle.std.specs.List.{range_with_len, filter, count_by}
use Rattle.std.specs.Cmp.Lexicographic.{pointwise}
use Rattle.std.proofs.lemmas.List.{length-append, length-map, drop_at, take_at}
use Rattle.std.proofs.lemmas.List.FromFn.{length-range_with_len}
use Rattle.std.proofs.lemmas.List.Sums.{length-filter, count_by-le-length}
use Rattle.std.proofs.lemmas.Bool.{eq-eqb, le-ltb}
use Rattle.hdlc.specs.declared.counts.Class.TheVariants.{Good}
use Rattle.raster.specs.Packed.{bits_of}
use Rattle.raster.specs.declared.packed.Order.TheVariants.{LsbFirst}
use Rattle.raster.specs.Octets.{octets_of, AreOctets}
use Rattle.raster.proofs.OctetLemmas.{bits_of-append, octets_back, are_octets-append}
use Rattle.raster.proofs.PackedLemmas.{length-bits_in}
use Rattle.hdlc.specs.Fcs.{check_octets, fcs_of}
use Rattle.hdlc.specs.Flags.{flag, gaps}
use Rattle.hdlc.specs.Gaps.{unstuffed, class_of, is_class, content as content_of, checks, octets_in, ones_before}
use Rattle.hdlc.specs.Frames.{IsFrame}
use Rattle.hdlc.specs.Writing.{Written, IsWriting}
use Rattle.hdlc.proofs.Division.{check_octets_are}
use Rattle.hdlc.proofs.Written.{closes_written}

same_itself : (xs : List ℕ) → pointwise nat_eq xs xs ≡ true
same_itself [] = refl
same_itself (x ∷ xs) = rw (eq-eqb x x refl) (same_itself xs)

-- a text of a content with its check sequence, between flags, is a frame
pub written_frame : (octets sent : List ℕ) (body : List Bool) (count : ℕ) → Written body (bits_of LsbFirst (octets ++ sent)) count
    → count ≤ 4 → 8 ≤ length body → sent ≡ check_octets octets → length sent ≡ 2 → AreOctets (octets ++ sent) → 3 ≤ length octets
    → length octets ≤ 300 → IsFrame octets (flag ++ body ++ flag)
written_frame octets sent body count w few long is two small least most =
    let all : List ℕ = octets ++ sent in
    let size : length all ≡ length octets + length sent = length-append octets sent in
    let bits : octets_in body ≡ all = ap octets_of w.unstuffed ∙ octets_back all small in
    let n : length all - 2 ≡ length octets = omega arith in
    let whole : nat_eq (length (unstuffed body) % 8) 0 ≡ true =
    rw w.unstuffed (eq-eqb (length (bits_of LsbFirst all) % 8) 0 (let e : length (bits_of LsbFirst all) ≡ 8 * length all =
    length-bits_in LsbFirst all (8 * length all) in omega arith)) in
    let not_short : nat_lt (length all) 5 ≡ false = le-ltb (length all) 5 (omega arith) in
    let not_long : nat_lt 302 (length all) ≡ false = le-ltb 302 (length all) (omega arith) in
    let front : take (length all - 2) all ≡ octets = ap (λ k. take k all) n ∙ take_at octets sent (length octets) refl in
    let back : drop (length all - 2) all ≡ sent = ap (λ k. drop k all) n ∙ drop_at octets sent (length octets) refl in
    let right : checks all ≡ true = rw (front, back, ← is) (same_itself sent) in
    let class : class_of body ≡ Good = rw (w.six, whole, bits, not_short, not_long, right) refl in
    let content_is : content_of body ≡ octets = rw bits front in
    let only : gaps (flag ++ body ++ flag) ≡ body ∷ [] = closes_written body (bits_of LsbFirst all) count w few long in
    record {
      body = body;
      is = refl;
      only = only;
      holds =
          ap (λ gs. map content_of (filter (λ gap. is_class Good (class_of gap)) gs)) only ∙
          (ap (λ c. map content_of (cond (is_class Good c) (body ∷ []) [])) class ∙ ap (λ c. c ∷ []) content_is);
      sent = rw (← is) w.unstuffed;
      stuffed = rw w.ends few;
    }

pub length-unstuffed : (gap : List Bool) → length (unstuffed gap) ≤ length gap
unfolding unstuffed
length-unstuffed gap =
    let places : List ℕ = range_with_len 0 (length gap) in
    let test : ℕ → Bool = λ place. nat_lt (ones_before gap place) 5 in
    let few : count_by test places ≤ length places = count_by-le-length test places in
    let size : length places ≡ length gap = length-range_with_len 0 (length gap) in
    rw (length-map, length-filter) (omega arith)

-- what a writer has once the closing flag is written
pub whole_frame : (old all new : List Bool) (octets sent : List ℕ) (count f : ℕ)
    → IsWriting all old (bits_of LsbFirst octets ++ bits_of LsbFirst sent) count → new ≡ all ++ flag → f ≡ fcs_of octets → f < 65536
    → sent ≡ f % 256 ∷ f / 256 ∷ [] → AreOctets octets → 3 ≤ length octets → length octets ≤ 300 → (frame : List Bool)
    × IsFrame octets frame × (new ≡ old ++ frame)
whole_frame old all new octets sent count f w is fcs fits two small least most =
    let body : List Bool = w.pre in
    let text : Written body (bits_of LsbFirst (octets ++ sent)) count = rw (bits_of-append LsbFirst octets sent) w.text in
    let check : sent ≡ check_octets octets = two ∙ (ap (λ n. n % 256 ∷ n / 256 ∷ []) fcs ∙ sym (check_octets_are octets)) in
    let size : length sent ≡ 2 = ap length two in
    let low : f % 256 < 256 = omega arith in
    let high : f / 256 < 256 = omega arith in
    let pair : AreOctets (f % 256 ∷ f / 256 ∷ []) = (low, (high, tt)) in
    let few_octets : AreOctets (octets ++ sent) = are_octets-append octets sent small (rw two pair) in
    let kept : length (unstuffed body) ≤ length body = length-unstuffed body in
    let bits : length (unstuffed body) ≡ 8 * length (octets ++ sent) =
    ap length text.unstuffed ∙ length-bits_in LsbFirst (octets ++ sent) (8 * length (octets ++ sent)) in
    let both : length (octets ++ sent) ≡ length octets + length sent = length-append octets sent in (
      flag ++ body ++ flag,
      written_frame octets sent body count text w.few (omega arith) check size few_octets least most,
      is
          ∙ (ap (λ xs. xs ++ flag) w.is ∙ three old flag body flag),
    )
  where
    three : (a b c d : List Bool) → (a ++ b ++ c) ++ d ≡ a ++ (b ++ c ++ d)
    three a b c d = simp append_assoc
