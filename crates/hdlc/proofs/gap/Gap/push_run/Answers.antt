use Rattle.std.proofs.Common.{◌≡◌, ◌≤◌, ◌<◌, ◌+◌, ◌-◌, ◌++◌, ◌∷◌, [], ℕ, suc, List, Bool, length, take, drop, get_or, refl, ap, sym, ◌∙◌, arith}
use Rattle.std.proofs.Common.{subst, append_assoc}
use Rattle.std.proofs.Math.Seq.{take-add}
use Rattle.std.proofs.lemmas.List.{length-drop, take-append-drop, take_all}
use Rattle.raster.specs.Packed.{bits_of}
use Rattle.raster.specs.declared.packed.Order.TheVariants.{LsbFirst}
use Rattle.raster.proofs.OctetLemmas.{bits_of-append}
use Rattle.hdlc.specs.EightBits.{four}
use Rattle.hdlc.specs.Gathers.{Gathers}
use Rattle.hdlc.proofs.BitPlaces.{octets-none}
use Rattle.hdlc.proofs.GatheringLemmas.{ends, many_octets, take_four}
use Rattle.hdlc.proofs.PlainOctets.{four_of}
use Rattle.hdlc.proofs.QuietRuns.{take_next}
use Rattle.hdlc.proofs.gap.Gap.push_run.Goals as goal

-- octets come after others
more : (gap : List Bool) (xs ys : List ℕ) → (gap ++ bits_of LsbFirst xs) ++ bits_of LsbFirst ys ≡ gap ++ bits_of LsbFirst (xs ++ ys)
more gap xs ys =
    append_assoc gap (bits_of LsbFirst xs) (bits_of LsbFirst ys) ∙ ap (λ bits. gap ++ bits) (sym (bits_of-append LsbFirst xs ys))

three : (os : List ℕ) → 3 ≤ length os → take 3 os ≡ get_or os 0 0 ∷ get_or os 1 0 ∷ get_or os 2 0 ∷ []
three os h =
    take_next os 0 1 2 (omega arith) refl ∙ ap (λ r. get_or os 0 0 ∷ r)
    (take_next os 1 2 1 (omega arith) refl ∙ ap (λ r. get_or os 1 0 ∷ r) (take_next os 2 3 0 (omega arith) refl))

-- the next four
step : (gap : List Bool) (first at word : ℕ) (octets : List ℕ) → 3 ≤ at → four word ≡ take 4 (drop (at - 3) (first ∷ octets))
    → (gap ++ bits_of LsbFirst (take (at - 3) (first ∷ octets))) ++ bits_of LsbFirst (four word)
    ≡ gap ++ bits_of LsbFirst (first ∷ take at octets)
step gap first at word octets least next =
    let place : at - 3 + 4 ≡ suc at = omega arith in
    more gap (take (at - 3) (first ∷ octets)) (four word)
    ∙ ap (λ os. gap ++ bits_of LsbFirst os) (ap (λ r. take (at - 3) (first ∷ octets) ++ r) next
    ∙ (sym (take-add (at - 3) 4 (first ∷ octets)) ∙ ap (λ k. take k (first ∷ octets)) place))

pub loop-at-init : goal.loop-at-init
loop-at-init c =
    let octets : List ℕ = c.args.octets.now in
    let small : (k : ℕ) → get_or octets k 0 < 256 = λ k. omega (arith, c.type_inv.octets k) in
    record {
      least = omega arith;
      within = omega arith;
      few = omega (arith, c.gathering-state.ensures.few);
      sound = c.gathering-state.ensures.sound;
      next =
          four_of c.args.first (get_or octets 0 0) (get_or octets 1 0) (get_or octets 2 0) c.from_le_bytes-word.result (omega arith) (small 0)
          (small 1) (small 2) (c.from_le_bytes-word.ensures ∙ omega arith)
          ∙ ap (λ r. c.args.first ∷ r) (sym (three octets (omega arith)));
      taken = λ gap old. rw (octets-none gap) (c.gathering-state.ensures.gathers gap old);
    }

pub loop-at-preserved : goal.loop-at-preserved
loop-at-preserved c =
    let octets : List ℕ = c.args.octets.now in
    let at : ℕ = c.loop-at.at in
    let o : ℕ → ℕ = λ k. get_or octets k 0 in
    let small : (k : ℕ) → o k < 256 = λ k. omega (arith, c.type_inv.octets k) in
    let place : at + 4 - 3 ≡ suc at = omega arith in
    record {
      least = omega arith;
      within = omega arith;
      few = c.gather_four-state.ensures.few;
      sound = c.gather_four-state.ensures.sound;
      next =
          four_of (o at) (o (at + 1)) (o (at + 2)) (o (at + 3)) c.from_le_bytes-word-in-loop-at.result (small at) (small (at + 1)) (small (at + 2))
          (small (at + 3)) (c.from_le_bytes-word-in-loop-at.ensures ∙ omega arith)
          ∙ (sym (take_four octets at (omega arith)) ∙ ap (λ k. take 4 (drop k (c.args.first ∷ octets))) (sym place));
      taken = λ gap old.
          subst (Gathers c.gather_four-state.new.buffer c.gather_four-state.result)
          (step gap c.args.first at c.loop-at.word octets c.loop-at.invariant.least c.loop-at.invariant.next
          ∙ ap (λ k. gap ++ bits_of LsbFirst (take k (c.args.first ∷ octets))) (sym place))
          (c.gather_four-state.ensures.gathers _ (c.loop-at.invariant.taken gap old));
    }

pub returns : goal.returns
returns c gap old =
    let octets : List ℕ = c.args.octets.now in
    let at : ℕ = c.loop-at.at in
    let rest : List ℕ = take (length octets - at) (drop at octets) in
    let whole : take at octets ++ rest ≡ octets =
    ap (λ xs. take at octets ++ xs) (take_all (length octets - at) (drop at octets) (rw length-drop (omega arith)))
    ∙ take-append-drop at octets in
    let four_more = subst (Gathers c.gather_four-state.new.buffer c.gather_four-state.result)
    (step gap c.args.first at c.loop-at.word octets c.loop-at.invariant.least c.loop-at.invariant.next)
    (c.gather_four-state.ensures.gathers _ (c.loop-at.invariant.taken gap old)) in
    let all = subst (Gathers c.drained-last.new.buffer c.drained-last.result)
    (more gap (c.args.first ∷ take at octets) rest ∙ ap (λ os. gap ++ bits_of LsbFirst (c.args.first ∷ os)) whole)
    (c.drained-last.ensures.gathers _ (c.gather_few-all.ensures.gathers c.gather_four-state.new.buffer _ four_more)) in
    rw (c.end.ensures)
    (ends c.drained-last.new.buffer _ c.drained-last.result _ all (many_octets gap (c.args.first ∷ octets) (omega arith))
    c.drained-last.ensures.few refl refl refl c.pending.ensures.part c.pending.ensures.window refl refl)
