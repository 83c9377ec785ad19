use Rattle.std.proofs.Common.{arith, List, slice_set, subst, take, ℕ, ◌≡◌, ◌+◌, ◌-◌, ◌*◌, ◌<◌}
use Rattle.std.proofs.Common.{inl, inr, ◌/◌, ◌%◌, ◌^◌}
use Rattle.std.proofs.lemmas.Bool.{cases_eq, eq-eqb, ne_eqb}
use Rattle.std.specs.Prelude.{slice_index_or}
use Rattle.page_code.specs.TwoDimensions.Modes.{to_left, to_right}
use Rattle.page_code.specs.TwoDimensions.Lines.{FitsLists, Leads, beside, line_before, line_of}
use Rattle.page_code.specs.declared.t6.mode.ModeCode.TheVariants.{Vertical}
use Rattle.page_code.proofs.TwoDimensions.FrontSteps.{room, vertical_fits, vertical_front}
use Rattle.page_code.proofs.t6.front.beside_b1.Goals as goal

-- a1 is a pixel to the right of b1, or to the left of it
a1_beside : (word b1 from : ℕ) → word / 2 ^ 62 ≡ 1 → from < b1 + 2 * (word / 2 ^ 61 % 2)
    → b1 + 2 * (word / 2 ^ 61 % 2) - 1 + to_left (beside word) ≡ b1 + to_right (beside word)
a1_beside word b1 from begun more = elim (cases_eq (word / 2 ^ 61) 3) [
  | inl e ↦ rw (eq-eqb (word / 2 ^ 61) 3 e) (omega (arith, e))
  | inr ne ↦
      let left : word / 2 ^ 61 ≡ 2 = omega (arith, begun, ne) in
      rw (ne_eqb (word / 2 ^ 61) 3 ne) (omega (arith, left, more))
]

pub overflow_add-after : goal.overflow_add-after
overflow_add-after c =
    omega (arith, c.if-b1-width.false, c.requires.fits.wide)

pub index_mut-requires : goal.index_mut-requires
index_mut-requires c = omega (
  arith,
  room c.args.held.now c.args.list.now.items c.args.width c.args.front c.requires.fits c.requires.short c.b1_at-at.result
      c.b1_at-at.ensures.found c.b1_at-at.ensures.even,
)

pub returns-clause-fits : goal.returns-clause-fits
returns-clause-fits c =
    let found = c.b1_at-at.ensures.found in
    let b1 : ℕ = slice_index_or c.args.held.now c.b1_at-at.result 0 in
    let right : ℕ = c.args.word / 2 ^ 61 % 2 in
    let after : ℕ = b1 + 2 * right in
    let one : after - 1 + 1 ≡ after = omega (arith, c.if-after-front.false) in
    let placed : List ℕ = slice_set c.args.list.now.items c.args.front.turns (after - 1) in
    subst (λ (n : ℕ). FitsLists c.args.held.now placed c.args.width (record { from = n; at = c.b1_at-at.result + 1; turns = c.args.front.turns + 1 }))
    one (vertical_fits c.args.held.now c.args.list.now.items c.args.width c.args.front c.requires.fits c.requires.short c.b1_at-at.result found
    c.b1_at-at.ensures.even (after - 1) (c.b1_at-at.result + 1) (omega (arith, c.if-after-front.false)) (omega (arith, c.if-b1-width.false))
    found.within (λ some. let back : c.b1_at-at.result + 1 - 2 ≡ c.b1_at-at.result - 1 = omega arith in
    rw back (omega (
      arith,
      c.requires.fits.apart (c.b1_at-at.result - 1) c.b1_at-at.result (omega arith) (omega (arith, found.within))
          (omega (arith, c.if-b1-width.false)),
    ))) (omega arith))

pub returns-clause-leads : goal.returns-clause-leads
returns-clause-leads c =
    let found = c.b1_at-at.ensures.found in
    let b1 : ℕ = slice_index_or c.args.held.now c.b1_at-at.result 0 in
    let right : ℕ = c.args.word / 2 ^ 61 % 2 in
    let after : ℕ = b1 + 2 * right in
    let one : after - 1 + 1 ≡ after = omega (arith, c.if-after-front.false) in
    let placed : List ℕ = slice_set c.args.list.now.items c.args.front.turns (after - 1) in
    subst (λ (n : ℕ). Leads c.args.held.now (line_of c.args.list.now.items c.args.front) (line_before (take (c.args.front.turns + 1) placed) n)
    (Vertical (beside c.args.word))) one (vertical_front c.args.held.now c.args.list.now.items c.args.width c.args.front c.requires.fits c.requires.short c.b1_at-at.result found
    c.b1_at-at.ensures.even (beside c.args.word) (after - 1)
    (a1_beside c.args.word b1 c.args.front.from c.requires.begun (omega (arith, c.if-after-front.false)))
    (omega (arith, c.if-after-front.false)) (omega (arith, c.if-b1-width.false)))
