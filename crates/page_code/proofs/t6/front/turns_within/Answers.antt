use Rattle.std.proofs.Common.{ℕ, ◌≡◌, ◌+◌, ◌-◌, ◌<◌, ◌++◌, ◌∷◌, [], ◌∙◌, ap, arith, length, sym, take}
use Rattle.std.specs.Prelude.{slice_index_or}
use Rattle.std.proofs.lemmas.List.{get_or_read, get_or-take, length-take-le, take_more}
use Rattle.raster.specs.declared.row.Color.TheVariants.{White}
use Rattle.raster.proofs.TurningLemmas.{turning_turn}
use Rattle.page_code.proofs.TwoDimensions.Lines.{within_all, within_less}
use Rattle.page_code.proofs.t6.front.turns_within.Goals as goal
use Rattle.page_code.proofs.t6.front.turns_within.Goals.{
  else-turns-gt0-via-then-turns-gt0+else-index-width,
  else-turns-gt0-via-else-turns-gt0,
}

pub returns-then-index-width-clause-left : goal.returns-then-index-width-clause-left
returns-then-index-width-clause-left c =
    let items = c.args.list.now.items in
    let before = c.args.turns - 1 in
    let inside : before < length items = omega (arith, c.requires.room, c.if-turns-gt0.true) in
    let next : before + 1 ≡ c.args.turns = omega (arith, c.if-turns-gt0.true) in
    let last : slice_index_or items before 0 ≡ c.args.width = sym (get_or_read items before c.index.result.now inside c.index.ensures 0) ∙
    c.if-index-width.true in
    let split : take c.args.turns items ≡ take before items ++ c.args.width ∷ [] = ap (λ (n : ℕ). take n items) (sym next) ∙
    (take_more items before 0 inside ∙ ap (λ (p : ℕ). take before items ++ p ∷ []) last) in
    within_less (take before items) c.args.width (rw split at c.requires.left)

pub returns-then-index-width-clause-pixels : goal.returns-then-index-width-clause-pixels
returns-then-index-width-clause-pixels c =
    let items = c.args.list.now.items in
    let before = c.args.turns - 1 in
    let inside : before < length items = omega (arith, c.requires.room, c.if-turns-gt0.true) in
    let next : before + 1 ≡ c.args.turns = omega (arith, c.if-turns-gt0.true) in
    let last : slice_index_or items before 0 ≡ c.args.width = sym (get_or_read items before c.index.result.now inside c.index.ensures 0) ∙
    c.if-index-width.true in
    let split : take c.args.turns items ≡ take before items ++ c.args.width ∷ [] = ap (λ (n : ℕ). take n items) (sym next) ∙
    (take_more items before 0 inside ∙ ap (λ (p : ℕ). take before items ++ p ∷ []) last) in
    rw split (sym (turning_turn White 0 (take before items) c.args.width))

pub returns-clause-left : goal.returns-clause-left
returns-clause-left c =
    let turns = c.args.turns in
    let items = c.args.list.now.items in
    let places = take turns items in
    let long : length places ≡ turns = length-take-le turns items c.requires.room in
    within_all places c.args.width c.requires.left (λ some. elim c.else-turns-gt0.branch [
      | else-turns-gt0-via-then-turns-gt0+else-index-width w ↦
          let before : turns - 1 ≡ length places - 1 = omega (arith, long) in
          let inside : turns - 1 < length items = omega (arith, c.requires.room, w.if-turns-gt0.true) in
          let same : slice_index_or places (length places - 1) 0 ≡ slice_index_or items (turns - 1) 0 =
          ap (λ (i : ℕ). slice_index_or places i 0) (sym before) ∙ get_or-take turns items (turns - 1) 0 (omega (
            arith,
            w.if-turns-gt0.true,
          )) in
          λ e. w.if-index-width.false (get_or_read items (turns - 1) w.index.result.now inside w.index.ensures 0 ∙ (sym same ∙ e))
      | else-turns-gt0-via-else-turns-gt0 w ↦ absurd (omega (arith, w.if-turns-gt0.false))
    ])
