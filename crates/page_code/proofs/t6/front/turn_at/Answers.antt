use Rattle.std.proofs.Common.{ℕ, ◌≡◌, ◌+◌, ◌-◌, ◌<◌, ◌≤◌, ◌++◌, ◌∷◌, [], ◌∙◌, ap, arith, length, sym, take}
use Rattle.std.specs.Prelude.{slice_index_or}
use Rattle.std.proofs.lemmas.List.{get_or_read, get_or-take, length-take-le, take_more, take_more_set}
use Rattle.page_code.proofs.TwoDimensions.Lines.{turn_less, turn_more}
use Rattle.page_code.proofs.t6.front.turn_at.Goals as goal
use Rattle.page_code.proofs.t6.front.turn_at.Goals.{
  else-run-eq0-via-then-run-eq0+then-turns-gt0+else-index-place,
  else-run-eq0-via-then-run-eq0+else-turns-gt0,
}
use Rattle.page_code.proofs.t6.front.turn_at.Goals.{else-run-eq0-via-else-run-eq0}

pub returns-then-index-place-clause-turns : goal.returns-then-index-place-clause-turns
returns-then-index-place-clause-turns c =
    let items = c.args.list.now.items in
    let before = c.args.turns - 1 in
    let inside : before < length items = omega (arith, c.requires.room) in
    let next : before + 1 ≡ c.args.turns = omega (arith, c.if-turns-gt0.true) in
    let last : slice_index_or items before 0 ≡ c.args.place = sym (get_or_read items before c.index.result.now inside c.index.ensures 0) ∙
    c.if-index-place.true in
    let split : take c.args.turns items ≡ take before items ++ c.args.place ∷ [] = ap (λ (n : ℕ). take n items) (sym next) ∙
    (take_more items before 0 inside ∙ ap (λ (p : ℕ). take before items ++ p ∷ []) last) in
    rw split (turn_less (take before items) c.args.place (rw split at c.requires.rising) (λ k d h. let most =
    (rw split at c.requires.below) k d h in omega arith))

pub returns-clause-turns : goal.returns-clause-turns
returns-clause-turns c =
    let turns = c.args.turns in
    let places = take turns c.args.list.now.items in
    let long : length places ≡ turns = length-take-le turns c.args.list.now.items (omega (arith, c.requires.room)) in
    rw (take_more_set c.args.list.now.items turns c.args.place c.requires.room) (turn_more places c.args.place c.requires.rising
    (λ k d h. let most = c.requires.below k d h in omega arith) (λ some. elim c.else-run-eq0.branch [
      | else-run-eq0-via-then-run-eq0+then-turns-gt0+else-index-place w ↦
          let items = c.args.list.now.items in
          let before : turns - 1 ≡ length places - 1 = omega (arith, long) in
          let inside : turns - 1 < length items = omega (arith, c.requires.room) in
          let same : slice_index_or places (length places - 1) 0 ≡ slice_index_or items (turns - 1) 0 =
          ap (λ (i : ℕ). slice_index_or places i 0) (sym before) ∙ get_or-take turns items (turns - 1) 0 (omega (
            arith,
            w.if-turns-gt0.true,
          )) in
          λ e. w.if-index-place.false (get_or_read items (turns - 1) w.index.result.now inside w.index.ensures 0 ∙ (sym same ∙ e))
      | else-run-eq0-via-then-run-eq0+else-turns-gt0 w ↦ absurd (omega (arith, w.if-turns-gt0.false))
      | else-run-eq0-via-else-run-eq0 w ↦
          let within : length places - 1 < length places = omega arith in
          let less : slice_index_or places (length places - 1) 0 + c.args.run ≤ c.args.place = c.requires.below
          (length places - 1) 0 within in
          λ e. absurd (omega (arith, less, e, w.if-run-eq0.false))
    ]))
