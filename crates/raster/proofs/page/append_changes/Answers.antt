use Rattle.std.proofs.Common.{arith, length, sym, ◌≡◌, ◌∙◌}
use Rattle.std.proofs.lemmas.Bool.{eqb-true}
use Rattle.raster.proofs.AlikeLemmas.{black_turning, white_turning}
use Rattle.raster.proofs.page.append_changes.Goals as goal

pub returns-then-is_empty-clause-ok : goal.returns-then-is_empty-clause-ok
returns-then-is_empty-clause-ok c =
    let none : length c.args.places.now ≡ 0 = eqb-true (length c.args.places.now) 0 (sym c.is_empty.ensures ∙ c.if-is_empty.true) in
    rw (← white_turning c.args.places.now c.args.width (omega (arith, none))) c.append_alike.ensures.ok

pub returns-then-width-eq0-clause-ok : goal.returns-then-width-eq0-clause-ok
returns-then-width-eq0-clause-ok c =
    rw (← black_turning c.args.places.now c.args.width (omega arith) (omega arith)) c.append_alike-then-width-eq0.ensures.ok
