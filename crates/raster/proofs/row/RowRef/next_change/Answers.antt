use Rattle.std.proofs.Common.{arith, sym, ap, refl, ◌∙◌, ◌≡◌, ◌+◌, ◌-◌}
use Rattle.raster.specs.Changes.{color_before}
use Rattle.raster.specs.Pixels.{colors, color_of}
use Rattle.raster.proofs.RowLemmas.{next_from, before_next, slice_get-colors}
use Rattle.raster.proofs.row.RowRef.next_change.Goals as goal
use Rattle.raster.proofs.row.RowRef.next_change.Goals.{then-from-gt0, else-from-gt0}

pub returns : goal.returns
returns c =
    let begins : color_before (colors c.self.inside.pixels) c.args.from ≡ color_of c.if-from-gt0.before =
    elim c.if-from-gt0.branch [
      | then-from-gt0 w ↦
          let back : c.args.from - 1 + 1 ≡ c.args.from = omega arith in
          rw w.before-is (sym (before_next (colors c.self.inside.pixels) (c.args.from - 1) (color_of w.bit-before.result)
          (slice_get-colors c.self.inside.pixels (c.args.from - 1) w.bit-before.result w.bit-before.ensures)
          ∙ ap (color_before (colors c.self.inside.pixels)) back))
      | else-from-gt0 w ↦
          let none : c.args.from ≡ 0 = omega arith in
          rw (w.before-is, none) refl
    ] in
    rw (← c.self.view_is) (next_from c.self.inside.pixels c.args.from c.first_other.result c.if-from-gt0.before begins
    c.first_other.ensures)
