use Rattle.std.proofs.Common.{◌∙◌, ap, Bool, Some, false, true, length}
use Rattle.raster.specs.declared.packed.Order.TheVariants.{MsbFirst}
use Rattle.raster.proofs.AlikeLemmas.{black_changes, kept_alike, white_changes}
use Rattle.raster.proofs.packed.LentBits.changes.Goals as goal

pub returns-else-bit-clause-ok : goal.returns-else-bit-clause-ok
returns-else-bit-clause-ok c =
    rw (kept_alike c.self.inside.alike MsbFirst c.self.inside.octets.now c.self.inside.count false c.args.self.now
    c.self.view_is (c.in-Some.is ∙ ap (λ (bit : Bool). Some bit) c.if-bit.false))
    (white_changes (length c.args.self.now) c.args.out.now.items)

pub returns-in_ok-push-clause-ok : goal.returns-in_ok-push-clause-ok
returns-in_ok-push-clause-ok c =
    rw (
      c.in_ok-push.ensures.items,
      kept_alike c.self.inside.alike MsbFirst c.self.inside.octets.now
          c.self.inside.count true c.args.self.now c.self.view_is
          (c.in-Some.is ∙ ap (λ (bit : Bool). Some bit) c.if-bit.true),
    )
    (black_changes (length c.args.self.now) c.args.out.now.items c.requires.some)
