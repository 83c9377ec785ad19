use Rattle.std.proofs.Common.{ap, ◌∙◌, Bool, Some, false, true, length, arith}
use Rattle.std.proofs.lemmas.List.{take_more_set}
use Rattle.raster.specs.declared.packed.Order.TheVariants.{MsbFirst}
use Rattle.raster.proofs.AlikeLemmas.{black_places, kept_alike, white_places}
use Rattle.raster.proofs.packed.LentBits.put_changes.Goals as goal

pub returns-then-bit-clause-changes : goal.returns-then-bit-clause-changes
returns-then-bit-clause-changes c =
    rw (
      take_more_set c.args.out.now.items 0 0 (omega (arith, c.requires.room)),
      kept_alike c.self.inside.alike MsbFirst c.self.inside.octets.now
          c.self.inside.count true c.args.self.now c.self.view_is
          (c.in-Some.is ∙ ap (λ (bit : Bool). Some bit) c.if-bit.true),
    )
    (black_places (length c.args.self.now) c.requires.some)

pub returns-clause-changes : goal.returns-clause-changes
returns-clause-changes c =
    rw (kept_alike c.self.inside.alike MsbFirst c.self.inside.octets.now c.self.inside.count false c.args.self.now
    c.self.view_is (c.in-Some.is ∙ ap (λ (bit : Bool). Some bit) c.if-bit.false))
    (white_places (length c.args.self.now))
