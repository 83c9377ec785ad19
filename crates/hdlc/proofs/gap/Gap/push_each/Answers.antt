use Rattle.std.proofs.Common.{◌≤◌, ◌++◌, ◌∷◌, [], length, arith, subst, ◌∙◌}
use Rattle.raster.specs.Packed.{bits_of}
use Rattle.raster.specs.declared.packed.Order.TheVariants.{LsbFirst}
use Rattle.hdlc.specs.Collects.{Collects}
use Rattle.hdlc.proofs.BitPlaces.{octets-none, octets-next, octets-all}
use Rattle.hdlc.proofs.QuietRuns.{joined}
use Rattle.hdlc.proofs.gap.Gap.push_each.Goals as goal

pub loop-octet-init : goal.loop-octet-init
loop-octet-init c gap old = rw (octets-none (gap ++ bits_of LsbFirst (c.args.first ∷ []))) (c.push_octet.ensures gap old)

pub loop-octet-preserved : goal.loop-octet-preserved
loop-octet-preserved c gap old =
    rw (octets-next (gap ++ bits_of LsbFirst (c.args.first ∷ [])) c.args.octets.now c.loop-octet.octet-index 0 (omega arith))
    (c.push_octet-in-loop-octet.ensures _ (c.loop-octet.invariant gap old))

pub returns : goal.returns
returns c gap old =
    let past : length c.args.octets.now ≤ c.loop-octet.octet-index = omega arith in
    subst (Collects c.loop-octet.self) (octets-all (gap ++ bits_of LsbFirst (c.args.first ∷ [])) c.args.octets.now c.loop-octet.octet-index past
    ∙ joined gap c.args.first c.args.octets.now) (c.loop-octet.invariant gap old)
