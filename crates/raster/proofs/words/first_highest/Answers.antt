use Rattle.std.proofs.Common.{arith, ap, ◌∙◌, ◌≡◌, ◌%◌}
use Rattle.std.specs.Int.{bit_at}
use Rattle.raster.proofs.WordLemmas.{bit_at_turned8}
use Rattle.raster.proofs.words.first_highest.Goals as goal

pub returns-in-LsbFirst : goal.returns-in-LsbFirst
returns-in-LsbFirst c k h =
    let e : k ≡ k % 8 = omega arith in
    rw (c.in-LsbFirst.is, c.turned.ensures) (bit_at_turned8 c.args.octet k h ∙ ap (bit_at c.args.octet) e)
