use Rattle.std.proofs.Common.{arith, ◌≡◌, ◌-◌, ◌%◌}
use Rattle.raster.proofs.PaintingLemmas.{drawn_turned}
use Rattle.raster.proofs.painting.turn_within.Goals as goal

pub returns-clause-drawn : goal.returns-clause-drawn
returns-clause-drawn c octets k =
    let within : c.args.place % 64 ≡ c.args.place - (c.args.brush.end - 64) =
    omega (arith, c.requires.begun, c.requires.aligned, c.requires.low, c.requires.high) in
    rw within
    (drawn_turned octets (c.args.brush.end - 64) c.args.brush.word c.args.place k
    (omega (arith, c.requires.low)) (omega (arith, c.requires.begun, c.requires.high)))
