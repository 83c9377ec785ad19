use Rattle.std.proofs.Common.{length, arith}
use Rattle.raster.proofs.PbmPieces.{filled_more, keeps_none}
use Rattle.raster.proofs.pbm.fill.Goals as goal
use Rattle.raster.proofs.pbm.fill.Goals.{in-Ok, in-Err}

pub loop-preserved : goal.loop-preserved
loop-preserved g c =
    elim c.match-read.branch [
      | in-Ok w ↦
          filled_more (g.R.Read.remaining c.args.reader.now) (g.R.Read.remaining c.loop.reader) (g.R.Read.remaining c.read.new.self)
          (length c.args.octets.now) c.loop.octets c.read.new.buf c.loop.count w.in-Ok.more c.match-read.count c.loop.invariant
          (omega (arith, c.read.auto.buf, c.loop.invariant.within)) w.in-Ok.ensures.bound.0 w.count-is w.in-Ok.ensures.bytes.0
      | in-Err w ↦
          filled_more (g.R.Read.remaining c.args.reader.now) (g.R.Read.remaining c.loop.reader) (g.R.Read.remaining c.read.new.self)
          (length c.args.octets.now) c.loop.octets c.read.new.buf c.loop.count 0 c.match-read.count c.loop.invariant
          (omega (arith, c.read.auto.buf, c.loop.invariant.within)) (omega arith) (omega (arith, w.count-is))
          (keeps_none (g.R.Read.remaining c.loop.reader) (g.R.Read.remaining c.read.new.self) w.in-Err.ensures.bytes)
    ]
