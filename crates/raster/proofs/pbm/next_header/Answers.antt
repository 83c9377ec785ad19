use Rattle.std.proofs.Common.{◌+◌, ◌-◌, length, arith}
use Rattle.raster.proofs.PbmPieces.{filled_part}
use Rattle.raster.proofs.pbm.next_header.Goals as goal

pub returns-in-Ok-default-empty-clause-read : goal.returns-in-Ok-default-empty-clause-read
returns-in-Ok-default-empty-clause-read g c =
    (filled_part (g.R.Read.remaining c.args.reader.now) (g.R.Read.remaining c.loop-count.reader) (g.R.Read.remaining c.fill.new.reader)
    (length c.args.head.now) c.loop-count.head c.fill.new.octets (c.loop-count.count + 1 - c.loop-count.count) c.loop-count.count
    c.in_ok-fill.field-0 (c.loop-count.count + 1) c.loop-count.invariant (omega (arith, c.fill.auto.octets)) (omega (
      arith,
      c.loop-count-test.true,
      c.loop-count.invariant.long,
    )) (omega (arith, c.in_ok-fill.ensures.within, c.fill.auto.octets)) (omega (
      arith,
      c.in_ok-fill.ensures.within,
      c.fill.auto.octets,
      c.if-branch-eq0.false,
    )) c.in_ok-fill.ensures.read).read

pub loop-count-preserved : goal.loop-count-preserved
loop-count-preserved g c =
    filled_part (g.R.Read.remaining c.args.reader.now) (g.R.Read.remaining c.loop-count.reader) (g.R.Read.remaining c.fill.new.reader)
    (length c.args.head.now) c.loop-count.head c.fill.new.octets (c.loop-count.count + 1 - c.loop-count.count) c.loop-count.count
    c.in_ok-fill.field-0 (c.loop-count.count + 1) c.loop-count.invariant (omega (arith, c.fill.auto.octets)) (omega (
      arith,
      c.loop-count-test.true,
      c.loop-count.invariant.long,
    )) (omega (arith, c.in_ok-fill.ensures.within, c.fill.auto.octets)) (omega (
      arith,
      c.in_ok-fill.ensures.within,
      c.fill.auto.octets,
      c.if-branch-eq0.false,
    )) c.in_ok-fill.ensures.read
