use Rattle.page_code.proofs.OneDimension.RowsWords.{eol_written}
use Rattle.page_code.proofs.one_dim.write_rtc.Goals as goal

pub loop-preserved : goal.loop-preserved
loop-preserved c = eol_written c.args.bits.now c.loop.bits c.write_eol.new.self c.loop.counter c.loop.invariant c.in_ok-write_eol.ensures.ok
