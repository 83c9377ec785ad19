use Rattle.run_tables.proofs.RowSteps.{row_ended}
use Rattle.run_tables.proofs.reader.BitReader.row_runs.Goals as goal

pub returns-then-room-eq0 : goal.returns-then-room-eq0
returns-then-room-eq0 c = row_ended c.args.width c.args.self.now c.quick_runs.new.self c.quick_runs.new.runs.items c.in_ok-color.color
    c.in_ok-color.room c.if-room-eq0.true c.in_ok-color.ensures
