use Rattle.run_tables.proofs.RowReads.{begun_refuses, begun_memory}
use Rattle.run_tables.proofs.reader.BitReader.read_row_1d_in.Goals as goal

pub returns-in-Err-clause-refuses : goal.returns-in-Err-clause-refuses
returns-in-Err-clause-refuses c = begun_refuses c.args.width c.args.self.now c.place.result c.in-Err.fault c.begun_at.result
    c.begun_at.ensures (rw c.look_ahead-ahead.ensures at c.in-Err.ensures)

pub returns-in-Err-clause-memory : goal.returns-in-Err-clause-memory
returns-in-Err-clause-memory c = rw c.place.ensures.place at (begun_memory c.place.result c.in-Err.fault c.begun_at.result
    c.begun_at.ensures)
