-- What the check asks of `decode_in`.
use Rattle.raster.specs.Packed.{bits_of}
use Rattle.page_code.specs.Codings.{read_rows}
use Rattle.page_code.proofs.GivesPage.{begun_memory, gives_begun}
use Rattle.page_code.proofs.PageReaders.{read_none}
use Rattle.page_code.proofs.coding.decode_in.Goals as goal

pub read_to_end-requires-clause-read : goal.read_to_end-requires-clause-read
read_to_end-requires-clause-read c = rw c.new-begun.ensures (read_none c.args.coding c.args.width (bits_of c.args.order c.args.octets.now))

pub returns-in-Ok-clause-gives : goal.returns-in-Ok-clause-gives
returns-in-Ok-clause-gives c = rw c.new-begun.ensures at c.in-Ok.ensures

pub returns-in-Err-clause-gives : goal.returns-in-Err-clause-gives
returns-in-Err-clause-gives c = gives_begun (read_rows c.args.coding c.args.width (bits_of c.args.order c.args.octets.now)) c.args.width 0
    c.args.fine c.in-Err.fault c.begun_at.result c.begun_at.ensures (rw c.new-begun.ensures at c.in-Err.ensures)

pub returns-in-Err-clause-memory : goal.returns-in-Err-clause-memory
returns-in-Err-clause-memory c = begun_memory 0 c.in-Err.fault c.begun_at.result c.begun_at.ensures
