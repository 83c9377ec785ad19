use Rattle.std.proofs.Common.{drop}
use Rattle.raster.specs.Packed.{bits_of}
use Rattle.page_code.proofs.OneDimension.OpenRows.{begins_code}
use Rattle.page_code.proofs.one_dim.open_row.code_begins.Goals as goal

pub returns : goal.returns
returns c = begins_code (drop c.args.place (bits_of c.args.order c.args.octets.now)) c.peek_57.result c.zeros_of.result
    (rw c.at-reader.ensures at c.peek_57.ensures) c.zeros_of.ensures
