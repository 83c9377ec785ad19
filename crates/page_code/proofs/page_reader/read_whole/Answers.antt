-- What the check asks of `read_whole`.
use Rattle.raster.specs.Packed.{bits_of}
use Rattle.page_code.proofs.OneDimension.Repairs.{not_memory}
use Rattle.page_code.proofs.PageReads.{page_read, page_refused, rows_before}
use Rattle.page_code.proofs.page_reader.read_whole.Goals as goal

pub returns-in-Ok : goal.returns-in-Ok
returns-in-Ok c = page_read c.args.coding (bits_of c.args.order c.args.octets.now) c.args.progress c.read_rows_on.new.to c.in-Ok.used
    c.requires.width c.in-Ok.ensures

pub returns-else-is_memory : goal.returns-else-is_memory
returns-else-is_memory c =
    let bits = bits_of c.args.order c.args.octets.now in
    let other = not_memory c.is_memory.result c.in-Err.fault.kind c.is_memory.ensures c.if-is_memory.false in
    rw (c.len.ensures.length, c.rows.ensures.rows) (
      page_refused c.args.coding bits c.args.progress c.read_rows_on.new.to c.in-Err.fault c.requires.width other c.in-Err.ensures,
      rows_before c.args.coding bits c.args.progress c.read_rows_on.new.to c.in-Err.fault c.requires.width other c.in-Err.ensures,
    )
