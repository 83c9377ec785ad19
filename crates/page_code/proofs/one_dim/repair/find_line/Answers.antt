-- What the check asks of `find_line`.
use Rattle.std.proofs.Common.{◌≤◌, ◌*◌, arith, length}
use Rattle.raster.specs.Packed.{bits_of}
use Rattle.raster.proofs.PackedLemmas.{length-bits_in}
use Rattle.page_code.proofs.OneDimension.Repairs.{end_within, finds_no_end, finds_refused, finds_row, not_memory}
use Rattle.page_code.proofs.one_dim.repair.find_line.Goals as goal

pub row_end-requires : goal.row_end-requires
row_end-requires c =
    let within : c.place-end.result ≤ length (bits_of c.args.order c.args.octets.now) = end_within (bits_of c.args.order c.args.octets.now)
    c.args.place c.args.width c.at-reader.result c.at-reader.ensures c.read_row_1d.new.self c.in-Ok.row c.place-end.result
    c.in-Ok.ensures.reads c.place-end.ensures.within in
    omega (arith, within, length-bits_in c.args.order c.args.octets.now (8 * length c.args.octets.now))

pub returns-in-Some : goal.returns-in-Some
returns-in-Some c = finds_row (bits_of c.args.order c.args.octets.now) c.args.place c.args.width c.at-reader.result c.at-reader.ensures
    c.read_row_1d.new.self c.in-Ok.row c.place-end.result c.in-Some.next c.in-Ok.ensures.reads c.place-end.ensures.place c.in-Some.ensures

pub returns-in-None : goal.returns-in-None
returns-in-None c = finds_no_end (bits_of c.args.order c.args.octets.now) c.args.place c.args.width c.at-reader.result c.at-reader.ensures
    c.read_row_1d.new.self c.in-Ok.row c.place-end.result c.in-Ok.ensures.reads c.place-end.ensures.place c.in-None.ensures

pub returns-else-is_memory : goal.returns-else-is_memory
returns-else-is_memory c = finds_refused (bits_of c.args.order c.args.octets.now) c.args.place c.args.width c.at-reader.result
    c.at-reader.ensures c.in-Err.fault (c.in-Err.ensures.refuses (not_memory c.is_memory.result c.in-Err.fault.kind c.is_memory.ensures
    c.if-is_memory.false))
