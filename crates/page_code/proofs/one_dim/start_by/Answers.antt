use Rattle.std.proofs.Common.{arith}
use Rattle.raster.specs.Packed.{bits_of}
use Rattle.page_code.proofs.OneDimension.RowsOn.{sees_end, sees_eols, sees_full, sees_no_rows, sees_none}
use Rattle.page_code.proofs.one_dim.start_by.Goals as goal

pub returns-else-rows-lt-MAX_ROWS : goal.returns-else-rows-lt-MAX_ROWS
returns-else-rows-lt-MAX_ROWS c = rw c.new.ensures (sees_full (bits_of c.args.order c.args.octets.now) c.args.place c.args.rows (omega
    arith)
    (rw c.in-Absent.is at c.requires.eol))

pub returns-then-rows-eq0 : goal.returns-then-rows-eq0
returns-then-rows-eq0 c = rw c.new-then-rows-eq0.ensures (sees_none (bits_of c.args.order c.args.octets.now) c.args.place c.args.rows
    c.if-rows-eq0.true (rw c.in-OnlyZeros.is at c.requires.eol))

pub returns-else-rows-eq0 : goal.returns-else-rows-eq0
returns-else-rows-eq0 c = sees_end (bits_of c.args.order c.args.octets.now) c.args.place c.args.rows (omega arith) (rw c.in-OnlyZeros.is
    at c.requires.eol)

pub returns-then-rows-eq0-2 : goal.returns-then-rows-eq0-2
returns-then-rows-eq0-2 c =
    let sees = rw c.in-Present.is at c.requires.eol in
    rw c.new-then-rows-eq0-2.ensures (sees_no_rows (bits_of c.args.order c.args.octets.now) c.args.place c.args.rows
    sees.0 sees.1 sees.2 c.if-rows-eq0-2.true)

pub returns-else-rows-eq0-2 : goal.returns-else-rows-eq0-2
returns-else-rows-eq0-2 c =
    let sees = rw c.in-Present.is at c.requires.eol in
    sees_eols (bits_of c.args.order c.args.octets.now) c.args.place c.args.rows sees.0
    sees.1 sees.2 c.after_five_eols.result (omega arith) c.after_five_eols.ensures
