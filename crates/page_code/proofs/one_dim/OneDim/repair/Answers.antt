-- What the check asks of `OneDim::repair`.
use Rattle.std.proofs.Common.{◌<◌, ap, arith, inl, length}
use Rattle.raster.specs.Packed.{bits_of}
use Rattle.page_code.proofs.OneDimension.RepairLaws.{begun, no_row, reads_no_page, whole_err, whole_ok}
use Rattle.page_code.proofs.one_dim.OneDim.repair.Goals as goal

pub returns-in-Err-clause-whole : goal.returns-in-Err-clause-whole
returns-in-Err-clause-whole c = λ rows used reads.
    whole_err c.args.width (bits_of c.args.order c.args.octets.now) c.requires c.begun_at.result rows used (begun c.args.width (bits_of
    c.args.order c.args.octets.now) c.requires c.in-Err.fault c.begun_at.result c.begun_at.ensures c.in-Err.ensures) reads

pub returns-then-len-clause-whole : goal.returns-then-len-clause-whole
returns-then-len-clause-whole c = λ rows used reads.
    whole_ok c.args.width (bits_of c.args.order c.args.octets.now) c.requires c.in-Ok.given.page.rows c.in-Ok.given.repaired.items rows used
    c.in-Ok.ensures.2 reads

pub unreachable-requires : goal.unreachable-requires
unreachable-requires c =
    let all : ¬ (length c.in-Ok.given.repaired.items < length c.in-Ok.given.page.rows) = λ few. omega (
      arith,
      few,
      c.len.ensures,
      c.len-2.ensures.length,
      ap length c.rows.ensures.rows,
      c.if-len.false,
    ) in
    reads_no_page c.args.width (bits_of c.args.order c.args.octets.now) c.requires c.in-Ok.given.page.rows c.in-Ok.given.repaired.items
    c.in-Ok-decode.field-0.0.rows c.in-Ok-decode.field-0.1 c.in-Ok.ensures.2 all c.in-Ok-decode.ensures.reads.reads

pub returns-clause-refuses : goal.returns-clause-refuses
returns-clause-refuses c = λ other.
    let all : ¬ (length c.in-Ok.given.repaired.items < length c.in-Ok.given.page.rows) = λ few. omega (
      arith,
      few,
      c.len.ensures,
      c.len-2.ensures.length,
      ap length c.rows.ensures.rows,
      c.if-len.false,
    ) in
    inl (no_row c.args.width (bits_of c.args.order c.args.octets.now) c.requires c.in-Ok.given.page.rows c.in-Ok.given.repaired.items
    c.in-Err-decode.fault c.in-Ok.ensures.2 all (c.in-Err-decode.ensures.refuses other))
