-- What the check asks of `line_end`.
use Rattle.std.proofs.Common.{◌+◌, ◌*◌, ◌≤◌, arith, length, sym}
use Rattle.raster.specs.Packed.{bits_of}
use Rattle.page_code.proofs.OneDimension.LineEnds.{finds_eol, finds_none_few, finds_none_left, finds_torn, finds_zeros}
use Rattle.page_code.proofs.OneDimension.RowsOn.{within_bits}
use Rattle.page_code.proofs.one_dim.repair.line_end.Goals as goal

pub returns-in_default : goal.returns-in_default
returns-in_default c =
    finds_zeros (bits_of c.args.order c.args.octets.now) c.args.place (within_bits c.args.order c.args.octets.now c.args.place c.requires)
    (sym c.in_default.ensures.zeros)

pub returns-then-zeros-ge11 : goal.returns-then-zeros-ge11
returns-then-zeros-ge11 c =
    let within : c.args.place + c.in-Some.zeros + 1 ≤ 8 * length c.args.octets.now = omega (arith, c.in-Some.ensures.within) in
    finds_eol (bits_of c.args.order c.args.octets.now) c.args.place c.in-Some.zeros (sym c.in-Some.ensures.zeros) c.if-zeros-ge11.true
    (within_bits c.args.order c.args.octets.now (c.args.place + c.in-Some.zeros + 1) within)

pub returns-in_default-zeros_from : goal.returns-in_default-zeros_from
returns-in_default-zeros_from c =
    finds_none_left (bits_of c.args.order c.args.octets.now) c.args.place c.in-Some.zeros (sym c.in-Some.ensures.zeros)
    c.if-zeros-ge11.false (sym c.in_default-zeros_from.ensures.zeros)

pub returns-then-zeros-more-lt10 : goal.returns-then-zeros-more-lt10
returns-then-zeros-more-lt10 c =
    finds_none_few (bits_of c.args.order c.args.octets.now) c.args.place c.in-Some.zeros c.in-Some-zeros_from.more (sym
    c.in-Some.ensures.zeros) c.if-zeros-ge11.false (sym c.in-Some-zeros_from.ensures.zeros) c.if-zeros-more-lt10.true

pub returns : goal.returns
returns c =
    let within : c.args.place + c.in-Some.zeros + 1 + c.in-Some-zeros_from.more + 1 ≤ 8 * length c.args.octets.now = omega (
      arith,
      c.in-Some-zeros_from.ensures.within,
    ) in
    finds_torn (bits_of c.args.order c.args.octets.now) c.args.place c.in-Some.zeros c.in-Some-zeros_from.more (sym
    c.in-Some.ensures.zeros) c.if-zeros-ge11.false (sym c.in-Some-zeros_from.ensures.zeros) c.if-zeros-more-lt10.false (within_bits
    c.args.order c.args.octets.now (c.args.place + c.in-Some.zeros + 1 + c.in-Some-zeros_from.more + 1) within)
