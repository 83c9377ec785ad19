use Rattle.std.proofs.Common.{rules, ◌*◌, ◌+◌, ◌≤◌, arith, drop, length}
use Rattle.raster.specs.Packed.{bits_of}
use Rattle.raster.proofs.PackedLemmas.{length-bits_in}
use Rattle.page_code.proofs.OneDimension.RowsOn.{within_bits}
use Rattle.page_code.proofs.TwoDimensions.OpenLines.{modes_along, modes_none, modes_within}
use Rattle.page_code.proofs.t6.read.one_row.goes_on.Goals as goal

pub returns-then-begun-eq0-clause-along : goal.returns-then-begun-eq0-clause-along
returns-then-begun-eq0-clause-along c = rw (c.at.ensures, c.begin.ensures) (modes_none (bits_of c.args.order c.args.octets.now) c.args.at
    c.args.begun.now.lines.reference (within_bits c.args.order c.args.octets.now c.args.at c.requires.within))

pub overflow_add-at : goal.overflow_add-at
overflow_add-at c =
    let within : c.args.at + c.args.begun.now.used ≤ 8 * length c.args.octets.now = omega (
      arith,
      modes_within (bits_of c.args.order c.args.octets.now) c.args.at c.args.begun.now (within_bits c.args.order c.args.octets.now c.args.at
          c.requires.within) (c.requires.begun (omega (arith, c.if-begun-eq0.false))),
      length-bits_in c.args.order c.args.octets.now (8 * length c.args.octets.now),
    ) in
    search rules

pub at-requires-2 : goal.at-requires-2
at-requires-2 c = omega (
  arith,
  modes_within (bits_of c.args.order c.args.octets.now) c.args.at c.args.begun.now (within_bits c.args.order c.args.octets.now c.args.at
      c.requires.within) (c.requires.begun (omega (arith, c.if-begun-eq0.false))),
  length-bits_in c.args.order c.args.octets.now (8 * length c.args.octets.now),
)

pub returns-clause-along : goal.returns-clause-along
returns-clause-along c = rw c.at-2.ensures (modes_along (bits_of c.args.order c.args.octets.now) c.args.at c.args.begun.now
    (within_bits c.args.order c.args.octets.now c.args.at c.requires.within) (c.requires.begun (omega (arith, c.if-begun-eq0.false))))
