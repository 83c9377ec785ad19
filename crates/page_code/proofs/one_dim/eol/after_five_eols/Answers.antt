use Rattle.std.proofs.Common.{ℕ, ◌≡◌, ◌+◌, ◌-◌, ◌*◌, ◌≤◌, ap, arith, drop, length, rules}
use Rattle.raster.specs.Packed.{bits_of}
use Rattle.page_code.specs.OneDimension.Fronts.{bits_of_five}
use Rattle.page_code.proofs.OneDimension.SeesEol.{bits_left, counted, counted_five, counted_over, eol_counted, eols_end}
use Rattle.page_code.proofs.one_dim.eol.after_five_eols.Goals as goal

pub loop-init : goal.loop-init
loop-init c = record {
  within = c.requires;
  counted = ap (λ (n : ℕ). c.args.place + n) (counted_five (drop c.args.place (bits_of
      c.args.order c.args.octets.now)));
}

pub overflow_add-after : goal.overflow_add-after
overflow_add-after c =
    let left = bits_left c.args.order c.args.octets.now c.loop.after in
    let within : c.loop.after + c.in-Present.bits ≤ 8 * length c.args.octets.now = omega (
      arith,
      left,
      c.in-Present.ensures.4,
      c.loop.invariant.within,
    ) in
    search rules

pub returns-in-Absent : goal.returns-in-Absent
returns-in-Absent c =
    let none = eols_end (5 - c.loop.counter) (drop c.loop.after (bits_of c.args.order c.args.octets.now)) c.eol_at.result c.eol_at.ensures
    c.in-Absent.is in
    omega (arith, none, c.loop.invariant.counted)

pub loop-preserved : goal.loop-preserved
loop-preserved c =
    let on = eol_counted c.args.order c.args.octets.now (c.args.place + bits_of_five (drop c.args.place (bits_of c.args.order
    c.args.octets.now))) c.loop.after c.loop.counter c.in-Present.bits c.loop-test.true c.loop.invariant.within c.in-Present.ensures
    c.loop.invariant.counted in
    record { within = on.0; counted = on.1 }

pub returns : goal.returns
returns c =
    let over : 5 - c.loop.counter ≡ 0 = omega arith in
    let none = ap (λ (most : ℕ). counted most (drop c.loop.after (bits_of c.args.order c.args.octets.now))) over in
    omega (arith, none, counted_over (drop c.loop.after (bits_of c.args.order c.args.octets.now)), c.loop.invariant.counted)
