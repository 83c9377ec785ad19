use Rattle.std.proofs.Common.{◌+◌, ◌*◌, ◌≤◌, arith, drop, inl, inr, length, refl, rules}
use Rattle.raster.specs.Packed.{bits_of}
use Rattle.page_code.specs.declared.one_dim.eol.Eol.TheVariants.{Absent, OnlyZeros, Present}
use Rattle.page_code.proofs.OneDimension.SeesEol.{bits_left}
use Rattle.page_code.proofs.PassedEols.{passed_all, passed_five, passed_left, passed_one, passed_within, sees_near}
use Rattle.page_code.proofs.PassedRows.{all_zeros, zeros_near}
use Rattle.page_code.proofs.one_dim.one_row.pass_eols.Goals as goal

pub loop-eols-init : goal.loop-eols-init
loop-eols-init c = record {
  eols = c.requires.eols;
  within = omega (
    arith,
    c.requires.place,
    bits_left c.args.order c.args.octets.now c.args.place,
    passed_within (drop c.args.place (bits_of c.args.order c.args.octets.now)) c.args.before c.requires.eols,
  );
}

pub overflow_add-eols : goal.overflow_add-eols
overflow_add-eols c =
    let within : c.args.place + (c.loop-eols.eols.at + c.in-Present.bits) ≤ 8 * length c.args.octets.now = omega (
      arith,
      c.loop-eols.invariant.within,
      c.in-Present.ensures.4,
      bits_left c.args.order c.args.octets.now (c.args.place + c.loop-eols.eols.at),
    ) in
    search rules

pub loop-eols-preserved : goal.loop-eols-preserved
loop-eols-preserved c = record {
  eols = passed_one (drop c.args.place (bits_of c.args.order c.args.octets.now)) c.loop-eols.eols c.in-Present.bits
      c.loop-eols.invariant.eols (omega (arith, c.loop-eols-test.true))
      (sees_near (bits_of c.args.order c.args.octets.now) c.args.place c.loop-eols.eols.at (Present c.in-Present.bits) c.in-Present.ensures);
  within = omega (
    arith,
    c.loop-eols.invariant.within,
    c.in-Present.ensures.4,
    bits_left c.args.order c.args.octets.now (c.args.place + c.loop-eols.eols.at),
  );
}

pub returns-in-Absent-clause-all : goal.returns-in-Absent-clause-all
returns-in-Absent-clause-all c =
    passed_all (drop c.args.place (bits_of c.args.order c.args.octets.now)) c.loop-eols.eols Absent c.loop-eols.invariant.eols
    (sees_near (bits_of c.args.order c.args.octets.now) c.args.place c.loop-eols.eols.at Absent c.in-Absent.ensures) (inl refl)

pub returns-in-OnlyZeros-clause-eols : goal.returns-in-OnlyZeros-clause-eols
returns-in-OnlyZeros-clause-eols c =
    passed_left (drop c.args.place (bits_of c.args.order c.args.octets.now)) c.loop-eols.eols _ c.loop-eols.invariant.eols
    (zeros_near (bits_of c.args.order c.args.octets.now) c.args.place c.loop-eols.eols.at _
    (all_zeros c.args.order c.args.octets.now (c.args.place + c.loop-eols.eols.at) c.in-OnlyZeros.ensures))

pub returns-in-OnlyZeros-clause-all : goal.returns-in-OnlyZeros-clause-all
returns-in-OnlyZeros-clause-all c =
    passed_all (drop c.args.place (bits_of c.args.order c.args.octets.now)) c.loop-eols.eols OnlyZeros c.loop-eols.invariant.eols
    (sees_near (bits_of c.args.order c.args.octets.now) c.args.place c.loop-eols.eols.at OnlyZeros c.in-OnlyZeros.ensures) (inr refl)

pub returns-clause-all : goal.returns-clause-all
returns-clause-all c =
    passed_five (drop c.args.place (bits_of c.args.order c.args.octets.now)) c.loop-eols.eols c.loop-eols.invariant.eols
    (omega (arith, c.loop-eols-test.false))
