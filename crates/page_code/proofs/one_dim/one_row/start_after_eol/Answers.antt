use Rattle.std.proofs.Common.{◌+◌, ◌*◌, ◌≤◌, arith, ap, drop, length, rules}
use Rattle.raster.specs.Packed.{bits_of}
use Rattle.page_code.proofs.OneDimension.RowsOn.{eol_fits, sees_eols, sees_no_rows}
use Rattle.page_code.proofs.OneDimension.SeesEol.{bits_left}
use Rattle.page_code.proofs.PassedEols.{passed_first, passed_within}
use Rattle.page_code.proofs.PassedRows.{passed_eol}
use Rattle.page_code.proofs.one_dim.one_row.start_after_eol.Goals as goal

pub overflow_add-place : goal.overflow_add-place
overflow_add-place c =
    let within : c.args.to.now.at + c.args.bits ≤ 8 * length c.args.octets.now = eol_fits c.args.order c.args.octets.now c.args.to.now.at
    c.args.bits c.requires.within c.requires.eol in
    search rules

pub pass_eols-eols-requires-clause-place : goal.pass_eols-eols-requires-clause-place
pass_eols-eols-requires-clause-place c = eol_fits c.args.order c.args.octets.now c.args.to.now.at c.args.bits c.requires.within
    c.requires.eol

pub eol_after-eol-requires-clause-place : goal.eol_after-eol-requires-clause-place
eol_after-eol-requires-clause-place c = eol_fits c.args.order c.args.octets.now c.args.to.now.at c.args.bits c.requires.within
    c.requires.eol

pub start_by-requires-clause-within : goal.start_by-requires-clause-within
start_by-requires-clause-within c = eol_fits c.args.order c.args.octets.now c.args.to.now.at c.args.bits c.requires.within c.requires.eol

pub returns-then-eols-eq0-clause-passed : goal.returns-then-eols-eq0-clause-passed
returns-then-eols-eq0-clause-passed c = passed_eol (bits_of c.args.order c.args.octets.now) c.args.to.now c.args.bits
    c.pass_eols-eols.result c.args.passed.now c.requires.eol c.pass_eols-eols.ensures.eols c.requires.passed

pub returns-then-to-eq0-clause-sees : goal.returns-then-to-eq0-clause-sees
returns-then-to-eq0-clause-sees c =
    let left = drop (c.args.to.now.at + c.args.bits) (bits_of c.args.order c.args.octets.now) in
    let first = passed_first left c.pass_eols-eols.result c.pass_eols-eols.ensures.eols c.if-eols-eq0.false in
    rw c.new.ensures (sees_no_rows (bits_of c.args.order c.args.octets.now) (c.args.to.now.at + c.args.bits) c.args.to.now.rows
    first.1.0 first.1.1 first.1.2 c.if-to-eq0.true)

pub returns-then-to-eq0-clause-passed : goal.returns-then-to-eq0-clause-passed
returns-then-to-eq0-clause-passed c = passed_eol (bits_of c.args.order c.args.octets.now) c.args.to.now c.args.bits
    c.pass_eols-eols.result c.args.passed.now c.requires.eol c.pass_eols-eols.ensures.eols c.requires.passed

pub overflow_add-result : goal.overflow_add-result
overflow_add-result c =
    let place = c.args.to.now.at + c.args.bits in
    let fits = eol_fits c.args.order c.args.octets.now c.args.to.now.at c.args.bits c.requires.within c.requires.eol in
    let within : place + c.pass_eols-eols.result.at ≤ 8 * length c.args.octets.now = omega (
      arith,
      fits,
      bits_left c.args.order c.args.octets.now place,
      passed_within (drop place (bits_of c.args.order c.args.octets.now)) c.pass_eols-eols.result c.pass_eols-eols.ensures.eols,
    ) in
    search rules

pub returns-clause-sees : goal.returns-clause-sees
returns-clause-sees c =
    let place = c.args.to.now.at + c.args.bits in
    let left = drop place (bits_of c.args.order c.args.octets.now) in
    let first = passed_first left c.pass_eols-eols.result c.pass_eols-eols.ensures.eols c.if-eols-eq0.false in
    sees_eols (bits_of c.args.order c.args.octets.now) place c.args.to.now.rows first.1.0 first.1.1 first.1.2
    (place + c.pass_eols-eols.result.at) (omega (arith, c.if-to-eq0.false)) (ap (λ n. place + n) c.pass_eols-eols.ensures.all)

pub returns-clause-passed : goal.returns-clause-passed
returns-clause-passed c = passed_eol (bits_of c.args.order c.args.octets.now) c.args.to.now c.args.bits
    c.pass_eols-eols.result c.args.passed.now c.requires.eol c.pass_eols-eols.ensures.eols c.requires.passed
