use Rattle.std.proofs.Common.{◌+◌, ◌*◌, length, arith, refl, subst}
use Rattle.raster.specs.Packed.{bits_of}
use Rattle.raster.proofs.PackedLemmas.{length-bits_in}
use Rattle.page_code.specs.declared.one_dim.Start.TheVariants.{Row}
use Rattle.page_code.specs.RowReaders.{IsStartWithin}
use Rattle.page_code.proofs.OneDimension.RowsOn.{eol_fits, within_bits}
use Rattle.page_code.proofs.PassedRows.{all_zeros, passed_zeros}
use Rattle.page_code.proofs.RowReaders.{start_after_eol, start_bad, start_end, start_within}
use Rattle.page_code.proofs.one_dim.one_row.start_after.Goals as goal

pub returns-in-Some-clause-finds : goal.returns-in-Some-clause-finds
returns-in-Some-clause-finds c = start_after_eol (bits_of c.args.order c.args.octets.now) c.args.to.now.at c.in-Some.bits
    c.args.to.now.rows (Row (c.args.to.now.at + c.in-Some.bits)) c.in-Some.ensures.eol (
      refl,
      c.in-Some.ensures.code,
      c.if-to-lt-MAX_ROWS.true,
    )

pub returns-in-Some-clause-within : goal.returns-in-Some-clause-within
returns-in-Some-clause-within c =
    let fits = eol_fits c.args.order c.args.octets.now c.args.to.now.at c.in-Some.bits c.requires.within c.in-Some.ensures.eol in
    (omega arith, fits, c.if-to-lt-MAX_ROWS.true)

pub returns-in-Present-clause-finds : goal.returns-in-Present-clause-finds
returns-in-Present-clause-finds c = start_after_eol (bits_of c.args.order c.args.octets.now) c.args.to.now.at c.in-Present.bits
    c.args.to.now.rows c.start_after_eol.result (rw c.in-Present.is at c.eol_after.ensures) c.start_after_eol.ensures.sees

pub returns-in-Present-clause-within : goal.returns-in-Present-clause-within
returns-in-Present-clause-within c =
    let fits = eol_fits c.args.order c.args.octets.now c.args.to.now.at c.in-Present.bits c.requires.within (rw c.in-Present.is at
    c.eol_after.ensures) in
    subst (λ n. IsStartWithin c.args.to.now.at n c.args.to.now.rows c.start_after_eol.result)
    (length-bits_in c.args.order c.args.octets.now (8 * length c.args.octets.now))
    (start_within (bits_of c.args.order c.args.octets.now) c.args.to.now.at (c.args.to.now.at + c.in-Present.bits) c.args.to.now.rows
    c.start_after_eol.result (omega arith) (within_bits c.args.order c.args.octets.now (c.args.to.now.at + c.in-Present.bits) fits)
    c.start_after_eol.ensures.sees)

pub returns-else-to-eq0-clause-finds : goal.returns-else-to-eq0-clause-finds
returns-else-to-eq0-clause-finds c = rw c.new.ensures (start_bad (bits_of c.args.order c.args.octets.now) c.args.to.now.at
    c.args.to.now.rows (omega (arith, c.if-to-eq0.false)) (rw c.in-Absent.is at c.eol_after.ensures))

pub returns-else-to-eq0-2-clause-finds : goal.returns-else-to-eq0-2-clause-finds
returns-else-to-eq0-2-clause-finds c = start_end (bits_of c.args.order c.args.octets.now) c.args.to.now.at c.args.to.now.rows
    (omega (arith, c.if-to-eq0-2.false)) (rw c.in-OnlyZeros.is at c.eol_after.ensures)

pub returns-then-to-eq0-2-clause-passed : goal.returns-then-to-eq0-2-clause-passed
returns-then-to-eq0-2-clause-passed c = passed_zeros (bits_of c.args.order c.args.octets.now) c.args.to.now _ c.args.passed.now
    (all_zeros c.args.order c.args.octets.now c.args.to.now.at (rw c.in-OnlyZeros.is at c.eol_after.ensures)) c.requires.passed

pub returns-else-to-eq0-2-clause-passed : goal.returns-else-to-eq0-2-clause-passed
returns-else-to-eq0-2-clause-passed c = passed_zeros (bits_of c.args.order c.args.octets.now) c.args.to.now _ c.args.passed.now
    (all_zeros c.args.order c.args.octets.now c.args.to.now.at (rw c.in-OnlyZeros.is at c.eol_after.ensures)) c.requires.passed
