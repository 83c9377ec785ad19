-- What the check asks of `after_eol`.
use Rattle.std.proofs.Common.{arith, sym}
use Rattle.page_files.proofs.OwnWidths.{first_eol, no_eol, no_first_eol}
use Rattle.page_files.proofs.own_widths.after_eol.Goals as goal

pub returns-in-Some-clause-eol : goal.returns-in-Some-clause-eol
returns-in-Some-clause-eol c = first_eol _ c.in-Some.zeros (sym c.in-Some.ensures.zeros) (omega (arith, c.if-zeros-ge-EOL_ZEROS.true))

pub returns-in_default-clause-none : goal.returns-in_default-clause-none
returns-in_default-clause-none c =
    no_first_eol _ c.in-Some.zeros (sym c.in-Some.ensures.zeros) (omega (arith, c.if-zeros-ge-EOL_ZEROS.false))

pub returns-in_default-2-clause-none : goal.returns-in_default-2-clause-none
returns-in_default-2-clause-none c = no_eol _ (sym c.in_default.ensures.zeros)
