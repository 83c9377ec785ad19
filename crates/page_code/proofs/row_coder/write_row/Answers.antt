use Rattle.page_code.proofs.RowCoders.{on_ok}
use Rattle.page_code.proofs.row_coder.write_row.Goals as goal

pub write_row-requires-in-T6 : goal.write_row-requires-in-T6
write_row-requires-in-T6 c = rw c.in-T6.is at c.requires.fits

pub returns-in-OneDim-clause-fits : goal.returns-in-OneDim-clause-fits
returns-in-OneDim-clause-fits c = rw c.in-OneDim.is tt

pub returns-in-OneDim-clause-held : goal.returns-in-OneDim-clause-held
returns-in-OneDim-clause-held c = rw c.in-OneDim.is (on_ok _ c.write_row.result tt)

pub returns-in-T6-clause-fits : goal.returns-in-T6-clause-fits
returns-in-T6-clause-fits c = rw c.in-T6.is c.write_row-in-T6.ensures.fits

pub returns-in-T6-clause-code : goal.returns-in-T6-clause-code
returns-in-T6-clause-code c = rw c.in-T6.is c.write_row-in-T6.ensures.code

pub returns-in-T6-clause-held : goal.returns-in-T6-clause-held
returns-in-T6-clause-held c = rw c.in-T6.is c.write_row-in-T6.ensures.held
