use Rattle.std.proofs.Common.{refl}
use Rattle.page_code.proofs.PassedEols.{no_eols}
use Rattle.page_code.proofs.PassedRows.{passed_none}
use Rattle.page_code.proofs.passed_row.PassedRow.none.Goals as goal

pub returns : goal.returns
returns c = λ width count bits. passed_none width count bits _ refl (no_eols _ _ refl refl refl) refl
