use Rattle.referee.proofs.Rows.{none_is_broken, broken_before_pages, broken_by_answerers, broken_by_callers}
use Rattle.referee.proofs.laws.rules_by_rows.Goals as goal

pub returns-clause-none : goal.returns-clause-none
returns-clause-none c = none_is_broken

pub returns-clause-before : goal.returns-clause-before
returns-clause-before c = broken_before_pages

pub returns-clause-callers : goal.returns-clause-callers
returns-clause-callers c = broken_by_callers

pub returns-clause-answerers : goal.returns-clause-answerers
returns-clause-answerers c = broken_by_answerers
