use Rattle.page_files.proofs.IdentifyLaws.{finds_what_is_said, first_line_is_best}
use Rattle.page_files.proofs.laws.each_as_identified.Goals as goal

pub returns-clause-first : goal.returns-clause-first
returns-clause-first c = first_line_is_best

pub returns-clause-finds : goal.returns-clause-finds
returns-clause-finds c = finds_what_is_said
