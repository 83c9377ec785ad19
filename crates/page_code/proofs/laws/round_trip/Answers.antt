use Rattle.page_code.proofs.CodingLaws.{gives_coded_rows, reads_code}
use Rattle.page_code.proofs.laws.round_trip.Goals as goal

pub returns-clause-reads : goal.returns-clause-reads
returns-clause-reads c = reads_code

pub returns-clause-gives : goal.returns-clause-gives
returns-clause-gives c = gives_coded_rows
