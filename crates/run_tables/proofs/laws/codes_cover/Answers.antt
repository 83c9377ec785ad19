use Rattle.run_tables.proofs.CodeLaws.{codes_cover}
use Rattle.run_tables.proofs.laws.codes_cover.Goals as goal

pub returns : goal.returns
returns c = codes_cover
