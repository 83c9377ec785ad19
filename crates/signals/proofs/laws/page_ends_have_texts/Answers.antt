use Rattle.signals.proofs.SendingLemmas.{page-ends-have-texts}
use Rattle.signals.proofs.laws.page_ends_have_texts.Goals as goal

pub returns : goal.returns
returns c = page-ends-have-texts
