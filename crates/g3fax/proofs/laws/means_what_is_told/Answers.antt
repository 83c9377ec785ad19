use Rattle.g3fax.proofs.SignalLemmas.{means-what-is-told}
use Rattle.g3fax.proofs.laws.means_what_is_told.Goals as goal

pub returns : goal.returns
returns c = means-what-is-told
