use Rattle.signals.proofs.BitNumberLemmas.{dis-reads-no-others, dcs-reads-no-others}
use Rattle.signals.proofs.laws.ignores_other_bits.Goals as goal

pub returns : goal.returns
returns c = record { dis = dis-reads-no-others; dcs = dcs-reads-no-others }
