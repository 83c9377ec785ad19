use Rattle.signals.proofs.LowerLemmas.{begins-at-most-five, goes-down-by-one}
use Rattle.signals.proofs.laws.speeds_go_down.Goals as goal

pub returns : goal.returns
returns c = record { begins = begins-at-most-five; by_one = goes-down-by-one }
