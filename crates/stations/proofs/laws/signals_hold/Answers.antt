use Rattle.stations.proofs.SignalLaws.{signals_hold_by}
use Rattle.stations.proofs.laws.signals_hold.Goals as goal

pub returns : goal.returns
returns c =
    signals_hold_by c.agreed_is_allowed.ensures.allowed c.agreed_is_allowed.ensures.fits c.widths_have_pixels.ensures
    c.training_checks_are_good.ensures
