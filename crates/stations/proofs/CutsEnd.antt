-- What cuts a call off.
use Rattle.std.proofs.Common.{Some, None, refl}
use Rattle.stations.specs.Stopping.{CutsEnd}
use Rattle.stations.specs.declared.stopping.Cut.TheVariants.{Stop, Loss}

pub cuts_end : CutsEnd
cuts_end (Some why) cut now = ((λ e. let no : ⊥ = cc in absurd no), λ h. refl)
cuts_end None None Stop = ((λ e. refl), λ h. absurd (h refl))
cuts_end None None Loss = ((λ e. refl), λ h. absurd (h refl))
cuts_end None (Some Stop) now = ((λ e. let no : ⊥ = cc in absurd no), λ h. refl)
cuts_end None (Some Loss) now = ((λ e. let no : ⊥ = cc in absurd no), λ h. refl)
