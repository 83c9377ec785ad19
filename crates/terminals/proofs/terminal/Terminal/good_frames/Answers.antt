use Rattle.std.proofs.Common.{ap, ◌∙◌, ◌-◌, ◌^◌}
use Rattle.std.specs.Prelude.{min}
use Rattle.hdlc.specs.declared.counts.Class.TheVariants.{Good}
use Rattle.terminals.proofs.CutOff.{good_gaps_are_frames}
use Rattle.terminals.proofs.terminal.Terminal.good_frames.Goals as goal

pub returns : goal.returns
returns g c =
    rw (← c.self.view_is)
    (λ octets h. c.counts.ensures _ _ h Good ∙ ap (min (2 ^ 64 - 1)) (good_gaps_are_frames octets))
