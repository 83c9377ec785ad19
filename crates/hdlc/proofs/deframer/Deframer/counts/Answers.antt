use Rattle.std.proofs.Common.{ap, ◌∙◌}
use Rattle.hdlc.specs.DeframerState.{DeframerState}
use Rattle.hdlc.specs.DeframerParts.{count_in}
use Rattle.hdlc.proofs.deframer.Deframer.counts.Goals as goal

pub returns : goal.returns
returns c bits handed old class = ap (λ (state : DeframerState). count_in state.counts class) c.self.view_is ∙ old.counted class
