use Rattle.std.proofs.Common.{refl}
use Rattle.hdlc.proofs.Collecting.{collects_none}
use Rattle.hdlc.proofs.gap.Gap.new.Goals as goal

pub returns : goal.returns
returns c = collects_none _ refl refl refl c.new.ensures
