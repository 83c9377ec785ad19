use Rattle.std.proofs.Common.{refl}
use Rattle.hdlc.proofs.DeframerPartsLemmas.{cuts_none}
use Rattle.hdlc.proofs.flag_finder.FlagFinder.new.Goals as goal

pub returns : goal.returns
returns c = cuts_none _ refl refl refl c.new.ensures
