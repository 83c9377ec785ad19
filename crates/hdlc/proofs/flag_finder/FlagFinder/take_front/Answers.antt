use Rattle.hdlc.proofs.BitPlaces.{octets-none}
use Rattle.hdlc.proofs.flag_finder.FlagFinder.take_front.Goals as goal

pub returns-then-self-ne0-clause-taken : goal.returns-then-self-ne0-clause-taken
returns-then-self-ne0-clause-taken c counts queue bits handed old = rw (octets-none bits) old
