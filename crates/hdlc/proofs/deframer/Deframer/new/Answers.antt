use Rattle.std.proofs.Common.{ap}
use Rattle.hdlc.specs.Contents.{contents_of}
use Rattle.hdlc.proofs.KeptLemmas.{parts_seen}
use Rattle.hdlc.proofs.DeframerPartsLemmas.{parts_none}
use Rattle.hdlc.proofs.deframer.Deframer.new.Goals as goal

pub returns : goal.returns
returns c =
    parts_seen c.new.result c.zero.result (contents_of c.new-2.result.items) _ 0
    (parts_none c.new.result c.zero.result (contents_of c.new-2.result.items) c.new.ensures c.zero.ensures
    (ap contents_of c.new-2.ensures.items))
