use Rattle.std.proofs.Common.{ℕ, List, ◌++◌}
use Rattle.raster.specs.Packed.{bits_of}
use Rattle.raster.specs.declared.packed.Order.TheVariants.{LsbFirst}
use Rattle.hdlc.specs.Contents.{contents_of}
use Rattle.hdlc.proofs.KeptLemmas.{parts_seen, parts_inside}
use Rattle.hdlc.proofs.deframer.Deframer.take_in_place.Goals as goal

pub returns-clause-taken : goal.returns-clause-taken
returns-clause-taken c e bits handed old =
    let queue : List (List ℕ) = contents_of c.self.inside.queue.items in
    parts_seen c.take_piece.new.self c.self.inside.counts queue (bits ++ bits_of LsbFirst c.args.piece.now) handed
    (c.take_piece.ensures.taken e c.self.inside.counts queue bits handed
    (parts_inside c.self.inside.finder c.self.inside.counts queue bits handed c.args.self.now c.self.view_is old))
