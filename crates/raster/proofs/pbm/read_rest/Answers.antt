use Rattle.std.proofs.Common.{◌++◌, ◌∙◌, ap, List, ℕ}
use Rattle.raster.proofs.PbmPieces.{rest_read}
use Rattle.raster.proofs.pbm.read_rest.Goals as goal

pub returns-clause-ok : goal.returns-clause-ok
returns-clause-ok g c =
    rest_read (g.R.Read.remaining c.args.reader.now) c.extend_from_slice.new.self.items c.read_to_end.new.buf.items c.args.head.now
    (c.in_ok-extend_from_slice.ensures.items ∙ ap (λ (front : List ℕ). front ++ c.args.head.now) c.new-octets.ensures.items)
    c.in_default.ensures.appends c.in_default.ensures.bytes
