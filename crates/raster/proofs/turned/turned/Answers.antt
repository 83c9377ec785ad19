use Rattle.std.proofs.Common.{ap, ◌∙◌, arith, get_or}
use Rattle.std.proofs.lemmas.List.FromFn.{get_or-map-range_with_len}
use Rattle.raster.specs.Words.{turned_octet}
use Rattle.raster.proofs.turned.turned.Goals as goal

pub returns : goal.returns
returns c =
    ap (λ t. get_or t c.args.octet 0) c.turned_octets.ensures
    ∙ get_or-map-range_with_len turned_octet 0 256 c.args.octet c.args.octet 0 (omega arith) (omega arith)
