use Rattle.std.proofs.Common.{◌≡◌, length, arith}
use Rattle.partial_page.proofs.BlockLemmas.{filled_is_cut}
use Rattle.partial_page.proofs.blocks.Blocks.cut.Goals as goal

pub returns-clause-full : goal.returns-clause-full
returns-clause-full c =
    let all : c.args.coded.len ≡ length c.args.coded.items = omega (arith, c.args.coded.ok) in
    let same : c.len-2.result ≡ length c.args.coded.items = omega (arith, c.args.coded.ok, c.len-2.ensures) in
    filled_is_cut c.args.small c.args.coded.items c.resize.new.self.items c.args.coded.len c.len-2.result c.div_ceil-frames.result
    c.frame_octets-size.result all same c.frame_octets-size.ensures.size c.div_ceil-frames.ensures c.in_ok-resize.ensures.items
