use Rattle.std.proofs.Common.{sym, ap, ◌∙◌, ◌-◌, ◌≤◌, arith, length, take, drop}
use Rattle.std.proofs.lemmas.List.{take_all, length-drop}
use Rattle.raster.proofs.FirstLemmas.{piece_first}
use Rattle.raster.proofs.BlockLemmas.{block_first}
use Rattle.raster.proofs.words.first_in_block.Goals as goal

pub returns : goal.returns
returns c =
    let size : length (drop c.args.at c.args.octets.now) ≤ length c.args.octets.now - c.args.at = rw length-drop (omega arith) in
    piece_first c.args.octets.now c.in-Some.block.now c.args.at c.block_change.result c.args.bit
    (c.in-Some.ensures.cases.same ∙ ap (take 32) (take_all (length c.args.octets.now - c.args.at) (drop c.args.at c.args.octets.now) size))
    (block_first c.in-Some.block.now c.of_bit.result c.args.bit c.block_change.result (sym c.of_bit.ensures) c.block_change.ensures)
