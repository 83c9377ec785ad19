-- A PPS of a block that isn't whole yet is heard as the definition says.
use Rattle.captures.proofs.LastFrames.{block_heard}
use Rattle.captures.proofs.captured.Capture.hear_block.Goals as goal

pub returns-clause-taken : goal.returns-clause-taken
returns-clause-taken c =
    block_heard c.judge_by_dcs.result c.args.pps c.counted-counted.result c.args.self.now c.turn_from.new.self c.turn_number.new.self
    c.turn_page.new.self c.turn_to.new.self c.judge_by_dcs.new.self c.args.out.now.items c.turn_from.new.out.items
    c.turn_number.new.out.items c.turn_page.new.out.items
    c.turn_to.new.out.items c.judge_by_dcs.new.out.items c.in_ok-turn_from.ensures.taken c.in_ok-turn_number.ensures.taken
    c.in_ok-turn_page.ensures.taken
    c.in_ok-turn_to.ensures.taken c.counted-counted.ensures c.judge_by_dcs.ensures.taken
