use Rattle.std.proofs.Common.{sym, ◌∙◌}
use Rattle.stations.proofs.CallerRows.{cfr_too_long, cfr_starts}
use Rattle.stations.proofs.caller.Caller.hear_cfr.Goals as goal

pub returns-in_default : goal.returns-in_default
returns-in_default c = λ t h. rw (cfr_too_long c.args.self.now t c.requires.state c.requires.goes_on h
    (rw c.number-number.ensures at (sym c.in_ok-blocks.ensures ∙ c.in_default.is))) (c.give_up.ensures t h)

pub returns : goal.returns
returns c = λ t h.
    rw (c.send_page.ensures.next, c.send_page.ensures.turn, c.number-number.ensures)
    (cfr_starts c.octets_have_a_block.ensures c.args.self.now t c.in-Some.blocks c.requires.state c.requires.goes_on h
    (rw c.number-number.ensures at (sym c.in_ok-blocks.ensures ∙ c.in-Some.is)))
