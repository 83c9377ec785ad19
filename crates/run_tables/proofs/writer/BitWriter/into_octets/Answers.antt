use Rattle.std.proofs.Common.{arith}
use Rattle.run_tables.proofs.PendingLemmas.{fills_held, fills_none}
use Rattle.run_tables.proofs.writer.BitWriter.into_octets.Goals as goal

pub returns-then-limit-eq0 : goal.returns-then-limit-eq0
returns-then-limit-eq0 c =
    rw (← c.self.view_is, c.clear.ensures.items)
    (fills_none c.self.inside.order c.self.inside.octets.items c.self.inside.at c.self.inside.word c.self.inside.filled
    (c.self.invariant.begun c.if-limit-eq0.true) (omega (arith, c.self.invariant.within, c.if-limit-eq0.true)))

pub returns : goal.returns
returns c =
    rw (← c.self.view_is, c.truncate.ensures.items)
    (fills_held c.self.inside.order c.self.inside.octets.items c.put_word.new.octets.items c.self.inside.at c.self.inside.word
    c.self.inside.filled c.self.invariant.few
    (omega (arith, c.self.invariant.room, c.self.invariant.whole, c.if-limit-eq0.false, c.put_word.ensures.same_length))
    c.put_word.ensures c.self.invariant.clear)
