use Rattle.hdlc.proofs.flag_finder.FlagFinder.take_octet.Goals as goal

pub returns-then-repeats-clause-taken : goal.returns-then-repeats-clause-taken
returns-then-repeats-clause-taken c e counts queue bits handed old =
    rw c.if-octet-self.true (c.repeats.ensures c.if-repeats.true counts queue bits handed old)
