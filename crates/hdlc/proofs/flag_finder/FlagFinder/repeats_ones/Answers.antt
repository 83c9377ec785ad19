use Rattle.std.proofs.Common.{◌&&◌, nat_eq}
use Rattle.std.proofs.lemmas.Bool.{eqb-true, and_parts}
use Rattle.hdlc.proofs.OneRuns.{ones_unbegun, ones_aborted}
use Rattle.hdlc.proofs.flag_finder.FlagFinder.repeats_ones.Goals as goal

pub returns-then-not-self : goal.returns-then-not-self
returns-then-not-self c e counts queue bits handed old =
    ones_unbegun c.args.self.now counts queue bits handed old c.if-self.false c.if-not-self.true

pub returns : goal.returns
returns c e counts queue bits handed old =
    let whole = and_parts (nat_eq c.args.self.now.gap.ones 6 && c.args.self.now.gap.aborted) (nat_eq c.args.self.now.gap.seen 8) e in
    let both = and_parts (nat_eq c.args.self.now.gap.ones 6) c.args.self.now.gap.aborted whole.0 in
    ones_aborted c.args.self.now counts queue bits handed old c.if-self.false c.if-self-ne8.false (eqb-true _ _ both.0) both.1
    (eqb-true _ _ whole.1)
