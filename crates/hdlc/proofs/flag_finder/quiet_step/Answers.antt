use Rattle.std.proofs.Common.{sym, ◌∙◌, arith}
use Rattle.hdlc.proofs.QuietRuns.{one_quiet}
use Rattle.hdlc.proofs.flag_finder.quiet_step.Goals as goal

pub returns-then-octets-at-lt8-clause-quiet : goal.returns-then-octets-at-lt8-clause-quiet
returns-then-octets-at-lt8-clause-quiet c =
    one_quiet c.args.octets.now c.args.at c.args.last (omega arith) (sym c.ends_no_flag.ensures ∙ c.if-not-ends_no_flag.false)
