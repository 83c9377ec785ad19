-- What the check asks of `follow_line`.
use Rattle.std.proofs.Common.{subst}
use Rattle.calls.specs.Scripts.{IsLineOf}
use Rattle.calls.proofs.FollowedScripts.{nothing_told}
use Rattle.calls.proofs.call.follow_line.Goals as goal

pub returns-in-None-clause-told : goal.returns-in-None-clause-told
returns-in-None-clause-told g c =
    nothing_told c.args.line.now c.args.live.now c.args.number.now (g.T.CallWriter.written c.args.writer.now)
    (subst (IsLineOf c.args.line.now) c.in-None.is c.in_ok-said.ensures)
