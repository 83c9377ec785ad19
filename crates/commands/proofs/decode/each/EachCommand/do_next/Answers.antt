-- What the check asks of `do_next`.
use Rattle.commands.proofs.PrintedFiles.{more_one}
use Rattle.commands.specs.Each.{IsReported}
use Rattle.commands.proofs.decode.each.EachCommand.do_next.Goals as goal

pub returns-clause-complete : goal.returns-clause-complete
returns-clause-complete g c =
    rw c.both.ensures (more_one (IsReported c.args.self.now c.args.printer.now.json) c.args.name.now c.args.before _ _
    c.in_ok-is_done.is_done c.in_ok-is_done.ensures.complete)
