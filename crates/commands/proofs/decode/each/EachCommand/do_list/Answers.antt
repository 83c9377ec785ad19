-- What the check asks of `do_list`.
use Rattle.std.proofs.Common.{◌∙◌}
use Rattle.commands.proofs.PrintedFiles.{more_then}
use Rattle.commands.specs.Each.{IsReported}
use Rattle.commands.proofs.decode.each.EachCommand.do_list.Goals as goal

pub loop-before-preserved : goal.loop-before-preserved
loop-before-preserved g c = record {
  printed = more_then (IsReported c.args.self.now c.args.printer.now.json) c.args.before c.loop-before.is_complete c.in_ok-is_done.is_done
      _ _ _ c.loop-before.invariant.printed (rw c.loop-before.invariant.json at c.in_ok-is_done.ensures.complete);
  json = c.do_next.ensures.json ∙ c.loop-before.invariant.json;
}
