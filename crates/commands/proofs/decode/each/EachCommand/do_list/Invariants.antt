-- What holds in the loop of `do_list`.
use Rattle.std.proofs.Common.{◌≡◌}
use Rattle.commands.specs.Each.{IsReported}
use Rattle.commands.specs.Printed.{PrintsMore}
use Rattle.commands.proofs.decode.each.EachCommand.do_list.Given as goal

abbrev pub invariant-loop-before : goal.invariant-loop-before
invariant-loop-before g l = record {
  printed : PrintsMore (IsReported l.self l.fn.printer.json) ⊥ l.fn.before
      (g.W.Write.contents l.fn.printer.writer) (g.W.Write.contents l.printer.writer) l.is_complete;
  json : l.printer.json ≡ l.fn.printer.json;
}
