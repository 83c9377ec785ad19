-- What holds in the loop of `do_all`.
use Rattle.std.proofs.Common.{◌≡◌, map, take}
use Rattle.std.specs.Prelude.{string_bytes}
use Rattle.commands.specs.Each.{IsReported}
use Rattle.commands.specs.Printed.{PrintsAll}
use Rattle.commands.proofs.decode.each.EachCommand.do_all.Given as goal

abbrev pub invariant-loop-name : goal.invariant-loop-name
invariant-loop-name g l = record {
  printed : PrintsAll (IsReported l.self l.fn.printer.json) (map string_bytes (take l.name-index l.self.files.items))
      (g.W.Write.contents l.fn.printer.writer) (g.W.Write.contents l.printer.writer) l.is_complete;
  json : l.printer.json ≡ l.fn.printer.json;
}
