-- What holds in the loop of `tell_files`.
use Rattle.std.proofs.Common.{map, take}
use Rattle.std.specs.Prelude.{string_bytes}
use Rattle.commands.specs.Printed.{PrintsAll}
use Rattle.commands.specs.SeveralLines.{IsSaidSo}
use Rattle.commands.proofs.identify.several.SeveralCommand.tell_files.Given as goal

abbrev pub invariant-loop-name : goal.invariant-loop-name
invariant-loop-name g l = PrintsAll (IsSaidSo l.self.records) (map string_bytes (take l.name-index l.self.files.items))
    (g.W.Write.contents l.fn.writer) (g.W.Write.contents l.writer) l.are_known
