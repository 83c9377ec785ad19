-- What holds in the loop of `add_named`.
use Rattle.std.proofs.Common.{take}
use Rattle.std.specs.Prelude.{flat_map}
use Rattle.command_files.specs.Apart.{AddsFiles}
use Rattle.commands.specs.Files.{file_read}
use Rattle.commands.proofs.decode.each.EachCommand.add_named.Given as goal

abbrev pub invariant-loop-name : goal.invariant-loop-name
invariant-loop-name l = AddsFiles (flat_map file_read (take l.name-index l.self.files.items)) l.fn.files.files.items l.files.files.items
