-- What the loop of `with_entries` keeps.
use Rattle.std.proofs.Common.{◌≡◌, drop}
use Rattle.clap.specs.Words.{app_of}
use Rattle.faxtool.specs.Table.{with_commands}
use Rattle.faxtool.proofs.args.parser.with_entries.Given as goal

abbrev pub invariant-loop-entry : goal.invariant-loop-entry
invariant-loop-entry l = with_commands (app_of l.command) (drop l.entry-index l.fn.entries) ≡ with_commands (app_of l.fn.begun) l.fn.entries
