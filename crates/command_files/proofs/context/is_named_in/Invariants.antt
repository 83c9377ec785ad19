-- What holds in the loop of `is_named_in`.
use Rattle.std.proofs.Common.{◌≡◌, drop}
use Rattle.command_files.specs.Told.{is_named_in}
use Rattle.command_files.proofs.context.is_named_in.Given as goal

abbrev pub invariant-loop-one : goal.invariant-loop-one
invariant-loop-one l = is_named_in l.name (drop l.one-index l.names) ≡ is_named_in l.name l.names
