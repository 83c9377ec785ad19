-- What the loops of `command_of` keep.
use Rattle.std.proofs.Common.{◌≡◌, false, drop}
use Rattle.clap.specs.Words.{app_of}
use Rattle.clap.specs.declared.builder.command.Command.TheViews.{out-Command as fields_of}
use Rattle.faxtool.specs.Table.{app_in, with_arguments}
use Rattle.faxtool.proofs.args.parser.command_of.Given as goal

abbrev pub invariant-loop-argument : goal.invariant-loop-argument
invariant-loop-argument l = record {
  left : with_arguments (app_of l.command) (drop l.argument-index l.argument-items) ≡ app_in l.fn.entry;
  local : (fields_of l.command).has_globals ≡ false;
}
