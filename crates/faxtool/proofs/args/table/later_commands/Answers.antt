-- What the check asks of `later_commands`.
use Rattle.std.proofs.Common.{refl}
use Rattle.faxtool.specs.Table.{with_arguments, with_commands}
use Rattle.faxtool.proofs.args.table.later_commands.Goals as goal

pub returns : goal.returns
unfolding with_arguments with_commands
returns c app first = record {
  begun = app;
  first = first;
  codings = _;
  sizes = _;
  modems = _;
  widths = _;
  names = record {
    takes_codings = (_, refl, refl);
    takes_sizes = (_, refl, refl);
    takes_modems = (_, refl, refl);
  };
  takes_widths = (_, refl, refl);
  commands = refl;
}
