-- What the check asks of `call_commands`.
use Rattle.std.proofs.Common.{refl}
use Rattle.faxtool.specs.Table.{with_arguments, with_commands}
use Rattle.faxtool.proofs.args.table.call_commands.Goals as goal

pub returns : goal.returns
unfolding with_arguments with_commands
returns c app pages = record {
  begun = app;
  pages = pages;
  codings = _;
  orders = _;
  sizes = _;
  modems = _;
  ends = _;
  names = record {
    takes_codings = (_, refl, refl);
    takes_sizes = (_, refl, refl);
    takes_modems = (_, refl, refl);
  };
  takes_orders = (_, refl, refl);
  takes_ends = (_, refl, refl);
  commands = refl;
}
