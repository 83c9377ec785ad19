-- What the check asks of `commands`.
use Rattle.std.proofs.Common.{refl}
use Rattle.faxtool.specs.Table.{with_arguments, with_commands}
use Rattle.faxtool.proofs.args.table.commands.Goals as goal

pub returns : goal.returns
unfolding with_arguments with_commands
returns c = record {
  codings = _;
  orders = _;
  takes_codings = (_, refl, refl);
  takes_orders = (_, refl, refl);
  commands = refl;
}
