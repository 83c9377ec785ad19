-- What the check asks of `add_files`.
use Rattle.command_files.proofs.ApartLemmas.{adds_on}
use Rattle.commands.specs.Files.{list_read}
use Rattle.commands.proofs.decode.each.EachCommandRuns.add_files.Goals as goal

pub returns : goal.returns
returns c = adds_on c.add_list.result _ (list_read c.args.self.now.list) _ _ _ c.in_ok-add_named.ensures c.add_list.ensures
