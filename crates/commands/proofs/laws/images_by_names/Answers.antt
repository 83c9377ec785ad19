use Rattle.commands.proofs.EachRows.{images_by_name, names_by_octets}
use Rattle.commands.proofs.laws.images_by_names.Goals as goal

pub returns-clause-images : goal.returns-clause-images
returns-clause-images c = images_by_name

pub returns-clause-names : goal.returns-clause-names
returns-clause-names c = names_by_octets
