use Rattle.station_commands.proofs.FolderLemmas.{folder_is_store}
use Rattle.station_commands.proofs.laws.folder_is_store.Goals as goal

pub returns : goal.returns
returns c = folder_is_store
