use Rattle.station_commands.proofs.FolderBooks.{folder_keeps_all}
use Rattle.station_commands.proofs.laws.folder_keeps_all.Goals as goal

pub returns : goal.returns
returns c = folder_keeps_all
