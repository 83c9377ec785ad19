use Rattle.station_commands.proofs.FolderBooks.{confirmed_are_filed}
use Rattle.station_commands.proofs.laws.confirmed_are_filed.Goals as goal

pub returns : goal.returns
returns c = confirmed_are_filed c.confirmed_are_stored.ensures.stored
