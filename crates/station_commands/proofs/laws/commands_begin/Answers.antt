use Rattle.station_commands.proofs.FolderHeld.{commands_begin}
use Rattle.station_commands.proofs.laws.commands_begin.Goals as goal

pub returns : goal.returns
returns c = commands_begin
