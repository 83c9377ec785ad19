use Rattle.station_commands.proofs.FolderSaid.{accepted_are_filed, answerers_are_new, folder_is_said, stations_file}
use Rattle.station_commands.proofs.laws.folder_is_said.Goals as goal

pub returns-clause-new : goal.returns-clause-new
returns-clause-new c = answerers_are_new

pub returns-clause-lines : goal.returns-clause-lines
returns-clause-lines c = folder_is_said c.stored_is_said.ensures.lines

pub returns-clause-command : goal.returns-clause-command
returns-clause-command c = stations_file c.stored_is_said.ensures.lines c.stored_is_said.ensures.heard

pub returns-clause-accepted : goal.returns-clause-accepted
returns-clause-accepted c = accepted_are_filed
