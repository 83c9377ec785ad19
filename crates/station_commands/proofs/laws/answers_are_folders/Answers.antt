use Rattle.station_commands.proofs.FolderBooks.{answers_are_folders, breaks_are_folders}
use Rattle.station_commands.proofs.laws.answers_are_folders.Goals as goal

pub returns-clause-answers : goal.returns-clause-answers
returns-clause-answers c = answers_are_folders c.answers_are_steps.ensures

pub returns-clause-fails : goal.returns-clause-fails
returns-clause-fails c = breaks_are_folders c.answers_are_steps.ensures
