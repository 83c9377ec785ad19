use Rattle.station_commands.proofs.FolderHeld.{answers_are_held, commands_hold_one}
use Rattle.station_commands.proofs.laws.answers_are_held.Goals as goal

pub returns-clause-answers : goal.returns-clause-answers
returns-clause-answers c = answers_are_held c.held_answers_are_steps.ensures c.held_page_stays.ensures

pub returns-clause-one : goal.returns-clause-one
returns-clause-one c = commands_hold_one c.held_answers_are_steps.ensures
