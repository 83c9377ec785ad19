use Rattle.station_commands.proofs.FolderHeld.{confirmed_are_kept, kept_are_filed}
use Rattle.station_commands.proofs.laws.confirmed_are_kept.Goals as goal

pub returns-clause-kept : goal.returns-clause-kept
returns-clause-kept c = confirmed_are_kept c.held_are_stored.ensures.stored

pub returns-clause-filed : goal.returns-clause-filed
returns-clause-filed c = kept_are_filed c.held_answers_are_steps.ensures c.held_page_stays.ensures
