use Rattle.stations.proofs.Hearing.{pages_come_where_heard, replies_tell_what_is_first, silence_leaves_what_is_first}
use Rattle.stations.proofs.laws.first_is_told.Goals as goal

pub returns-clause-replies : goal.returns-clause-replies
returns-clause-replies c = replies_tell_what_is_first

pub returns-clause-silence : goal.returns-clause-silence
returns-clause-silence c = silence_leaves_what_is_first

pub returns-clause-caller : goal.returns-clause-caller
returns-clause-caller c = pages_come_where_heard
