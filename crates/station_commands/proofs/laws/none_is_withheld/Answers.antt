-- What the check asks of `none_is_withheld`.
use Rattle.station_commands.proofs.Sent.{all_sent}
use Rattle.station_commands.proofs.laws.none_is_withheld.Goals as goal
use Rattle.station_commands.specs.Talks.{confirmed_talker, folder_talker}

pub returns : goal.returns
returns c = record { answerer = all_sent folder_talker; caller = all_sent confirmed_talker }
