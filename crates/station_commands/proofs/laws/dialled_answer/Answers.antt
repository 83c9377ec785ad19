use Rattle.station_commands.specs.Talks.{confirmed_talker}
use Rattle.station_commands.proofs.laws.dialled_answer.Goals as goal

pub returns : goal.returns
returns c text old new told tells before after kept over others answers comes =
    c.contracts_are_answers.ensures.caller (λ old c said new after kept h. h.0) confirmed_talker.keeping.takes confirmed_talker.keeping.tells
    text old new told tells before after kept over others answers comes
