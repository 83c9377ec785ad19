use Rattle.joined_terminals.proofs.Making.{hearing_answerer}
use Rattle.joined_terminals.proofs.happenings.answerer_hears.Goals as goal

pub returns : goal.returns
returns c =
    hearing_answerer c.terminals_are_safe.ensures.takes c.args.answerer.now c.args.octets.now c.hear.new.self c.hear.result c.hear.ensures
