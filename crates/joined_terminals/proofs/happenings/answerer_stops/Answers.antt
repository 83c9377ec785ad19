use Rattle.joined_terminals.proofs.Making.{stops_answerer}
use Rattle.joined_terminals.proofs.happenings.answerer_stops.Goals as goal

pub returns : goal.returns
returns c =
    stops_answerer c.args.answerer.now.speaking c.stop.new.self.speaking c.stop.ensures.speaking
