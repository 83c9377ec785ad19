use Rattle.joined_terminals.proofs.Making.{stops_caller}
use Rattle.joined_terminals.proofs.happenings.caller_stops.Goals as goal

pub returns : goal.returns
returns c =
    stops_caller c.args.caller.now.speaking c.stop.new.self.speaking c.stop.ensures.speaking
