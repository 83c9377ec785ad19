use Rattle.joined_terminals.proofs.Making.{loses_caller}
use Rattle.joined_terminals.proofs.happenings.caller_is_lost.Goals as goal

pub returns : goal.returns
returns c =
    loses_caller c.args.caller.now.speaking c.lost.new.self.speaking c.lost.ensures.speaking
