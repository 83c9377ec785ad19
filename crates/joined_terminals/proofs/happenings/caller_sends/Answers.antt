use Rattle.joined_terminals.proofs.Making.{gives_caller}
use Rattle.joined_terminals.proofs.happenings.caller_sends.Goals as goal

pub returns : goal.returns
returns c =
    gives_caller c.bursts_are_pieces.ensures.sends c.args.caller.now.speaking c.next_burst.new.self.speaking c.next_burst.result c.next_burst.ensures.sends
