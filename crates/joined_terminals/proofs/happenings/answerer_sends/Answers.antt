use Rattle.joined_terminals.proofs.Making.{gives_answerer}
use Rattle.joined_terminals.proofs.happenings.answerer_sends.Goals as goal

pub returns : goal.returns
returns c =
    gives_answerer c.bursts_are_pieces.ensures.sends c.args.answerer.now.speaking c.next_burst.new.self.speaking c.next_burst.result c.next_burst.ensures.sends
