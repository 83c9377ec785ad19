use Rattle.joined_terminals.proofs.Making.{loses_answerer}
use Rattle.joined_terminals.proofs.happenings.answerer_is_lost.Goals as goal

pub returns : goal.returns
returns c =
    loses_answerer c.args.answerer.now.speaking c.lost.new.self.speaking c.lost.ensures.speaking
