use Rattle.joined_terminals.proofs.Making.{hangs_up_answerer}
use Rattle.joined_terminals.proofs.happenings.answerer_hangs_up.Goals as goal

pub returns : goal.returns
returns c =
    hangs_up_answerer c.args.answerer.now.speaking c.hang_up.new.self.speaking c.hang_up.ensures.speaking
