use Rattle.joined_terminals.proofs.Making.{check_comes, on_ok}
use Rattle.joined_terminals.proofs.happenings.answerer_hears_training.Goals as goal

pub returns : goal.returns
returns c =
    on_ok c.hear_training.result (check_comes c.args.octets.now c.args.answerer.now.speaking c.hear_training.new.self.speaking) c.hear_training.ensures.ok
