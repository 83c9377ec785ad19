use Rattle.joined_terminals.proofs.Making.{waits_answerer, on_ok}
use Rattle.joined_terminals.proofs.happenings.answerer_waits.Goals as goal

pub returns : goal.returns
returns c =
    on_ok c.wait_over.result (waits_answerer c.args.wait c.args.answerer.now.speaking c.wait_over.new.self.speaking) c.wait_over.ensures.ok
