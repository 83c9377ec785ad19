use Rattle.joined_terminals.proofs.Making.{tells_answerer, on_ok}
use Rattle.joined_terminals.proofs.happenings.answerer_is_told.Goals as goal

pub returns : goal.returns
returns c =
    on_ok c.set_busy.result (tells_answerer c.args.is c.args.answerer.now.speaking c.set_busy.new.self.speaking) c.set_busy.ensures.ok
