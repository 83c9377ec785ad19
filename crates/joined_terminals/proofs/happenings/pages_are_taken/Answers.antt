use Rattle.joined_terminals.proofs.Making.{takes_out}
use Rattle.joined_terminals.proofs.happenings.pages_are_taken.Goals as goal

pub returns : goal.returns
returns c =
    takes_out c.args.answerer.now.speaking c.take_pages.new.self.speaking c.take_pages.result.items c.take_pages.ensures.pages c.take_pages.ensures.left
