use Rattle.joined_terminals.proofs.Making.{hangs_up_caller}
use Rattle.joined_terminals.proofs.happenings.caller_hangs_up.Goals as goal

pub returns : goal.returns
returns c =
    hangs_up_caller c.args.caller.now.speaking c.hang_up.new.self.speaking c.hang_up.ensures.speaking
