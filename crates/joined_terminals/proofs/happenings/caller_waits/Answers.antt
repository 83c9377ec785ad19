use Rattle.joined_terminals.proofs.Making.{waits_caller, on_ok}
use Rattle.joined_terminals.proofs.happenings.caller_waits.Goals as goal

pub returns : goal.returns
returns c =
    on_ok c.wait_over.result (waits_caller c.args.wait c.args.caller.now.speaking c.wait_over.new.self.speaking) c.wait_over.ensures.ok
