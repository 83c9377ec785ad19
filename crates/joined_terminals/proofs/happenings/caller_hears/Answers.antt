use Rattle.joined_terminals.proofs.Making.{hearing_caller}
use Rattle.joined_terminals.proofs.happenings.caller_hears.Goals as goal

pub returns : goal.returns
returns c =
    hearing_caller c.terminals_are_safe.ensures.takes c.args.caller.now c.args.octets.now c.hear.new.self c.hear.result c.hear.ensures
