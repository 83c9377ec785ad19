-- What the check asks of `command_in`.
use Rattle.calls.proofs.ScriptWords.{no_count}
use Rattle.calls.proofs.script.command_in.Goals as goal

pub returns-in_default-count_in : goal.returns-in_default-count_in
returns-in_default-count_in c =
    no_count c.args.line.now c.split_once.result c.split_once.ensures.cases _ c.in-Some.is c.in_default-count_in.ensures
