-- What the check asks of `run`.
use Rattle.std.proofs.Common.{◌≡◌, rules}
use Rattle.commands.specs.Runs.{as_wanted}
use Rattle.commands.proofs.call.ScriptCommandRuns.run.Goals as goal

pub returns : goal.returns
returns c =
    let wanted : c.of.result ≡ as_wanted c.args.self.now.normal c.in_ok-ending.ending = search rules in
    (c.in_ok-ending.ending, c.in_ok-ending.ensures.called, wanted)
