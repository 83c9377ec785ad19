-- What the check asks of `run`.
use Rattle.std.proofs.Common.{◌≡◌, None, inl, rules}
use Rattle.commands.specs.Runs.{as_wanted}
use Rattle.commands.proofs.call.drives.DriveCommandRuns.run.Goals as goal

pub returns-after-is_normal : goal.returns-after-is_normal
returns-after-is_normal c =
    let once : c.args.self.now.times ≡ None = search rules in
    let wanted : c.of.result ≡ as_wanted c.args.self.now.normal c.in_ok-ending-in-None.ending = search rules in
    inl (once, c.in_ok-ending-in-None.ending, c.in_ok-ending-in-None.ensures.called, wanted)
