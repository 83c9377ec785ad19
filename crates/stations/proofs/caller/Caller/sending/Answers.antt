use Rattle.std.proofs.Common.{◌≡◌, sym, ◌∙◌, None}
use Rattle.stations.specs.CallerFields.{IsSending}
use Rattle.stations.proofs.ItemLaws.{shows_sending, not_some}
use Rattle.stations.proofs.caller.Caller.sending.Goals as goal

pub returns-in-WaitBlock-clause-present : goal.returns-in-WaitBlock-clause-present
returns-in-WaitBlock-clause-present c =
    let sends : IsSending c.args.self.now.state = rw (← c.self.view_is, c.in-WaitBlock.is) tt in
    let on : c.args.self.now.ending ≡ None = rw (← c.self.view_is)
    (not_some c.self.inside.end (sym c.is_some.ensures ∙ c.if-is_some.false)) in
    shows_sending c.args.self.now c.coded_blocks.result sends on c.coded_blocks.ensures

pub returns-in-WaitReady-clause-present : goal.returns-in-WaitReady-clause-present
returns-in-WaitReady-clause-present c =
    let sends : IsSending c.args.self.now.state = rw (← c.self.view_is, c.in-WaitReady.is) tt in
    let on : c.args.self.now.ending ≡ None = rw (← c.self.view_is)
    (not_some c.self.inside.end (sym c.is_some.ensures ∙ c.if-is_some.false)) in
    shows_sending c.args.self.now c.coded_blocks-in-WaitReady.result sends on c.coded_blocks-in-WaitReady.ensures
