-- What the check asks of `with_entries`.
use Rattle.std.proofs.Common.{sym, ◌∙◌}
use Rattle.faxtool.proofs.CommandLemmas.{command_added, commands_there}
use Rattle.faxtool.proofs.args.parser.with_entries.Goals as goal

pub loop-entry-preserved : goal.loop-entry-preserved
loop-entry-preserved c =
    command_added c.loop-entry.command c.in_ok-command.command c.in_ok-command_of.field-0 _ c.args.entries.now c.loop-entry.entry-index _
    c.loop-entry-test.true c.in_ok-command.ensures c.in_ok-command_of.ensures.app c.in_ok-command_of.ensures.local c.loop-entry.invariant

pub returns : goal.returns
returns c =
    sym (commands_there _ c.args.entries.now c.loop-entry.entry-index c.loop-entry-test.false) ∙ c.loop-entry.invariant
