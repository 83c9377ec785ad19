-- What the check asks of `said_lines`.
use Rattle.commands.proofs.identify.several.said_lines.Goals as goal

pub returns-then-records-clause-told : goal.returns-then-records-clause-told
returns-then-records-clause-told c =
    rw c.if-records.true
    (rw (c.new-lines.ensures.items, c.first_line-what.ensures, c.as_slice.ensures.value) at c.in_ok-write_said.ensures.told)
