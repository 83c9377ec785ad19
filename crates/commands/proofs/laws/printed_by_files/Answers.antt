use Rattle.commands.proofs.PrintedRows.{printed_in_order, said_by_lines, unread_by_kind}
use Rattle.commands.proofs.laws.printed_by_files.Goals as goal

pub returns-clause-order : goal.returns-clause-order
returns-clause-order c = printed_in_order

pub returns-clause-lines : goal.returns-clause-lines
returns-clause-lines c = said_by_lines

pub returns-clause-unread : goal.returns-clause-unread
returns-clause-unread c = unread_by_kind
