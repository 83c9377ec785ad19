-- What the check asks of `read_line`.
use Rattle.std.proofs.Common.{rules}
use Rattle.conversations.proofs.Words.{one_word, no_word_of, received_line, told_line}
use Rattle.conversations.proofs.line.read_line.Goals as goal

pub returns-in_default : goal.returns-in_default
returns-in_default c = λ _. one_word _ c.in_default.ensures

pub returns-then-is_rx : goal.returns-then-is_rx
returns-then-is_rx c = received_line _ _ _ _ c.in-Some.ensures.0 c.in-Some.ensures.1 c.if-line-gt-MOST_OCTETS.false (search rules)
    c.read_received.ensures

pub returns-in-Some-fate_by : goal.returns-in-Some-fate_by
returns-in-Some-fate_by c = told_line _ _ _ _ c.in-Some-fate_by.fate c.in-Some.ensures.0 c.in-Some.ensures.1 c.if-line-gt-MOST_OCTETS.false
    c.in-Some-fate_by.ensures c.read_told.ensures

pub returns-in_default-said_by : goal.returns-in_default-said_by
returns-in_default-said_by c = λ _. no_word_of _ _ _ c.in-Some.ensures.0 c.in-Some.ensures.1 (search rules) c.in_default-fate_by.ensures
    c.in_default-said_by.ensures
