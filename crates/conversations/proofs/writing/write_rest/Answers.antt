-- What the check asks of `write_rest`.
use Rattle.conversations.proofs.Written.{failed, whole_part}
use Rattle.conversations.proofs.writing.write_rest.Goals as goal
use Rattle.conversations.specs.Writing.{done_line}

pub returns-in_err-flush-in-Some-clause-writes : goal.returns-in_err-flush-in-Some-clause-writes
returns-in_err-flush-in-Some-clause-writes g c =
    rw c.in-Some.is (failed done_line _ _ _ c.from_residual-in_err-flush-in-Some.ensures.0
    (whole_part done_line _ _ _ c.in_ok-write_octets-in-Some.ensures c.in_err-flush-in-Some.ensures.bytes))
