-- What the check asks of `parts_of`.
use Rattle.call_logs.proofs.Words.{too_many}
use Rattle.call_logs.proofs.log.parts_of.Goals as goal

pub returns-in-Some : goal.returns-in-Some
returns-in-Some c =
    too_many c.args.line.now c.in_ok-at.at.now c.in_ok-at.rest.now c.in_ok-who.who.now c.in_ok-who.digits.now c.in-Some._more.0.now
    c.in-Some._more.1.now c.in_ok-at.ensures.pieces c.in_ok-who.ensures.pieces c.in-Some.ensures.pieces
