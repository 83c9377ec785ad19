-- What the check asks of `next_line`.
use Rattle.std.proofs.Common.{ap, Err, refl, rules}
use Rattle.conversations.proofs.LineOctets.{none_taken, plain_more, one_more, octet_lost, part_left, part_taken, too_many, with_feed, last_line, at_end}
use Rattle.conversations.proofs.reading.next_line.Goals as goal

pub loop-place-init : goal.loop-place-init
loop-place-init g c = none_taken _ _ (search rules)

pub loop-place-preserved : goal.loop-place-preserved
loop-place-preserved g c =
    one_more _ _ c.in-Some.octet _ _ _ _ (plain_more _ _ _ _ _ _ c.loop-place.invariant c.in_ok-take_plain.ensures.taken)
    (search rules) (search rules) c.in-Some.octet-test.1 (search rules)

pub returns-in-None : goal.returns-in-None
returns-in-None g c =
    at_end _ _ _ _ _ _ (plain_more _ _ _ _ _ _ c.loop-place.invariant c.in_ok-take_plain.ensures.taken) (search rules) (search rules)
    (search rules)

pub returns-in-Some-eq10 : goal.returns-in-Some-eq10
returns-in-Some-eq10 g c =
    with_feed _ _ _ _ _ (plain_more _ _ _ _ _ _ c.loop-place.invariant c.in_ok-take_plain.ensures.taken) (search rules)

pub returns-in-None-2 : goal.returns-in-None-2
returns-in-None-2 g c = last_line _ _ _ _ _ c.loop-place.invariant (search rules) (search rules) (search rules)

pub returns-then-len-ge-MOST_OCTETS : goal.returns-then-len-ge-MOST_OCTETS
returns-then-len-ge-MOST_OCTETS g c =
    too_many _ c.in-Some.octet _ _ _ _ (plain_more _ _ _ _ _ _ c.loop-place.invariant c.in_ok-take_plain.ensures.taken) (search rules)
    (search rules) c.in-Some.octet-test.1

pub returns-in_err-take_plain : goal.returns-in_err-take_plain
returns-in_err-take_plain g c =
    part_left _ _ _ c.in_err-take_plain.field-0.0 _ (λ e. c.in_err-take_plain.ensures.fault (ap Err e)) c.from_residual.ensures.1
    (part_taken _ _ _ _ _ _ c.loop-place.invariant c.in_err-take_plain.ensures.kept c.in_err-take_plain.ensures.line)

pub returns-in_err-next_octet : goal.returns-in_err-next_octet
returns-in_err-next_octet g c =
    part_left _ _ _ c.in_err-next_octet.field-0.0 _ (λ e. c.in_err-next_octet.ensures.fault (ap Err e))
    c.from_residual-in_err-next_octet.ensures.1
    (part_taken _ _ _ _ _ _ (plain_more _ _ _ _ _ _ c.loop-place.invariant c.in_ok-take_plain.ensures.taken)
    c.in_err-next_octet.ensures.kept refl)

pub returns-then-is_err : goal.returns-then-is_err
returns-then-is_err g c =
    octet_lost _ _ c.in-Some.octet _ _ _ _ (plain_more _ _ _ _ _ _ c.loop-place.invariant c.in_ok-take_plain.ensures.taken)
    (search rules) (search rules) c.in-Some.octet-test.1 (search rules)
