-- What the check asks of `read_rate`.
use Rattle.std.proofs.Common.{Some, None, arith}
use Rattle.std.proofs.lemmas.Str.Pattern.{split_parts, strip_suffix_char}
use Rattle.calls.proofs.Rates.{no_rate, only_fraction, only_percent}
use Rattle.calls.proofs.losses.read_rate.Goals as goal

pub returns-in-Some-clause-only : goal.returns-in-Some-clause-only
returns-in-Some-clause-only c =
    only_percent c.args.text.now c.in-Some.digits.now c.percent_in.result
    (strip_suffix_char 37 c.args.text.now (Some c.in-Some.digits) c.in-Some.ensures.cases (omega arith)) c.percent_in.ensures.only

pub returns-in_default-split_once-clause-only : goal.returns-in_default-split_once-clause-only
returns-in_default-split_once-clause-only c share is =
    absurd (no_rate c.args.text.now (strip_suffix_char 37 c.args.text.now None c.in_default.ensures.cases (omega arith))
    (split_parts 47 c.args.text.now None c.in_default-split_once.ensures.cases (omega arith)) share is)

pub returns-clause-only : goal.returns-clause-only
returns-clause-only c =
    only_fraction c.args.text.now (c.in-Some-split_once.above, c.in-Some-split_once.below) c.fraction_in.result
    (strip_suffix_char 37 c.args.text.now None c.in_default.ensures.cases (omega arith)) c.in-Some-split_once.ensures.cases
    c.fraction_in.ensures.only
