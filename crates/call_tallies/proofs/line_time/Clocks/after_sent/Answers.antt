-- What the check asks of `after_sent`.
use Rattle.call_tallies.proofs.LineTimes.{both_run}
use Rattle.call_tallies.proofs.line_time.Clocks.after_sent.Goals as goal

pub returns-clause-runs : goal.returns-clause-runs
returns-clause-runs c =
    both_run c.args.counts c.args.live.now c.args.self
    (record { to_answerer = c.in_ok-to_answerer.to_answerer; to_caller = c.in_ok-to_caller.to_caller })
    c.in_ok-to_answerer.ensures.runs c.in_ok-to_caller.ensures.runs
