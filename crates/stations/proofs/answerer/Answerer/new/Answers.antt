-- A new answerer is within its limits.
use Rattle.stations.proofs.answerer.Answerer.new.Goals as goal

pub returns-clause-limits : goal.returns-clause-limits
returns-clause-limits c = rw (c.new.ensures, c.new-2.ensures, c.new-3.ensures.items)
    (c.open_is_limited.ensures.new c.args.caps c.no_params.result)
