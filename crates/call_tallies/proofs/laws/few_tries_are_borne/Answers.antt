use Rattle.call_tallies.proofs.FewBorne.{few_tries_borne, few_tries_driven}
use Rattle.call_tallies.proofs.laws.few_tries_are_borne.Goals as goal

pub returns-clause-driven : goal.returns-clause-driven
returns-clause-driven c = few_tries_driven

pub returns-clause-borne : goal.returns-clause-borne
returns-clause-borne c = few_tries_borne c.driven_calls_end.ensures.safe c.calls_bear.ensures.ends
