use Rattle.judged_calls.proofs.AfterDcn.{silent_after_dcn}
use Rattle.judged_calls.proofs.laws.silent_after_dcn.Goals as goal

pub returns : goal.returns
returns c = silent_after_dcn (c.always_answered.ensures.caller, c.always_answered.ensures.answerer)
