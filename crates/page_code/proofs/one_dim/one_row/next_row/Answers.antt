use Rattle.std.proofs.Common.{refl}
use Rattle.page_code.proofs.one_dim.one_row.next_row.Goals as goal

pub returns-in-Some-pass_runs-clause-finds : goal.returns-in-Some-pass_runs-clause-finds
returns-in-Some-pass_runs-clause-finds c = λ before. (
  refl,
  refl,
  c.in-Some-pass_runs.ensures.refused.0,
  λ rows bits far on. c.in-Some-pass_runs.ensures.refused.1 before rows bits far on,
)
