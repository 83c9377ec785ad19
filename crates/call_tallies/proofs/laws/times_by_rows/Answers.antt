use Rattle.std.proofs.Common.{refl}
use Rattle.call_tallies.proofs.laws.times_by_rows.Goals as goal

pub returns-clause-waits : goal.returns-clause-waits
returns-clause-waits c = record {
  t4 = refl;
  caller_t5 = refl;
  t1 = refl;
  t2 = refl;
  others = refl;
  no_dis = refl;
  answered = refl;
  goes_on = refl;
  none = refl;
  one = refl;
  waited = refl;
}
