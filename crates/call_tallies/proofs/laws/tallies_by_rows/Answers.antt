use Rattle.std.proofs.Common.{refl}
use Rattle.std.specs.Fmt.{digits}
use Rattle.call_tallies.proofs.laws.tallies_by_rows.Goals as goal

pub returns-clause-lines : goal.returns-clause-lines
unfolding digits
returns-clause-lines c = record {
  call = refl;
  ended = refl;
  none = refl;
  sum = refl;
  mild = refl;
  few = refl;
  seconds = refl;
}
