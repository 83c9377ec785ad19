-- What the check asks of `limits_by_lines`.
use Rattle.std.proofs.Common.{◌≡◌, Bool, Option, None, Some, false, true, refl}
use Rattle.conversations.specs.Refusing.{ends_by, gives_up}
use Rattle.stations.specs.declared.waiting.Wait.{Wait}
use Rattle.terminals.specs.Timeouts.{stop_or_over}
use Rattle.conversations.proofs.laws.lines.limits_by_lines.Goals as goal

goes_on : (over : Option Wait) → ends_by (stop_or_over false over) ≡ false
goes_on None = refl
goes_on (Some wait) = refl

is_said : (stops : Bool) (over : Option Wait) → gives_up (stop_or_over stops over) ≡ false
is_said true over = refl
is_said false None = refl
is_said false (Some wait) = refl

pub returns : goal.returns
returns c side shown clock d = record {
  early = goes_on _;
  quiet = refl;
  sooner = refl;
  ended = refl;
  carrier = refl;
  held = refl;
  silent = refl;
  untold = refl;
  quiet_said = λ now. is_said _ _;
  ended_said = λ now. is_said _ _;
  carrier_given_up = refl;
  untold_given_up = refl;
  over = λ state why. refl;
}
