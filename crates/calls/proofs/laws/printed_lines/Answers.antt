use Rattle.std.proofs.Common.{refl}
use Rattle.std.specs.Fmt.{digits}
use Rattle.calls.proofs.laws.printed_lines.Goals as goal

pub returns : goal.returns
unfolding digits
returns c = record {
  burst = λ _. refl;
  refused_frame = refl;
  refused_input = λ _. refl;
  not_compatible = refl;
  bad_page = refl;
  page_too_long = refl;
}
