-- What holds in the loop of `usual_of`.
use Rattle.std.proofs.Common.{◌≡◌, drop}
use Rattle.std.specs.Prelude.{find, nat_eq}
use Rattle.page_files.proofs.agreed_widths.usual_of.Given as goal

abbrev pub invariant-loop-usual : goal.invariant-loop-usual
invariant-loop-usual l = find (nat_eq l.width) (drop l.usual-index l.widths) ≡ find (nat_eq l.width) l.widths
