-- What words of the generator make of items.
use Rattle.std.proofs.Common.{◌≤◌, ◌+◌, ◌∙◌, Bool, false, ap, arith}
use Rattle.std.proofs.lemmas.Bool.{lt-ltb, le-ltb}
use Rattle.std.specs.Prelude.{if◌then◌else◌, nat_lt}
use Rattle.line_sim.specs.Driving.{Fate}
use Rattle.line_sim.specs.Driving.Fate.{comes, lost, spoiled}
use Rattle.calls.specs.Losses.{FatesAreShared}

-- the fate by the two tests
abbrev by_tests : Bool → Bool → Fate
by_tests loses spoils = if loses then lost else if spoils then spoiled else comes

pub fates_are_shared : FatesAreShared
fates_are_shared line word = record {
  loses = λ low. ap (λ loses. by_tests loses (nat_lt word (line.lose + line.spoil))) (lt-ltb word line.lose low);
  spoils = λ high low.
      ap (λ loses. by_tests loses (nat_lt word (line.lose + line.spoil))) (le-ltb word line.lose high) ∙
      ap (by_tests false) (lt-ltb word (line.lose + line.spoil) low);
  spares = λ high.
      let past : line.lose ≤ word = omega arith in
      ap (λ loses. by_tests loses (nat_lt word (line.lose + line.spoil))) (le-ltb word line.lose past) ∙
      ap (by_tests false) (le-ltb word (line.lose + line.spoil) high);
  busy = λ low. lt-ltb word line.busy low;
  ready = λ high. le-ltb word line.busy high;
}
