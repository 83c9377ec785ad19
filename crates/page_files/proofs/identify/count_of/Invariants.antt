-- What holds in the loop of `count_of`.
use Rattle.std.proofs.Common.{◌≡◌, ◌≤◌, take}
use Rattle.page_files.specs.Identified.{count_of}
use Rattle.page_files.proofs.identify.count_of.Given as goal

abbrev pub invariant-loop-one : goal.invariant-loop-one
invariant-loop-one l = record {
  count : l.count ≡ count_of l.fit l.octets (take l.one-index l.tried);
  few : l.count ≤ l.one-index;
}
