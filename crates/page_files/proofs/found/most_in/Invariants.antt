-- What holds in the loop of `most_in`.
use Rattle.std.proofs.Common.{All, take}
use Rattle.std.specs.Prelude.{IfSome}
use Rattle.page_files.specs.Found.{IsMost}
use Rattle.page_files.specs.Identified.{IsWay}
use Rattle.page_files.proofs.found.most_in.Given as goal

abbrev pub invariant-loop-one : goal.invariant-loop-one
invariant-loop-one l = record {
  most : IsMost l.coding l.said l.octets (take l.one-index l.tried) l.most;
  way : All IsWay l.tried → IfSome l.most IsWay;
}
