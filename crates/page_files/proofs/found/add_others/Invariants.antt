-- What holds in the loop of `add_others`.
use Rattle.std.proofs.Common.{◌≡◌, ◌++◌, All, take}
use Rattle.raster.specs.Pixels.{IsWidth}
use Rattle.page_files.specs.Found.{others}
use Rattle.page_files.proofs.found.add_others.Given as goal

abbrev pub invariant-loop-other : goal.invariant-loop-other
invariant-loop-other l = record {
  others : l.list.items ≡ l.initial.list.items ++ others l.width (take l.other-index l.widths);
  pages : All IsWidth l.initial.list.items → All IsWidth l.list.items;
}
