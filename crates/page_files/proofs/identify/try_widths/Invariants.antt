-- What holds in the loop of `try_widths`.
use Rattle.std.proofs.Common.{◌≡◌, ◌++◌, All, map, take}
use Rattle.std.specs.Prelude.{IfSome}
use Rattle.page_files.specs.Identified.{IsTried, form_of, forms_in}
use Rattle.page_files.specs.Sources.{IsPageIn}
use Rattle.page_files.proofs.identify.try_widths.Given as goal

abbrev pub invariant-loop-width : goal.invariant-loop-width
invariant-loop-width l = record {
  forms : map form_of l.results.tried.items
      ≡ map form_of l.initial.results.tried.items ++ forms_in l.coding l.source.order (take l.width-index l.widths);
  each : All (IsTried l.source.octets) l.initial.results.tried.items → All (IsTried l.source.octets) l.results.tried.items;
  found : IfSome l.initial.results.found (IsPageIn l.source.octets) → IfSome l.results.found (IsPageIn l.source.octets);
}
