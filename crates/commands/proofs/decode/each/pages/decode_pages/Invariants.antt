-- What holds in the loop of `decode_pages`: the pages so far, and what is reported of them.
use Rattle.std.proofs.Common.{◌≡◌}
use Rattle.std.specs.Prelude.{IfSome}
use Rattle.page_files.specs.LaterPages.{BeginsWith}
use Rattle.page_files.specs.Sources.{IsPageIn}
use Rattle.commands.specs.Each.{ArePagesTo}
use Rattle.commands.proofs.decode.each.pages.decode_pages.Given as goal

abbrev pub invariant-loop-before : goal.invariant-loop-before
invariant-loop-before l = record {
  form : l.left.form ≡ l.form;
  used : IfSome l.used (BeginsWith l.form l.left.octets);
  found : IfSome l.found (IsPageIn l.left.octets);
  pages : ArePagesTo l.of.options l.form l.fn.read.items l.before l.left.octets l.pages.items l.told.items l.are_complete;
}
