-- What holds in the loop of `skip_pages`: the pages so far were passed, and nothing is kept.
use Rattle.std.proofs.Common.{◌≡◌, None}
use Rattle.page_files.specs.LaterPages.{AreAfter}
use Rattle.page_files.proofs.later_pages.skip_pages.Given as goal

abbrev pub invariant-loop-before : goal.invariant-loop-before
invariant-loop-before l = record {
  form : l.left.form ≡ l.fn.left.form;
  after : AreAfter l.mends l.fn.left.form l.fn.left.octets l.before l.left.octets;
  none : l.kept ≡ None;
}
