use Rattle.std.proofs.Common.{◌≡◌, ◌++◌, drop}
use Rattle.g3fax.proofs.redials.copied_pages.Given as goal

abbrev pub invariant-loop-page : goal.invariant-loop-page
invariant-loop-page l = l.copy ++ drop l.page-index l.others ≡ l.pages
