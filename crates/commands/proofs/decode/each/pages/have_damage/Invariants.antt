-- What holds in the loop of `have_damage`: no page so far is damaged, so that those that are left decide.
use Rattle.std.proofs.Common.{◌≡◌, drop}
use Rattle.commands.specs.Pages.{have_damage}
use Rattle.commands.proofs.decode.each.pages.have_damage.Given as goal

abbrev pub invariant-loop-page : goal.invariant-loop-page
invariant-loop-page l = have_damage (drop l.page-index l.pages) ≡ have_damage l.pages
