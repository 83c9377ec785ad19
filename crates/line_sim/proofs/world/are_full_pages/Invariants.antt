use Rattle.std.proofs.Common.{take}
use Rattle.std.specs.Prelude.{All}
use Rattle.raster.specs.Pages.{IsPage}
use Rattle.line_sim.proofs.world.are_full_pages.Given as goal

abbrev pub invariant-loop-page : goal.invariant-loop-page
invariant-loop-page l = All IsPage (take l.page-index l.pages)
