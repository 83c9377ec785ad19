use Rattle.std.proofs.Common.{subst}
use Rattle.std.specs.Prelude.{All}
use Rattle.std.proofs.lemmas.List.{take_all}
use Rattle.std.proofs.lemmas.List.Elements.{All-more}
use Rattle.raster.specs.Pages.{IsPage}
use Rattle.line_sim.proofs.FullPages.{each_full}
use Rattle.line_sim.proofs.world.are_full_pages.Goals as goal

pub loop-page-preserved : goal.loop-page-preserved
loop-page-preserved c =
    All-more IsPage c.args.pages.now c.loop-page.page-index c.page-item.result c.loop-page-test.true c.loop-page.invariant
    (subst IsPage c.page-item.is c.rows-rows.ensures.page)

pub returns : goal.returns
returns c =
    each_full c.args.pages.now (subst (All IsPage)
    (take_all c.loop-page.page-index c.args.pages.now c.loop-page-test.false) c.loop-page.invariant) c.requires.rows
