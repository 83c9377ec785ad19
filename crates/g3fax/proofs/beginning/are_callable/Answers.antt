use Rattle.std.proofs.Common.{subst, refl}
use Rattle.std.specs.Prelude.{IsSome}
use Rattle.std.proofs.lemmas.List.{take_all}
use Rattle.std.proofs.lemmas.List.Elements.{All-more}
use Rattle.raster.specs.Pages.{PagePixels}
use Rattle.signals.specs.Agreement.{width_of_pixels}
use Rattle.stations.specs.CallerFields.{AreCallable}
use Rattle.g3fax.proofs.beginning.are_callable.Goals as goal

pub loop-page-preserved : goal.loop-page-preserved
loop-page-preserved c =
    All-more (λ (page : PagePixels). IsSome (width_of_pixels page.width)) c.args.pages.now c.loop-page.page-index c.page-item.result
    c.loop-page-test.true c.loop-page.invariant
    (subst (λ (page : PagePixels). IsSome (width_of_pixels page.width)) c.page-item.is (c.is_callable.ensures.0 c.if-not-is_callable.false))

pub returns : goal.returns
returns c = (
  λ _. subst AreCallable (take_all c.loop-page.page-index c.args.pages.now c.loop-page-test.false) c.loop-page.invariant,
  λ _. refl,
)
