-- What the check asks of `store_pages`.
use Rattle.std.proofs.Common.{◌≡◌, ◌∷◌, List, length, ap, arith, subst, sym, rules, ◌∙◌}
use Rattle.conversations.proofs.Stored.{IsOnWay, all_are, begins, goes_on, on_err, stops}
use Rattle.conversations.proofs.answering.store_pages.Goals as goal
use Rattle.raster.specs.Pages.{PagePixels}

pub loop-page-init : goal.loop-page-init
loop-page-init g c =
    let gives = c.into_iter-page-iterator.ensures.into_iter_gives in (
      subst (λ (l : List PagePixels).
          IsOnWay g.P.PageStore.stores g.P.PageStore.refuses c.args.store.now c.args.pages.items c.args.store.now l) (sym gives.0)
          (begins _ _ _ _),
      let counted : c.args.pages.len ≡ length c.args.pages.items = search rules in
          gives.1 ∙ counted ∙ ap (λ (l : List PagePixels). length l) (sym gives.0),
    )

pub loop-page-preserved : goal.loop-page-preserved
loop-page-preserved g c =
    let at = c.loop-page in
    let steps : at.page-iterator.rest.items ≡ c.in-Some.page ∷ c.next.new.self.rest.items = c.in-Some.ensures.steps.0 in
    let way = subst (λ (l : List PagePixels).
    IsOnWay g.P.PageStore.stores g.P.PageStore.refuses c.args.store.now c.args.pages.items at.store l) steps at.invariant.0 in (
      goes_on _ _ _ _ _ _ _ _ way c.in_ok-store.ensures.ok,
      let was = at.invariant.1 in let gone = c.in-Some.ensures.steps.1 in let shorter = ap length steps in omega arith,
    )

pub returns-in_err-store-clause-err : goal.returns-in_err-store-clause-err
returns-in_err-store-clause-err g c =
    let at = c.loop-page in
    let steps : at.page-iterator.rest.items ≡ c.in-Some.page ∷ c.next.new.self.rest.items = c.in-Some.ensures.steps.0 in
    let way = subst (λ (l : List PagePixels).
    IsOnWay g.P.PageStore.stores g.P.PageStore.refuses c.args.store.now c.args.pages.items at.store l) steps at.invariant.0 in
    on_err c.from_residual.result c.from_residual.ensures.0 (stops _ _ _ _ _ _ _ _ way c.in_err-store.ensures.err)

pub returns-clause-ok : goal.returns-clause-ok
returns-clause-ok g c =
    let at = c.loop-page in
    all_are _ _ _ _ _ _ at.invariant.0 (sym at.invariant.1 ∙ c.in-None.ensures.steps.0)
