-- One page is stored, and it is the document's.
use Rattle.std.proofs.Common.{Some, ap, slice_get, subst, sym, ◌≡◌, ◌∙◌}
use Rattle.line_sim.proofs.SamePages.{first_of_one, is_the_one, is_there, one_element}
use Rattle.line_sim.proofs.pages.has_again.Goals as goal

pub returns-clause-same : goal.returns-clause-same
returns-clause-same c is =
    let same = c.same_page.ensures.same is in (
      c.stored-item.result,
      sym c.pages.ensures ∙ one_element c.pages.result.now c.stored-item.result _ c.in-len1.len_at_least c.in-len1.len_below c.stored-item.is,
      subst (λ document. slice_get document c.args.at ≡ Some c.stored-item.result) c.pages-document.ensures
          (is_there c.pages-document.result.now c.args.at c.in-Some.page.now c.in-Some.ensures.lookup.3.0 c.in-Some.ensures.lookup.1 ∙
          ap Some (sym same)),
    )

pub returns-clause-told : goal.returns-clause-told
returns-clause-told c again =
    c.same_page.ensures.told
    (first_of_one c.pages.result.now c.stored-item.result again.0 _ c.stored-item.is (c.pages.ensures ∙ again.1) ∙
    sym (is_the_one c.pages-document.result.now c.args.at c.in-Some.page.now again.0 c.in-Some.ensures.lookup.1
    (subst (λ document. slice_get document c.args.at ≡ Some again.0) (sym c.pages-document.ensures) again.2)))
