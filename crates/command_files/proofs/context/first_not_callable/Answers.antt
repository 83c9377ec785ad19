-- What the check asks of `first_not_callable`.
use Rattle.std.proofs.Common.{◌≡◌, ◌∙◌, ◌++◌, ◌∷◌, [], ap, arith, is_some, not, subst, true}
use Rattle.std.proofs.lemmas.List.{length-append}
use Rattle.std.proofs.lemmas.List.Elements.{All-append, All-cons, All-nil}
use Rattle.command_files.proofs.ApartLemmas.{one_passed}
use Rattle.command_files.specs.Told.{IsCallable}
use Rattle.signals.specs.Agreement.{width_of_pixels}
use Rattle.command_files.proofs.context.first_not_callable.Goals as goal

pub loop-left-preserved : goal.loop-left-preserved
loop-left-preserved c =
    let (front, split, carried, number) = c.loop-left.invariant in
    let page = c.page-item.result in
    let callable : IsCallable page = subst (λ width. is_some width ≡ true)
    (c.of_pixels.ensures ∙ ap width_of_pixels c.width-width.ensures) (c.is_none.ensures ∙ ap not c.if-is_none.false) in
    let more = c.saturating_add-number.ensures in
    let size = length-append front (page ∷ []) in (
      front ++ page ∷ [],
      one_passed c.args.pages.now front c.loop-left.left.now page _ split c.in-len1-up.len_at_least c.page-item.is,
      All-append IsCallable front (page ∷ []) carried (All-cons IsCallable page [] callable (All-nil IsCallable)),
      omega (arith, number, more, size),
    )
