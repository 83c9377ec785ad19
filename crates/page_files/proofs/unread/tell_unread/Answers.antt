-- What the check asks of `tell_unread`.
use Rattle.std.proofs.Common.{List, subst}
use Rattle.page_files.specs.Identified.{UnreadBy}
use Rattle.page_files.specs.declared.identify.Tried.{Tried}
use Rattle.page_files.proofs.unread.tell_unread.Goals as goal

pub returns-clause-told : goal.returns-clause-told
returns-clause-told g c =
    let said = c.in_ok-results.said in
    let told = c.in_ok-tell_unread_by.ensures.told in (
      told.0,
      (
        c.in_ok-results.results.tried.items,
        said,
        c.in_ok-results.ensures.tried,
        subst (λ (list : List Tried). UnreadBy c.args.octets.now list said told.0) c.deref.ensures.value told.1,
      ),
      told.2,
    )
