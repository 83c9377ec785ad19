-- What the check asks of `tell_counts`.
use Rattle.std.proofs.Common.{rules, ◌≡◌, true}
use Rattle.std.proofs.KnownBytes.{Appends-trans}
use Rattle.page_files.proofs.answer.tell_counts.Goals as goal

pub returns-clause-told : goal.returns-clause-told
returns-clause-told g c =
    let verbose : c.args.options.verbose ≡ true = search rules in
    rw verbose (Appends-trans _ _ _ _ _ c.in_ok-tell_page.ensures.told c.in_ok-tell_after.ensures.told)
