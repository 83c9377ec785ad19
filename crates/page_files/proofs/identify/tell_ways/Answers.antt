-- What the check asks of `tell_ways`.
use Rattle.std.proofs.KnownBytes.{Appends-trans}
use Rattle.page_files.proofs.identify.tell_ways.Goals as goal

pub returns-clause-told : goal.returns-clause-told
returns-clause-told g c =
    let unread = c.in_ok-tell_unread_by.ensures.told in
    (unread.0, unread.1, Appends-trans _ _ _ _ _ unread.2 c.in_ok-tell_those.ensures.told)
