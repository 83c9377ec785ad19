-- What the check asks of the law of what is stored.
use Rattle.conversations.proofs.StoredLines.{last_is_said, line_is_said, refused_is_last, stored_is_said}
use Rattle.conversations.proofs.laws.stored_is_said.Goals as goal

pub returns-clause-lines : goal.returns-clause-lines
returns-clause-lines g c =
    stored_is_said c.cuts_change_nothing.ensures c.stored_is_read.ensures.runs c.taken_and_there.ensures.runs c.limited_serves.ensures
    g.P.PageStore.stores g.P.PageStore.refuses

pub returns-clause-last : goal.returns-clause-last
returns-clause-last g c =
    last_is_said c.cuts_change_nothing.ensures c.stored_is_read.ensures.runs c.taken_and_there.ensures.runs c.limited_serves.ensures
    g.P.PageStore.stores g.P.PageStore.refuses

pub returns-clause-refused : goal.returns-clause-refused
returns-clause-refused g c =
    refused_is_last c.cuts_change_nothing.ensures c.stored_is_read.ensures.runs c.taken_and_there.ensures.runs c.limited_serves.ensures
    g.P.PageStore.stores g.P.PageStore.refuses

pub returns-clause-heard : goal.returns-clause-heard
returns-clause-heard g c =
    line_is_said c.cuts_change_nothing.ensures c.stored_is_read.ensures.runs c.taken_and_there.ensures.runs c.limited_serves.ensures
    g.P.PageStore.stores g.P.PageStore.refuses
