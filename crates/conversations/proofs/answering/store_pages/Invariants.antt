-- What holds in the loop of `store_pages`.
use Rattle.std.proofs.Common.{◌≡◌, length}
use Rattle.conversations.proofs.Stored.{IsOnWay}
use Rattle.conversations.proofs.answering.store_pages.Given as goal

abbrev pub invariant-loop-page : goal.invariant-loop-page
invariant-loop-page g l =
    IsOnWay g.P.PageStore.stores g.P.PageStore.refuses l.fn.store l.fn.pages.items l.store l.page-iterator.rest.items
    × (l.page-iterator.rest.len ≡ length l.page-iterator.rest.items)
