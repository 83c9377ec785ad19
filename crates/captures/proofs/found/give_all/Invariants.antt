-- What holds in the loop of `give_all`.
use Rattle.std.proofs.Common.{◌≡◌, length}
use Rattle.captures.proofs.Following.{IsOnWay}
use Rattle.captures.proofs.found.give_all.Given as goal

abbrev pub invariant-loop-one : goal.invariant-loop-one
invariant-loop-one g l =
    IsOnWay g.S.FoundStore.takes l.fn.store l.fn.found.items l.store l.one-iterator.rest.items
    × (l.one-iterator.rest.len ≡ length l.one-iterator.rest.items)
