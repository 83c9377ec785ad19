use Rattle.std.proofs.Common.{◌≡◌, ◌++◌}
use Rattle.partial_page.specs.Store.{joined_frames}
use Rattle.partial_page.proofs.store.BlockStore.append_joined.Given as goal

abbrev pub invariant-loop-number : goal.invariant-loop-number
invariant-loop-number l = l.octets.items ≡ l.fn.octets.items ++ joined_frames l.self.frames l.number
