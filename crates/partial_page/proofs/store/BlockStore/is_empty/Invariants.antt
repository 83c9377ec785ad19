use Rattle.std.proofs.Common.{◌≡◌, ◌<◌, ℕ, false}
use Rattle.partial_page.specs.Store.{has_frame}
use Rattle.partial_page.proofs.store.BlockStore.is_empty.Given as goal

abbrev pub invariant-loop-number : goal.invariant-loop-number
invariant-loop-number l = (k : ℕ) → k < l.number → has_frame l.self.frames k ≡ false
