use Rattle.std.proofs.Common.{◌≡◌, ◌<◌, ℕ, true}
use Rattle.partial_page.specs.Store.{has_frame}
use Rattle.partial_page.proofs.store.BlockStore.whole.Given as goal

abbrev pub invariant-loop-number : goal.invariant-loop-number
invariant-loop-number l = (k : ℕ) → k < l.number → has_frame l.self.frames k ≡ true
