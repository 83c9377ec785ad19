use Rattle.std.proofs.Common.{ℕ, List, length, ap}
use Rattle.std.specs.Prelude.{Option, nat_lt}
use Rattle.partial_page.specs.Store.{StoredFrames}
use Rattle.partial_page.proofs.StoreLemmas.{is_store, laid-cleared, none_in, bit_of-zeros}
use Rattle.partial_page.proofs.store.BlockStore.clear.Goals as goal

pub invariant_of-self : goal.invariant_of-self
invariant_of-self c = laid-cleared _ _ _ _ c.self.invariant

pub returns-clause-store : goal.returns-clause-store
returns-clause-store c = is_store _ _ _ _ _ (laid-cleared _ _ _ _ c.self.invariant)

pub returns-clause-empty : goal.returns-clause-empty
returns-clause-empty c =
    let with_frames : List (Option (List ℕ)) → StoredFrames =
    λ frames. record { small = c.self.inside.small; frames = frames; ready = nat_lt 0 (length c.self.inside.buffer.items) } in
    rw (← c.self.view_is)
    (ap with_frames (none_in c.self.inside.small c.self.inside.buffer.items _ c.self.inside.lengths (λ k h. bit_of-zeros 32 k)))
