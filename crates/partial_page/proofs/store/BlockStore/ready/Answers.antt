use Rattle.partial_page.proofs.StoreLemmas.{is_store}
use Rattle.partial_page.proofs.store.BlockStore.ready.Goals as goal

pub returns-clause-store : goal.returns-clause-store
returns-clause-store c = rw (← c.self.view_is) (is_store _ _ _ _ _ c.self.invariant)
