use Rattle.partial_page.proofs.StoreLemmas.{is_store}
use Rattle.partial_page.proofs.store.BlockStore.put.Goals as goal

pub returns-then-octets-frame_octets-clause-store : goal.returns-then-octets-frame_octets-clause-store
returns-then-octets-frame_octets-clause-store c = rw (← c.self.view_is) (is_store _ _ _ _ _ c.self.invariant)

pub returns-in_err-make_ready-clause-store : goal.returns-in_err-make_ready-clause-store
returns-in_err-make_ready-clause-store c = rw (c.in_err-make_ready.ensures.err, ← c.self.view_is) (is_store _ _ _ _ _ c.self.invariant)
