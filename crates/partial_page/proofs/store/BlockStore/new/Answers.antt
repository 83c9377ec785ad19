use Rattle.partial_page.proofs.StoreLemmas.{is_store, laid-new, new_is}
use Rattle.partial_page.proofs.store.BlockStore.new.Goals as goal

pub invariant_of-result : goal.invariant_of-result
invariant_of-result c = laid-new _ _ c.new.ensures.items

pub returns-clause-store : goal.returns-clause-store
returns-clause-store c = is_store _ _ _ _ _ (laid-new _ _ c.new.ensures.items)

pub returns-clause-empty : goal.returns-clause-empty
returns-clause-empty c = new_is c.args.small c.new.result.items c.new.ensures.items
