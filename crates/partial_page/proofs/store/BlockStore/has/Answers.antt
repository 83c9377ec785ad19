use Rattle.std.proofs.Common.{◌<◌, ◌∙◌, sym, arith}
use Rattle.partial_page.proofs.StoreLemmas.{is_store, has_frame-frames_in}
use Rattle.partial_page.proofs.store.BlockStore.has.Goals as goal

pub returns-clause-store : goal.returns-clause-store
returns-clause-store c = rw (← c.self.view_is) (is_store _ _ _ _ _ c.self.invariant)

pub returns-clause-has : goal.returns-clause-has
returns-clause-has c =
    let below : c.args.n < 256 = omega arith in
    rw (← c.self.view_is)
    (c.bit_of.ensures ∙ sym (has_frame-frames_in c.self.inside.small c.self.inside.buffer.items c.self.inside.there c.self.inside.lengths
    c.args.n below))
