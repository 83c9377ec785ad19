use Rattle.std.proofs.Common.{◌≡◌, ◌≤◌, ◌<◌, ◌∙◌, true, length, ap, arith}
use Rattle.std.specs.Prelude.{nat_lt}
use Rattle.partial_page.specs.Frames.{frame_size}
use Rattle.partial_page.proofs.StoreLemmas.{writes_by, is_store, laid-written, written_is}
use Rattle.partial_page.proofs.store.BlockStore.keep.Goals as goal

pub returns-clause-store : goal.returns-clause-store
returns-clause-store c =
    let below : c.args.n < 256 = omega arith in
    let taken : nat_lt 0 (length c.self.inside.buffer.items) ≡ true = ap (λ store. store.ready) c.self.view_is ∙ c.requires.ready in
    let fits : length c.args.octets.now ≤ frame_size c.self.inside.small = rw (ap (λ store. store.small) c.self.view_is) c.requires.short in
    let writes =
    writes_by c.self.inside.small c.frame_octets.result c.self.inside.buffer.items c.write_from.new.buffer.items c.self.inside.there
    c.mark.new.octets c.self.inside.lengths c.args.n c.args.octets.now
    c.frame_octets.ensures.size below c.write_from.ensures.length c.self.told.1 fits c.write_from.ensures.written
    c.write_from.ensures.others c.mark.ensures in
    is_store _ _ _ _ _ (laid-written _ _ _ _ _ _ _ _ c.self.invariant taken writes)

pub returns-clause-kept : goal.returns-clause-kept
returns-clause-kept c =
    let below : c.args.n < 256 = omega arith in
    let fits : length c.args.octets.now ≤ frame_size c.self.inside.small = rw (ap (λ store. store.small) c.self.view_is) c.requires.short in
    let writes =
    writes_by c.self.inside.small c.frame_octets.result c.self.inside.buffer.items c.write_from.new.buffer.items c.self.inside.there
    c.mark.new.octets c.self.inside.lengths c.args.n c.args.octets.now
    c.frame_octets.ensures.size below c.write_from.ensures.length c.self.told.1 fits c.write_from.ensures.written
    c.write_from.ensures.others c.mark.ensures in
    rw (← c.self.view_is) (written_is _ _ _ _ _ _ _ _ c.self.invariant writes)
