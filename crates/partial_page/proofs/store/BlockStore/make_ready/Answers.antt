use Rattle.std.proofs.Common.{◌≡◌, ◌*◌, ◌∙◌, false, length, ap, sym, arith}
use Rattle.std.specs.Prelude.{nat_lt}
use Rattle.partial_page.specs.Frames.{frame_size}
use Rattle.partial_page.proofs.StoreLemmas.{taken_is}
use Rattle.partial_page.proofs.store.BlockStore.make_ready.Goals as goal

pub returns-clause-ok : goal.returns-clause-ok
returns-clause-ok c =
    let untaken : nat_lt 0 (length c.self.inside.buffer.items) ≡ false =
    ap (λ store. store.ready) c.self.view_is ∙ sym c.if-ready.ensures.ready in
    let taken : length c.resize.new.self.items ≡ 256 * frame_size c.self.inside.small =
    omega (arith, c.resize.new.self.ok, c.in_ok-resize.ensures.len, c.frame_octets.ensures.size) in
    rw (← c.self.view_is)
    (taken_is c.self.inside.small c.self.inside.buffer.items c.resize.new.self.items c.self.inside.there c.self.inside.lengths
    c.self.invariant untaken taken)
