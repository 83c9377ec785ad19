use Rattle.std.proofs.Common.{sym, append-nil, append_assoc}
use Rattle.partial_page.proofs.StoreLemmas.{joined_frames-none, joined_frames-more}
use Rattle.partial_page.proofs.store.BlockStore.append_joined.Goals as goal

pub loop-number-init : goal.loop-number-init
loop-number-init c = rw joined_frames-none (sym (append-nil c.args.octets.now.items))

pub loop-number-preserved : goal.loop-number-preserved
loop-number-preserved c = rw joined_frames-more (simp (c.in_default.ensures.ok, c.loop-number.invariant, append_assoc))
