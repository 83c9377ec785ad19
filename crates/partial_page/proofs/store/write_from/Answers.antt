use Rattle.std.proofs.Common.{◌≡◌, ◌+◌, ◌-◌, length, arith}
use Rattle.partial_page.proofs.StoreLemmas.{others_kept}
use Rattle.partial_page.proofs.store.write_from.Goals as goal

pub returns-clause-others : goal.returns-clause-others
returns-clause-others c from count apart =
    let all : length c.args.buffer.now.items ≡ c.args.buffer.now.len = omega (arith, c.args.buffer.now.ok) in
    let size : c.args.place + length c.args.octets.now - c.args.place ≡ length c.args.octets.now = omega arith in
    others_kept c.args.buffer.now.items c.deref_mut.result.now c.args.octets.now c.copy_from_slice.new.self c.args.buffer.now.len
    c.args.place _ from count c.deref_mut.ensures.value c.copy_from_slice.ensures.after size all c.requires apart
