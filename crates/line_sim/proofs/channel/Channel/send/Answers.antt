use Rattle.std.proofs.Common.{subst, ◌++◌, [], ◌∷◌}
use Rattle.stations.specs.Lending.{plain_item}
use Rattle.line_sim.specs.Octets.{AreFinal}
use Rattle.line_sim.proofs.Sending.{HasSent, first_final, one_sent, all_sent}
use Rattle.line_sim.proofs.channel.Channel.send.Goals as goal

pub loop-item-preserved : goal.loop-item-preserved
loop-item-preserved g c =
    let more : HasSent c.args.self.now (c.loop-item.self ++ plain_item c.in-Some.item ∷ []) c.args.items c.take_next.new.self =
    one_sent c.args.self.now c.loop-item.self c.args.items c.take_next.new.self (plain_item c.in-Some.item)
    (subst (λ l. HasSent c.args.self.now c.loop-item.self c.args.items l) c.in-Some.ensures.0 c.loop-item.invariant) in
    rw c.in_ok-push.ensures.ok more

pub returns-clause-ok : goal.returns-clause-ok
returns-clause-ok g c =
    all_sent c.args.self.now c.loop-item.self c.args.items
    (subst (λ l. HasSent c.args.self.now c.loop-item.self c.args.items l) c.in_default.ensures.0 c.loop-item.invariant)

pub push-requires-clause-told : goal.push-requires-clause-told
push-requires-clause-told g c =
    first_final c.in-Some.item c.take_next.new.self
    (subst AreFinal c.in-Some.ensures.0 c.loop-item.invariant.final) c.in-Some.ensures.1
