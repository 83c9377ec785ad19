use Rattle.std.proofs.Common.{refl, sym, subst}
use Rattle.line_sim.specs.Fates.{DrivenFields, ShowsDriven}
use Rattle.line_sim.proofs.Fates.{act_made, few_dis_same, few_rnrs_same}
use Rattle.line_sim.proofs.drive.DrivenCall.step.Goals as goal

pub returns-in_default-clause-steps : goal.returns-in_default-clause-steps
returns-in_default-clause-steps c p d shows is =
    let stands = subst (λ v. ShowsDriven v p d) (sym c.self.view_is) shows in
    (c.in_default.ensures.next p d stands.world is (few_dis_same p _ d stands) (few_rnrs_same p _ d stands), refl)

pub returns-clause-steps : goal.returns-clause-steps
returns-clause-steps c p d shows is =
    let old : DrivenFields =
    record { live = c.self.inside.live; patience = c.self.inside.patience; dis = c.self.inside.dis; rnrs = c.self.inside.rnrs } in
    let stands : ShowsDriven old p d = subst (λ v. ShowsDriven v p d) (sym c.self.view_is) shows in
    act_made c.in-Some.act.before p old c.event_if-before.new.self c.event-entry.new.self c.in-Some.act.event
    c.event_if-before.result c.event-entry.result c.dis_after-self-inside.result c.rnrs_after-self-inside.result d stands
    (c.in-Some.ensures.next p d stands.world is (few_dis_same p old d stands) (few_rnrs_same p old d stands)) c.event_if-before.ensures.acts
    c.event-entry.ensures.acts
    (record {
      waits = c.waits_for_dis-waits.result;
      sending = c.is_sending-sending.result;
      kind = c.head_to_caller-kind.result;
      waiting = c.waits_for_dis-waits.ensures d.world stands.world;
      sends = c.is_sending-sending.ensures d.world stands.world;
      kinds = c.head_to_caller-kind.ensures;
      dis_is = c.dis_after-self-inside.ensures;
      rnrs_is = c.rnrs_after-self-inside.ensures;
    })
