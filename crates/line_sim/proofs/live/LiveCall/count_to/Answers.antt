use Rattle.std.proofs.Common.{◌≢◌, Some, subst}
use Rattle.line_sim.specs.Entries.{head_kind}
use Rattle.line_sim.specs.Live.{whole_call}
use Rattle.line_sim.specs.declared.event.Kind.TheVariants.{Training}
use Rattle.line_sim.specs.declared.call.Call.{Call}
use Rattle.line_sim.proofs.Lives.{live_frames}
use Rattle.line_sim.proofs.live.LiveCall.count_to.Goals as goal

pub returns-in-Caller-clause-no_check : goal.returns-in-Caller-clause-no_check
returns-in-Caller-clause-no_check c =
    subst (λ (v : Call). head_kind v.to_caller ≢ Some Training) c.self.view_is
    (live_frames c.headline.ensures.facts (whole_call c.self.inside.same c.self.inside.call) c.self.invariant.live)

pub returns-in-Answerer-clause-no_check : goal.returns-in-Answerer-clause-no_check
returns-in-Answerer-clause-no_check c =
    subst (λ (v : Call). head_kind v.to_caller ≢ Some Training) c.self.view_is
    (live_frames c.headline.ensures.facts (whole_call c.self.inside.same c.self.inside.call) c.self.invariant.live)
