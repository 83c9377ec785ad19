-- What a live call leaves is safe.
use Rattle.std.proofs.Common.{◌∙◌, ap, length, sym, subst}
use Rattle.line_sim.specs.Live.{IsLive, whole_call}
use Rattle.line_sim.specs.Represents.{Shows}
use Rattle.line_sim.proofs.Fronts.{whole_stored}
use Rattle.line_sim.proofs.Lives.{live_safe}
use Rattle.line_sim.proofs.live.LiveCall.into_counts_and_document.Goals as goal

pub returns-clause-stored : goal.returns-clause-stored
returns-clause-stored c w shown =
    let shows : Shows (whole_call c.self.inside.same c.self.inside.call) w = subst (λ v. Shows v w) (sym c.self.view_is) shown in
    whole_stored c.self.inside.same c.self.inside.call c.self.invariant ∙ ap (λ s. length s.pages) (sym shows.answerer)

pub returns-clause-safe : goal.returns-clause-safe
returns-clause-safe c =
    live_safe (
      (c.layers_hold.ensures, c.signals_hold.ensures),
      c.headline.ensures.facts,
      c.headline.ensures.steps,
      c.headline.ensures.runs,
      c.headline.ensures.safe,
    )
    c.args.self (subst IsLive c.self.view_is c.self.invariant.live) _ _ _ _
    (λ w shown. ap (λ s. s.pages) (sym shown.answerer))
    (λ w shown. (let shows : Shows (whole_call c.self.inside.same c.self.inside.call) w = subst (λ v. Shows v w) (sym c.self.view_is) shown in c.confirmed.ensures w.caller shows.caller))
    (λ w shown. (let shows : Shows (whole_call c.self.inside.same c.self.inside.call) w = subst (λ v. Shows v w) (sym c.self.view_is) shown in c.end.ensures w.caller shows.caller))
    (λ w shown. (let shows : Shows (whole_call c.self.inside.same c.self.inside.call) w = subst (λ v. Shows v w) (sym c.self.view_is) shown in c.end-2.ensures ∙ ap (λ s. s.ending) (sym shows.answerer)))
