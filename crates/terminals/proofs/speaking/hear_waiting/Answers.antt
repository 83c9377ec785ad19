-- What the check asks of `hear_waiting`.
use Rattle.std.proofs.Common.{◌∙◌, ap, subst}
use Rattle.terminals.specs.Hearing.{heard_if}
use Rattle.terminals.specs.Runs.{TakesAll}
use Rattle.terminals.specs.Watching.{seen_reading}
use Rattle.terminals.proofs.Seen.{next_seen}
use Rattle.terminals.proofs.Taking.{next_waits}
use Rattle.terminals.proofs.speaking.hear_waiting.Goals as goal

pub loop-content-preserved : goal.loop-content-preserved
loop-content-preserved g c = (
  next_waits g.S.Station.steps g.S.Station.lends c.args.deframer.now c.loop-content.deframer c.next.follows.lender-at-none c.args.speaker.now
      c.loop-content.speaker c.hear_said-all.new.self c.loop-content.all c.hear_said-all.result c.in-Some.content.now
      c.next.follows.holds-at-none c.in-Some.ensures.some
      (λ all. subst (λ said. TakesAll g.S.Station.steps g.S.Station.lends c.loop-content.speaker (heard_if said) c.hear_said-all.new.self)
      c.read-said.ensures (c.hear_said-all.ensures.heard all))
      c.hear_said-all.ensures.lost c.loop-content.invariant.0,
  next_seen seen_reading c.args.deframer.now c.loop-content.deframer c.next.follows.lender-at-none c.args.watched.now c.loop-content.watched
      c.see.new.self c.in-Some.content.now c.next.follows.holds-at-none c.in-Some.ensures.some
      (c.see.ensures ∙ ap (λ said. seen_reading c.loop-content.watched c.in-Some.content.now said) c.read-said.ensures)
      c.loop-content.invariant.1,
  next_seen g.W.Watch.saw c.args.deframer.now c.loop-content.deframer c.next.follows.lender-at-none c.args.watch.now c.loop-content.watch
      c.see-in-Some.new.self c.in-Some.content.now c.next.follows.holds-at-none c.in-Some.ensures.some
      (c.see-in-Some.ensures ∙ ap (λ said. g.W.Watch.saw c.loop-content.watch c.in-Some.content.now said) c.read-said.ensures)
      c.loop-content.invariant.2,
)
