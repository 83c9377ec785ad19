-- What the check asks of `take_by`.
use Rattle.std.proofs.Common.{◌≡◌, ◌⊎◌, Option, subst, sym}
use Rattle.std.proofs.lemmas.Result.{err_from_is_err_and}
use Rattle.conversations.specs.Conversations.{IsInTime, SeesGiven, behaviour}
use Rattle.conversations.proofs.TakenLines.{line_refused, line_seen, line_taken}
use Rattle.conversations.specs.Conversations.{plain_given}
use Rattle.terminals.specs.declared.watching.Watched.{Watched}
use Rattle.conversations.proofs.conversation.Conversation.take_by.Goals as goal

pub returns-clause-takes : goal.returns-clause-takes
returns-clause-takes g c =
    rw (← c.self.view_is)
    (line_taken
    (behaviour g.S.Station.sends g.S.Station.steps g.S.Station.lends g.S.Stoppable.shows g.S.Stoppable.cut_off g.S.Stoppable.stop_says)
    (record {
      terminal = c.self.inside.terminal;
      clock = c.self.inside.clock;
      durations = c.self.inside.durations;
      begun = c.self.inside.begun;
      says = c.self.inside.says;
      watch = c.self.inside.watch;
    })
    c.args.line.now c.give.new.terminal c.clock_at-clock.result c.heard.result c.asked-now.result c.has_begun-self-inside.result
    c.in_ok-brought.brought (plain_given c.line_gives-given.result) c.shown-shown.result c.shown-later.result c.side-side.result
    c.give.new.watched c.timeout-done.result c.is_late-self-inside.result
    c.is_given_up-self-inside.result
    (subst (λ v. IsInTime v c.args.line.now) (sym c.self.view_is) (c.is_out_of_time.ensures.no c.if-is_out_of_time.false))
    c.shown-shown.ensures c.side-side.ensures c.clock_at-clock.ensures c.line_gives-given.ensures c.in_ok-brought.ensures.ok
    c.shown-later.ensures c.heard.ensures c.asked-now.ensures c.has_begun-self-inside.ensures
    (subst (λ (w : Option Watched). SeesGiven c.self.inside.terminal.framing (plain_given c.line_gives-given.result) w c.give.new.watched)
    c.note.ensures c.in_ok-brought.ensures.sees)
    (rw (← c.state_of-state.ensures) c.timeout-done.ensures) c.is_late-self-inside.ensures c.is_given_up-self-inside.ensures)

pub returns-clause-sees : goal.returns-clause-sees
returns-clause-sees g c =
    rw (← c.self.view_is)
    (line_seen
    (behaviour g.S.Station.sends g.S.Station.steps g.S.Station.lends g.S.Stoppable.shows g.S.Stoppable.cut_off g.S.Stoppable.stop_says)
    g.W.Watch.saw
    (record {
      terminal = c.self.inside.terminal;
      clock = c.self.inside.clock;
      durations = c.self.inside.durations;
      begun = c.self.inside.begun;
      says = c.self.inside.says;
      watch = c.self.inside.watch;
    })
    c.args.line.now c.clock_at-clock.result (plain_given c.line_gives-given.result) c.shown-shown.result c.side-side.result c.args.watch.now
    c.give.new.watch c.shown-shown.ensures c.side-side.ensures c.clock_at-clock.ensures c.line_gives-given.ensures
    c.in_ok-brought.ensures.seen)

pub returns-in_err-brought-clause-takes : goal.returns-in_err-brought-clause-takes
returns-in_err-brought-clause-takes g c =
    let p = err_from_is_err_and c.from_residual.result c.from_residual.ensures.1 in
    rw (p.1, p.2, ← c.self.view_is)
    (line_refused
    (behaviour g.S.Station.sends g.S.Station.steps g.S.Station.lends g.S.Stoppable.shows g.S.Stoppable.cut_off g.S.Stoppable.stop_says)
    (record {
      terminal = c.self.inside.terminal;
      clock = c.self.inside.clock;
      durations = c.self.inside.durations;
      begun = c.self.inside.begun;
      says = c.self.inside.says;
      watch = c.self.inside.watch;
    })
    c.args.line.now c.give.new.terminal c.clock_at-clock.result (plain_given c.line_gives-given.result) c.shown-shown.result c.side-side.result
    c.give.new.watched
    (subst (λ v. IsInTime v c.args.line.now) (sym c.self.view_is) (c.is_out_of_time.ensures.no c.if-is_out_of_time.false))
    c.shown-shown.ensures c.side-side.ensures c.clock_at-clock.ensures c.line_gives-given.ensures c.in_err-brought.ensures.err
    (subst (λ (w : Option Watched). (c.give.new.watched ≡ w) ⊎
    SeesGiven c.self.inside.terminal.framing (plain_given c.line_gives-given.result) w c.give.new.watched)
    c.note.ensures c.in_err-brought.ensures.refused))
