-- What the check asks of `write_turn`.
use Rattle.std.proofs.Common.{Bool, ap, ◌≡◌, ℕ, List, None, Option, rules, subst}
use Rattle.std.specs.Io.KnownBytes.{Appends}
use Rattle.std.specs.declared.alloc.AllocError.{AllocError}
use Rattle.conversations.proofs.Turns.{begins_giving, burst_stopped, given_next, one_given, rest_is, rest_stopped, saw_burst, saw_none, turn_stopped, turn_written, unsent}
use Rattle.conversations.proofs.Written.{if_failed}
use Rattle.conversations.proofs.talking.write_turn.Goals as goal
use Rattle.conversations.specs.Talking.{GivesNext}
use Rattle.conversations.specs.Writing.{AppendsPart, burst_line}
use Rattle.conversations.specs.declared.writing.Says.{Says}
use Rattle.terminals.specs.Runs.{TerminalFields}
use Rattle.terminals.specs.Stopping.{IsShown}
use Rattle.terminals.specs.declared.sending.SentBurst.{SentBurst}

pub loop-burst-init : goal.loop-burst-init
loop-burst-init g c =
    begins_giving g.F.Watch.saw_said c.args.follower.now _ _ _ _ _ (search rules)

pub returns-in_default-clause-ok : goal.returns-in_default-clause-ok
returns-in_default-clause-ok g c =
    let none : c.in_ok-burst.field-0 ≡ None = search rules in
    let given = given_next AllocError g.S.Station.sends g.S.Station.lends _ _ _ _ c.in_ok-burst.ensures.gives in
    turn_written g.F.Watch.saw_said c.args.follower.now c.loop-burst.follower c.next_burst_by.new.watch _ _ _ _ c.loop-burst.conversation _ _
    (g.W.Write.contents c.loop-burst.writer) _ _ c.loop-burst.invariant
    (saw_none AllocError g.F.Watch.saw_said g.S.Station.sends g.S.Station.lends c.loop-burst.conversation _ _ _ c.in_ok-burst.ensures.says none)
    (subst (λ (sent : Option SentBurst).
    GivesNext g.S.Station.sends g.S.Station.lends c.loop-burst.conversation sent c.next_burst_by.new.self) none given)
    c.shown-shown.result
    (subst (λ (t : TerminalFields g.row.S.Denot). IsShown g.S.Stoppable.shows t.speaking.station c.shown-shown.result) c.terminal.ensures
    c.shown-shown.ensures)
    c.in_ok-over.ensures.over
    (subst (λ (text : List ℕ). Appends (g.W.Write.contents c.loop-burst.writer) (g.W.Write.contents c.write_rest.new.writer) text)
    (rest_is g.S.Station.sends c.next_burst_by.new.self c.shown-shown.result c.says.result c.has_begun-begun.result c.next_quiet-at.result
    c.says.ensures c.has_begun-begun.ensures c.next_quiet-at.ensures)
    c.in_ok-over.ensures.writes)

pub loop-burst-preserved : goal.loop-burst-preserved
loop-burst-preserved g c =
    let given = given_next AllocError g.S.Station.sends g.S.Station.lends _ _ _ _ c.in_ok-burst.ensures.gives in
    one_given g.F.Watch.saw_said c.args.follower.now c.loop-burst.follower c.end_burst.new.self _ _ _ _ c.loop-burst.conversation _ _
    (g.W.Write.contents c.loop-burst.writer) _ c.in-Some.burst c.loop-burst.invariant
    (subst (λ (sent : Option SentBurst).
    GivesNext g.S.Station.sends g.S.Station.lends c.loop-burst.conversation sent c.next_burst_by.new.self) c.in-Some.is given)
    (subst (λ (frames : Bool). Appends (g.W.Write.contents c.loop-burst.writer) (g.W.Write.contents c.write_sent.new.writer)
    (burst_line frames c.in-Some.burst)) (ap (λ (says : Says). says.frames) c.says-frames.ensures) c.in_ok-write_sent.ensures)
    (saw_burst AllocError g.F.Watch.saw_said g.S.Station.sends g.S.Station.lends c.loop-burst.conversation _ _ _ _ _ c.in_ok-burst.ensures.says c.in-Some.is c.end_burst.ensures)

pub returns-in_err-burst-clause-part : goal.returns-in_err-burst-clause-part
returns-in_err-burst-clause-part g c =
    if_failed _ _ (turn_stopped _ _ _ _ c.loop-burst.conversation _ _ _ c.loop-burst.invariant.0
    (unsent AllocError g.S.Station.sends g.S.Station.lends _ _ _ _ c.in_err-burst.ensures.gives))

pub returns-in_err-over-clause-part : goal.returns-in_err-over-clause-part
returns-in_err-over-clause-part g c =
    let none : c.in_ok-burst.field-0 ≡ None = search rules in
    let given = given_next AllocError g.S.Station.sends g.S.Station.lends _ _ _ _ c.in_ok-burst.ensures.gives in
    if_failed _ _ (rest_stopped _ _ _ _ c.loop-burst.conversation _ _ (g.W.Write.contents c.loop-burst.writer) _ c.loop-burst.invariant.0
    (subst (λ (sent : Option SentBurst).
    GivesNext g.S.Station.sends g.S.Station.lends c.loop-burst.conversation sent c.next_burst_by.new.self) none given)
    c.shown-shown.result
    (subst (λ (t : TerminalFields g.row.S.Denot). IsShown g.S.Stoppable.shows t.speaking.station c.shown-shown.result) c.terminal.ensures
    c.shown-shown.ensures)
    (subst (λ (text : List ℕ). AppendsPart (g.W.Write.contents c.loop-burst.writer) (g.W.Write.contents c.write_rest.new.writer) text)
    (rest_is g.S.Station.sends c.next_burst_by.new.self c.shown-shown.result c.says.result c.has_begun-begun.result c.next_quiet-at.result
    c.says.ensures c.has_begun-begun.ensures c.next_quiet-at.ensures)
    c.in_err-over.ensures.writes))

pub returns-in_err-write_sent-clause-part : goal.returns-in_err-write_sent-clause-part
returns-in_err-write_sent-clause-part g c =
    let given = given_next AllocError g.S.Station.sends g.S.Station.lends _ _ _ _ c.in_ok-burst.ensures.gives in
    if_failed _ _ (burst_stopped _ _ _ _ c.loop-burst.conversation _ _ (g.W.Write.contents c.loop-burst.writer) _ c.in-Some.burst
    c.loop-burst.invariant.0
    (subst (λ (sent : Option SentBurst).
    GivesNext g.S.Station.sends g.S.Station.lends c.loop-burst.conversation sent c.next_burst_by.new.self) c.in-Some.is given)
    (subst (λ (frames : Bool). AppendsPart (g.W.Write.contents c.loop-burst.writer) (g.W.Write.contents c.write_sent.new.writer)
    (burst_line frames c.in-Some.burst)) (ap (λ (says : Says). says.frames) c.says-frames.ensures) c.in_err-write_sent.ensures))
