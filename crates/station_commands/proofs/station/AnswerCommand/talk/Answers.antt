-- What the check asks of `talk`.
use Rattle.std.proofs.Common.{rules, ◌∙◌, ap}
use Rattle.std.proofs.lemmas.Result.{err_from_is_err_and}
use Rattle.terminals.specs.declared.stopping.Shown.{Shown}
use Rattle.station_commands.proofs.station.AnswerCommand.talk.Goals as goal

pub returns-in_err-halted-clause-fault : goal.returns-in_err-halted-clause-fault
returns-in_err-halted-clause-fault c =
    let p = err_from_is_err_and c.from_residual-in_err-halted.result c.from_residual-in_err-halted.ensures.1 in
    rw (p.1, p.2) c.in_err-halted.ensures.fault

pub returns-clause-talks : goal.returns-clause-talks
returns-clause-talks c =
    let talks = c.in_ok-halted.ensures.talks in
    record {
      first = c.conversation-conversation.result;
      begins = c.conversation-conversation.ensures;
      folder = c.holding-folder.result;
      empty = record {
        limits = search rules;
        tally = search rules;
        holds = search rules;
        held = search rules;
        stopped = search rules;
      };
      last = c.talk_out.new.conversation;
      kept = c.talk_out.new.keeper;
      ended = talks.0;
      talks = talks.2.0;
      halted = talks.3;
      end = c.end.ensures.2 ∙ ap (λ (shown : Shown). shown.end) c.end.ensures.1;
      refused = c.refusal.ensures;
      stopped = c.stopped.ensures;
      failed = c.failed-2.ensures;
      pages = c.stored.ensures;
      follower = c.new-notes.result;
      is_new = record {
        noted = c.new-notes.ensures.noted;
        most_is = search rules;
        first = search rules;
      };
      notes = talks.1;
      follows = talks.2.1;
      whole = search rules;
      unconfirmed = search rules;
      figures = search rules;
    }
