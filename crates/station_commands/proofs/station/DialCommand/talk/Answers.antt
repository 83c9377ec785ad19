-- What the check asks of `talk`.
use Rattle.std.proofs.Common.{rules}
use Rattle.station_commands.proofs.station.DialCommand.talk.Goals as goal

pub returns-clause-talks : goal.returns-clause-talks
returns-clause-talks c document sends new =
    let talks = c.in_ok-halted.ensures.talks in
    record {
      document = document;
      sends = sends;
      first = c.conversation-conversation.result;
      begins = c.conversation-conversation.ensures document new;
      none = c.new-confirmed.result;
      none_told = search rules;
      none_late = search rules;
      none_given_up = search rules;
      last = c.talk_out.new.conversation;
      kept = c.talk_out.new.keeper;
      ended = talks.0;
      talks = talks.2.0;
      halted = talks.3;
      end = λ t stands. search rules;
      stopped = search rules;
      answers = search rules;
      follower = c.new-notes.result;
      is_new = record {
        noted = c.new-notes.ensures.noted;
        most_is = search rules;
        first = search rules;
      };
      notes = talks.1;
      follows = talks.2.1;
      missing = search rules;
      figures = search rules;
      pages = λ t stands. search rules;
    }
