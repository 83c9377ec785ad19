-- What the check asks of `conversation`.
use Rattle.std.proofs.Common.{◌∙◌, ap, false, refl, subst, sym, ℕ}
use Rattle.std.specs.Prelude.{None}
use Rattle.station_commands.specs.Talks.{NewAnswering}
use Rattle.conversations.specs.Conversations.{ConversationFields}
use Rattle.conversations.specs.Refusing.{limit_of, new_watch}
use Rattle.stations.specs.AnswererStep.{new_answerer}
use Rattle.stations.specs.CallerStep.{no_params}
use Rattle.stations.specs.Limiting.{LimitedFields}
use Rattle.stations.specs.declared.turn.Turn.TheVariants.{Dis}
use Rattle.terminals.specs.Speaking.{Speaking}
use Rattle.station_commands.specs.Talks.{receiving}
use Rattle.station_commands.proofs.station.AnswerCommand.conversation.Goals as goal

pub returns : goal.returns
returns c =
    let begun = c.new_answerer-conversation.ensures in
    let said = c.saying.ensures ∙ ap (λ (s : ConversationFields LimitedFields). record s { says = c.says.result }) begun in
    let watched = c.watching.ensures
    ∙ ap (λ (s : ConversationFields LimitedFields). record s { watch = new_watch (receiving c.args.self.now.caps) c.args.self.now.refuses })
    said in
    let is = c.lasting.ensures
    ∙ ap (λ (s : ConversationFields LimitedFields). record s { watch = record s.watch { limit = limit_of c.millis_of.result } }) watched in
    let spoken = c.new-terminal.ensures.speaking in
    let caps = receiving c.args.self.now.caps in
    subst (λ (s : ConversationFields LimitedFields). NewAnswering c.args.self.now s) (sym is) record {
      fresh = record {
        framing = c.new-terminal.ensures.framing;
        taken = ap (λ (s : Speaking LimitedFields). s.taken) spoken;
        clock = refl;
        durations = c.durations.ensures;
        begun_is = refl;
        says = c.says.ensures;
      };
      station = ap (λ (s : Speaking LimitedFields). s.station) spoken ∙ c.new-station.ensures.station
          ∙ ap (λ (most : ℕ). record {
            station = new_answerer caps no_params;
            limits = record { pages = most; octets = 18446744073709551615 };
            told = false;
            said = Dis;
            cut = None;
          }) c.page_limit.ensures;
      turn = ap (λ (s : Speaking LimitedFields). s.turn) spoken ∙ c.new-station.ensures.turn;
      watch = rw c.millis_of.ensures refl;
    }
