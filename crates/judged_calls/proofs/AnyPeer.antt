-- Whatever its caller says, an answerer says its own signals alone, nothing after DCN, and no answer without its command.
use Rattle.std.proofs.Common.{◌≡◌, Bool, false, ◌||◌, List, [], ◌∷◌, refl, sym, ap, subst, ◌∙◌}
use Rattle.std.specs.Prelude.{Option, Some, None, not, unwrap_or}
use Rattle.signals.specs.Signals.{PlainSignal, dis, cfr, ftt, pps, ppr, mcf, rnr, rr, dcn}
use Rattle.signals.specs.declared.params.Caps.{Caps}
use Rattle.signals.specs.declared.signal.Side.TheVariants.{Caller as CallerSide, Answerer as AnswererSide}
use Rattle.stations.specs.Inputs.{AnswererInput, t1, t2, is_busy, listens, trains}
use Rattle.stations.specs.AnswererStep.{Answerer, answerer_step, answerer_items, unless_answerer_ended, new_answerer}
use Rattle.stations.specs.TurnsMean.{AnswererSends, AnswerersTurnsMean}
use Rattle.stations.specs.declared.turn.End.{End}
use Rattle.stations.specs.declared.turn.Turn.{Turn}
use Rattle.stations.specs.declared.turn.Turn.TheVariants as turn
use Rattle.referee.specs.Frames.{asked}
use Rattle.referee.specs.History.{PlainSaid, look, is_fcd}
use Rattle.referee.specs.Questions.{tell}
use Rattle.referee.specs.Rules.{breaks}
use Rattle.referee.specs.declared.rule.Rule.{Rule}
use Rattle.referee.specs.declared.rule.Rule.TheVariants as rule
use Rattle.referee.specs.declared.question.Question.TheVariants.{HasEnded, IsTraining}
use Rattle.judged_calls.proofs.Answered.{Given, Answers, step_so}
use Rattle.judged_calls.proofs.CallerSays.{ended_same}
use Rattle.judged_calls.proofs.BlockViews.{none_some}
use Rattle.judged_calls.specs.AnyCaller.{Move, misses, meets, by_caller, called, moved, answered, talk, IsChecked, AreChecked, AnswererKeeps, AnswerersKeepAlways}
use Rattle.judged_calls.specs.SaidCalls.{and_said}

-- these rules ask for nothing but the frame, the answerer's DCN and the caller's last command
abbrev pub IsPlain : Rule → Type 0
IsPlain rule.WrongSide = Unit {0}
IsPlain rule.Ended = Unit {0}
IsPlain rule.NotTrained = Unit {0}
IsPlain rule.NoCommand = Unit {0}
IsPlain _ = ⊥

pub record Holds (r : Rule) (s : Answerer) (before : List PlainSaid) : Type 0 where
  pub runs : s.ending ≡ None → asked (HasEnded AnswererSide) before ≡ false
  pub keeps : AnswererKeeps r before

-- a question that asks for the caller's last command is answered alike in every block
training_same : (before : List PlainSaid) (b c : Bool) → look (tell IsTraining) b before ≡ look (tell IsTraining) c before
training_same [] b c = refl
training_same (said ∷ before) b c =
    ap (unwrap_or (tell IsTraining false said)) (training_same before (b || is_fcd said.signal) (c || is_fcd said.signal))

caller_holds : (r : Rule) (s : Answerer) (signal : PlainSignal) (before : List PlainSaid) → Holds r s before → Holds r s (by_caller signal before)
caller_holds r s signal before h = record {
  runs = λ e. ended_same before (is_fcd signal) false ∙ h.runs e;
  keeps = (λ by. absurd (not_answerer by), h.keeps);
}
  where
    not_answerer : CallerSide ≡ AnswererSide → ⊥
    not_answerer e = cc

-- what the answerer says is right, and only DCN ends what it says
said_holds : (r : Rule) (next : Answerer) (signal : PlainSignal) (said : List PlainSaid) →
    (next.ending ≡ None → asked (HasEnded AnswererSide) (record { by = AnswererSide; signal = signal } ∷ said) ≡ false) →
    breaks r (record { by = AnswererSide; signal = signal }) said ≡ false → AnswererKeeps r said →
    Holds r next (record { by = AnswererSide; signal = signal } ∷ said)
said_holds r next signal said runs right keeps = record { runs = runs; keeps = (λ by. right, keeps) }

module _ (s next : Answerer) (said : List PlainSaid) (ended : asked (HasEnded AnswererSide) said ≡ false) where
  turn_holds : (r : Rule) → IsPlain r → (t : Turn) → Answers said t → AnswererSends s next t → AnswererKeeps r said →
      Holds r next (and_said AnswererSide (answerer_items next t) said)
  turn_holds rule.WrongSide plain turn.Dis answers sends keeps = said_holds rule.WrongSide next (dis next.caps) said (λ e. ended) refl keeps
  turn_holds rule.WrongSide plain turn.Cfr answers sends keeps = said_holds rule.WrongSide next cfr said (λ e. ended) refl keeps
  turn_holds rule.WrongSide plain turn.Ftt answers sends keeps = said_holds rule.WrongSide next ftt said (λ e. ended) refl keeps
  turn_holds rule.WrongSide plain turn.Mcf answers sends keeps = said_holds rule.WrongSide next mcf said (λ e. ended) refl keeps
  turn_holds rule.WrongSide plain (turn.Ppr marks) answers sends keeps = said_holds rule.WrongSide next (ppr marks) said (λ e. ended) refl keeps
  turn_holds rule.WrongSide plain turn.Rnr answers sends keeps = said_holds rule.WrongSide next rnr said (λ e. ended) refl keeps
  turn_holds rule.WrongSide plain turn.Dcn answers sends keeps =
      said_holds rule.WrongSide next dcn said (λ e. none_some _ (sym e ∙ sends)) refl keeps
  turn_holds rule.Ended plain turn.Dis answers sends keeps = said_holds rule.Ended next (dis next.caps) said (λ e. ended) ended keeps
  turn_holds rule.Ended plain turn.Cfr answers sends keeps = said_holds rule.Ended next cfr said (λ e. ended) ended keeps
  turn_holds rule.Ended plain turn.Ftt answers sends keeps = said_holds rule.Ended next ftt said (λ e. ended) ended keeps
  turn_holds rule.Ended plain turn.Mcf answers sends keeps = said_holds rule.Ended next mcf said (λ e. ended) ended keeps
  turn_holds rule.Ended plain (turn.Ppr marks) answers sends keeps = said_holds rule.Ended next (ppr marks) said (λ e. ended) ended keeps
  turn_holds rule.Ended plain turn.Rnr answers sends keeps = said_holds rule.Ended next rnr said (λ e. ended) ended keeps
  turn_holds rule.Ended plain turn.Dcn answers sends keeps =
      said_holds rule.Ended next dcn said (λ e. none_some _ (sym e ∙ sends)) ended keeps
  turn_holds rule.NotTrained plain turn.Dis answers sends keeps = said_holds rule.NotTrained next (dis next.caps) said (λ e. ended) refl keeps
  turn_holds rule.NotTrained plain turn.Cfr answers sends keeps =
      said_holds rule.NotTrained next cfr said (λ e. ended) (ap not (answers false)) keeps
  turn_holds rule.NotTrained plain turn.Ftt answers sends keeps =
      said_holds rule.NotTrained next ftt said (λ e. ended) (ap not (answers false)) keeps
  turn_holds rule.NotTrained plain turn.Mcf answers sends keeps = said_holds rule.NotTrained next mcf said (λ e. ended) refl keeps
  turn_holds rule.NotTrained plain (turn.Ppr marks) answers sends keeps = said_holds rule.NotTrained next (ppr marks) said (λ e. ended) refl keeps
  turn_holds rule.NotTrained plain turn.Rnr answers sends keeps = said_holds rule.NotTrained next rnr said (λ e. ended) refl keeps
  turn_holds rule.NotTrained plain turn.Dcn answers sends keeps =
      said_holds rule.NotTrained next dcn said (λ e. none_some _ (sym e ∙ sends)) refl keeps
  turn_holds rule.NoCommand plain turn.Dis answers sends keeps = said_holds rule.NoCommand next (dis next.caps) said (λ e. ended) refl keeps
  turn_holds rule.NoCommand plain turn.Cfr answers sends keeps = said_holds rule.NoCommand next cfr said (λ e. ended) refl keeps
  turn_holds rule.NoCommand plain turn.Ftt answers sends keeps = said_holds rule.NoCommand next ftt said (λ e. ended) refl keeps
  turn_holds rule.NoCommand plain turn.Mcf answers sends keeps =
      said_holds rule.NoCommand next mcf said (λ e. ended) (ap not (answers false)) keeps
  turn_holds rule.NoCommand plain (turn.Ppr marks) answers sends keeps =
      said_holds rule.NoCommand next (ppr marks) said (λ e. ended) (ap not (answers false)) keeps
  turn_holds rule.NoCommand plain turn.Rnr answers sends keeps =
      said_holds rule.NoCommand next rnr said (λ e. ended) (ap not (answers false)) keeps
  turn_holds rule.NoCommand plain turn.Dcn answers sends keeps =
      said_holds rule.NoCommand next dcn said (λ e. none_some _ (sym e ∙ sends)) refl keeps
  turn_holds r plain turn.Silent answers sends keeps = record { runs = λ e. ended; keeps = keeps }
  turn_holds r plain turn.Training answers sends keeps = absurd sends
  turn_holds r plain (turn.Burst marks) answers sends keeps = absurd sends
  turn_holds r plain turn.Pps answers sends keeps = absurd sends
  turn_holds r plain turn.Rr answers sends keeps = absurd sends
  turn_holds r plain t answers sends keeps = absurd plain

step_holds : AnswerersTurnsMean → (r : Rule) → IsPlain r → (s : Answerer) (input : AnswererInput) (said : List PlainSaid) → Given input said →
    Holds r s said →
    Holds r (answerer_step s input).next
    (and_said AnswererSide (answerer_items (answerer_step s input).next (answerer_step s input).turn) said)
step_holds mean r plain s input said given h = at s.ending refl
  where
    at : (e : Option End) → s.ending ≡ e → Holds r (answerer_step s input).next
        (and_said AnswererSide (answerer_items (answerer_step s input).next (answerer_step s input).turn) said)
    at (Some why) is = subst (λ a. Holds r a.next (and_said AnswererSide (answerer_items a.next a.turn) said))
        (sym (ap (λ e. unless_answerer_ended e input s) is)) h
    at None is =
        turn_holds s (answerer_step s input).next said (h.runs is) r plain (answerer_step s input).turn (step_so said s input given) (mean s input is) h.keeps

move_holds : AnswerersTurnsMean → (r : Rule) → IsPlain r → (s : Answerer) (move : Move) (before : List PlainSaid) → IsChecked move before →
    Holds r s before → Holds r (moved move s) (answered move s (called move before))
move_holds mean r plain s (misses signal) before checked h = caller_holds r s signal before h
move_holds mean r plain s (meets (listens signal)) before checked h =
    step_holds mean r plain s (listens signal) (by_caller signal before) (given signal) (caller_holds r s signal before h)
  where
    given : (signal : PlainSignal) → Given (listens signal) (by_caller signal before)
    given (pps ends page block last) = λ begun. refl
    given rr = λ begun. refl
    given signal = tt
move_holds mean r plain s (meets (trains octets)) before checked h =
    step_holds mean r plain s (trains octets) before (λ begun. training_same before begun false ∙ checked) h
move_holds mean r plain s (meets t1) before checked h = step_holds mean r plain s t1 before tt h
move_holds mean r plain s (meets t2) before checked h = step_holds mean r plain s t2 before tt h
move_holds mean r plain s (meets (is_busy busy)) before checked h = step_holds mean r plain s (is_busy busy) before tt h

talk_holds : AnswerersTurnsMean → (r : Rule) → IsPlain r → (moves : List Move) (s : Answerer) (before : List PlainSaid) →
    AreChecked moves s before → Holds r s before → AnswererKeeps r (talk moves s before)
talk_holds mean r plain [] s before checked h = h.keeps
talk_holds mean r plain (move ∷ moves) s before checked h =
    talk_holds mean r plain moves (moved move s) (answered move s (called move before)) checked.1 (move_holds mean r plain s move before checked.0 h)

first_right : (r : Rule) (caps : Caps) → IsPlain r → breaks r (record { by = AnswererSide; signal = dis caps }) [] ≡ false
first_right rule.WrongSide caps plain = refl
first_right rule.Ended caps plain = refl
first_right rule.NotTrained caps plain = refl
first_right rule.NoCommand caps plain = refl
first_right r caps plain = absurd plain

pub keep_always : AnswerersTurnsMean → (r : Rule) → IsPlain r → AnswerersKeepAlways r
keep_always mean r plain caps params moves checked =
    talk_holds mean r plain moves (new_answerer caps params) (record { by = AnswererSide; signal = dis caps } ∷ []) checked
    (record { runs = λ e. refl; keeps = (λ by. first_right r caps plain, tt) })
