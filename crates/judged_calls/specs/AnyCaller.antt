-- What is said where an answerer that follows its table is called by any caller over any line, and the law that it is never the first to
-- break a rule.
use Rattle.std.specs.Prelude.{◌≡◌, ◌<◌, true, false, List, [], ◌∷◌, None}
use Rattle.signals.specs.Signals.{PlainSignal, dis, dcs, fcd, rcp, pps, mcf, rnr, rr, dcn}
use Rattle.signals.specs.declared.params.Caps.{Caps}
use Rattle.signals.specs.declared.params.Params.{Params}
use Rattle.signals.specs.declared.signal.PageEnd.TheVariants.{Eop}
use Rattle.signals.specs.declared.signal.Side.TheVariants.{Caller as CallerSide, Answerer as AnswererSide}
use Rattle.stations.specs.AnswererStep.{Answerer, answerer_step, answerer_items, new_answerer}
use Rattle.stations.specs.Inputs.{AnswererInput, listens, trains}
use Rattle.referee.specs.Frames.{asked}
use Rattle.referee.specs.History.{PlainSaid}
use Rattle.referee.specs.Rows.{answers, calls, fast, lacks_one, trained, two_frames, whole_block, wide}
use Rattle.referee.specs.Rules.{breaks, broken, is_clean}
use Rattle.referee.specs.declared.rule.Rule.{Rule}
use Rattle.referee.specs.declared.question.Question.TheVariants.{IsTraining}
use Rattle.judged_calls.specs.SaidCalls.{and_said}

-- the caller says a signal, after what was said before
abbrev pub by_caller : PlainSignal → List PlainSaid → List PlainSaid
by_caller signal before = record { by = CallerSide; signal = signal } ∷ before

-- What happens to an answerer: the caller says a signal that doesn't come, or the answerer has an input. A signal that it hears is said by the
-- caller.
pub data Move : Type 0 where
  misses : PlainSignal → Move
  meets : AnswererInput → Move

-- what is said before the answerer answers
abbrev pub called : Move → List PlainSaid → List PlainSaid
called (misses signal) before = by_caller signal before
called (meets (listens signal)) before = by_caller signal before
called (meets input) before = before

-- the answerer afterwards
abbrev pub moved : Move → Answerer → Answerer
moved (misses signal) s = s
moved (meets input) s = (answerer_step s input).next

-- what is said with its answer
abbrev pub answered : Move → Answerer → List PlainSaid → List PlainSaid
answered (misses signal) s said = said
answered (meets input) s said =
    let answer = answerer_step s input in and_said AnswererSide (answerer_items answer.next answer.turn) said

-- what is said in a call, after what was said before
abbrev pub talk : List Move → Answerer → List PlainSaid → List PlainSaid
talk [] s before = before
talk (move ∷ moves) s before = talk moves (moved move s) (answered move s (called move before))

-- the last frame that a PPS counts is a number of one octet
abbrev pub IsOfOctets : PlainSignal → Type 0
IsOfOctets (pps ends page block last) = last < 256
IsOfOctets _ = Unit {0}

-- the caller may say a signal: it breaks no rule
pub record MaySay (signal : PlainSignal) (before : List PlainSaid) : Type 0 where
  pub right : broken (record { by = CallerSide; signal = signal }) before ≡ None
  pub octets : IsOfOctets signal

-- The law: a caller may say each of its frames in a call in which a frame is lost and sent again, and in one with a busy answerer.
pub record AreSaidFairly : Type 0 where
  pub command : MaySay (dcs wide) (answers (dis fast) ∷ [])
  pub first : MaySay (fcd 0 (0x11 ∷ [])) trained
  pub end_of_burst : MaySay rcp (calls (fcd 0 (0x11 ∷ [])) ∷ trained)
  pub counts : MaySay (pps Eop 0 0 1) two_frames
  pub again : MaySay (fcd 1 (0x22 ∷ [])) lacks_one
  pub ready : MaySay rr (answers rnr ∷ whole_block)
  pub leaves : MaySay dcn (answers mcf ∷ whole_block)

-- a caller that keeps the rules: none is broken by what it says, and a training check follows a DCS
abbrev pub IsFair : Move → List PlainSaid → Type 0
IsFair (misses signal) before = MaySay signal before
IsFair (meets (listens signal)) before = MaySay signal before
IsFair (meets (trains octets)) before = asked IsTraining before ≡ true
IsFair (meets input) before = Unit {0}

-- a caller that keeps the rules in a whole call
abbrev pub AreFair : List Move → Answerer → List PlainSaid → Type 0
AreFair [] s before = Unit {0}
AreFair (move ∷ moves) s before = IsFair move before × AreFair moves (moved move s) (answered move s (called move before))

-- The law: an answerer that follows its table is never the first to break a rule. Whoever calls it, whichever of the caller's frames come
-- and whichever of its own are heard: as long as no frame of the caller breaks a rule, none of the answerer's does.
abbrev pub AnswerersAreNotFirst : Type 0
AnswerersAreNotFirst =
    (caps : Caps) (params : Params) (moves : List Move) →
    AreFair moves (new_answerer caps params) (record { by = AnswererSide; signal = dis caps } ∷ []) →
    is_clean (talk moves (new_answerer caps params) (record { by = AnswererSide; signal = dis caps } ∷ [])) ≡ true

-- ---- a caller that may break any rule

-- a training check follows a DCS, the caller's last frame but for DCN
abbrev pub IsChecked : Move → List PlainSaid → Type 0
IsChecked (meets (trains octets)) before = asked IsTraining before ≡ true
IsChecked move before = Unit {0}

-- the same in a whole call
abbrev pub AreChecked : List Move → Answerer → List PlainSaid → Type 0
AreChecked [] s before = Unit {0}
AreChecked (move ∷ moves) s before = IsChecked move before × AreChecked moves (moved move s) (answered move s (called move before))

-- no frame of the answerer breaks one rule
abbrev pub AnswererKeeps : Rule → List PlainSaid → Type 0
AnswererKeeps rule [] = Unit {0}
AnswererKeeps rule (said ∷ before) = (said.by ≡ AnswererSide → breaks rule said before ≡ false) × AnswererKeeps rule before

-- law for one rule: no frame of an answerer that follows its table breaks it, whatever its caller says and whatever of it comes
abbrev pub AnswerersKeepAlways : Rule → Type 0
AnswerersKeepAlways rule =
    (caps : Caps) (params : Params) (moves : List Move) →
    AreChecked moves (new_answerer caps params) (record { by = AnswererSide; signal = dis caps } ∷ []) →
    AnswererKeeps rule (talk moves (new_answerer caps params) (record { by = AnswererSide; signal = dis caps } ∷ []))
