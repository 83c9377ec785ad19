-- Which waits run, by what their ends do.
use Rattle.std.proofs.Common.{◌≡◌, ◌≢◌, ◌↔◌, suc, Bool, true, false, cond, Option, Some, None, refl, sym, ap, inl, inr, ◌∙◌}
use Rattle.std.specs.Prelude.{nat_lt}
use Rattle.stations.specs.AnswererStep.{Answerer, AnswererAnswer, answerer_step, answerer_table, unless_answerer_ended}
use Rattle.stations.specs.CallerStep.{Caller, CallerAnswer, caller_step, caller_table, unless_caller_ended, tries_again}
use Rattle.stations.specs.CallerStep.{caller_gives_up}
use Rattle.stations.specs.Inputs.{timeout, t5, t2, t1}
use Rattle.stations.specs.Waits.{caller_wait, caller_longer_wait, answerer_wait, answerer_longer_wait, unless_over, IsOneOf}
use Rattle.stations.specs.Waits.{CallersWait, AnswerersWait}
use Rattle.stations.specs.declared.turn.AnswererState.{AnswererState}
use Rattle.stations.specs.declared.turn.AnswererState.TheVariants.{PhaseB, WaitTraining, Message}
use Rattle.stations.specs.declared.turn.CallerState.{CallerState}
use Rattle.stations.specs.declared.turn.CallerState.TheVariants.{WaitDis, WaitCfr, WaitBlock, WaitReady}
use Rattle.stations.specs.declared.turn.End.{End}
use Rattle.stations.specs.declared.turn.End.TheVariants.{NoAnswer, NoReply, StillBusy}
use Rattle.stations.specs.declared.turn.Turn.{Turn}
use Rattle.stations.specs.declared.turn.Turn.TheVariants.{Silent, Dis as SendDis, Training as SendTraining, Pps as SendPps, Rr as SendRr}
use Rattle.stations.specs.declared.waiting.Wait.{Wait}
use Rattle.stations.specs.declared.waiting.Wait.TheVariants.{T1, T2, T4, T5}

-- the same of an end and a state apart
abbrev Runs : Option End → CallerState → Wait → Type 0
Runs ending state w = IsOneOf (unless_over ending (Some (caller_wait state))) (unless_over ending (caller_longer_wait state)) w

abbrev AnswererRunsIn : Option End → AnswererState → Wait → Type 0
AnswererRunsIn ending state w =
    IsOneOf (unless_over ending (Some (answerer_wait state))) (unless_over ending (answerer_longer_wait state)) w

-- and of what the ends of the waits answer
record CallerAt (ending : Option End) (state : CallerState) (over busy : CallerAnswer) : Type 0 where
  t1 : Runs ending state T1 ↔ ((ending ≡ None) × (over.next.ending ≡ Some NoAnswer))
  t2 : ¬ Runs ending state T2
  t4 : Runs ending state T4 ↔ ((ending ≡ None) × (over.next.ending ≢ Some NoAnswer))
  t5 : Runs ending state T5 ↔ ((ending ≡ None) × (busy.next.ending ≡ Some StillBusy))

record AnswererAt (ending : Option End) (state : AnswererState) (nobody nothing : AnswererAnswer) : Type 0 where
  t1 : AnswererRunsIn ending state T1 ↔ ((ending ≡ None) × (nobody.next.ending ≡ Some NoAnswer))
  t2 : AnswererRunsIn ending state T2 ↔ ((ending ≡ None) × (nothing.turn ≡ SendDis))
  t4 : ¬ AnswererRunsIn ending state T4
  t5 : ¬ AnswererRunsIn ending state T5

-- no try is the last one for want of an answer
tries_end : (c : Caller) (turn : Turn) → c.ending ≡ None → (tries_again c turn).next.ending ≢ Some NoAnswer
tries_end c turn runs e = at (nat_lt c.try 3) e
  where
    at : (b : Bool) →
        (cond b (record { next = record c { try = suc c.try }; turn = turn }) (caller_gives_up c NoReply)).next.ending ≡ Some NoAnswer → ⊥
    at true h = let no : None ≡ Some NoAnswer = sym runs ∙ h in cc
    at false h = cc

-- a caller that runs and has no end isn't still busy
not_busy : (c : Caller) → c.ending ≡ None → c.ending ≡ Some StillBusy → ⊥
not_busy c runs e = let no : None ≡ Some StillBusy = sym runs ∙ e in cc

-- in a state in which something is tried once more, and T5 runs or doesn't
tried :
    (c : Caller) (state : CallerState) (turn : Turn) (busy : CallerAnswer) → c.ending ≡ None → caller_wait state ≡ T4 →
    (Runs None state T5 ↔ (◌≡◌ {A = Option End} None None × (busy.next.ending ≡ Some StillBusy))) → (¬ Runs None state T1) → (¬ Runs None state T2) →
    CallerAt None state (tries_again c turn) busy
tried c state turn busy runs wait fifth first second =
    record {
      t1 = (λ r. absurd (first r), λ h. absurd (tries_end c turn runs h.1));
      t2 = second;
      t4 = (λ r. (refl, tries_end c turn runs), λ h. inl (ap Some wait));
      t5 = fifth;
    }

row : (c : Caller) (state : CallerState) → c.ending ≡ None → CallerAt None state (caller_table state timeout c) (caller_table state t5 c)
row c WaitDis runs =
    record {
      t1 = (λ r. (refl, refl), λ h. inl refl);
      t2 = λ r. elim r [ inl e ↦ cc | inr e ↦ cc ];
      t4 = (λ r. elim r [ inl e ↦ let no : ⊥ = cc in absurd no | inr e ↦ let no : ⊥ = cc in absurd no ], λ h. absurd (h.1 refl));
      t5 = (λ r. elim r [ inl e ↦ let no : ⊥ = cc in absurd no | inr e ↦ let no : ⊥ = cc in absurd no ], λ h. absurd (not_busy c runs h.1));
    }
row c WaitCfr runs =
    tried c WaitCfr SendTraining _ runs refl
    (λ r. elim r [ inl e ↦ let no : ⊥ = cc in absurd no | inr e ↦ let no : ⊥ = cc in absurd no ], λ h. absurd (not_busy c runs h.1))
    (λ r. elim r [ inl e ↦ cc | inr e ↦ cc ]) (λ r. elim r [ inl e ↦ cc | inr e ↦ cc ])
row c WaitBlock runs =
    tried c WaitBlock SendPps _ runs refl
    (λ r. elim r [ inl e ↦ let no : ⊥ = cc in absurd no | inr e ↦ let no : ⊥ = cc in absurd no ], λ h. absurd (not_busy c runs h.1))
    (λ r. elim r [ inl e ↦ cc | inr e ↦ cc ]) (λ r. elim r [ inl e ↦ cc | inr e ↦ cc ])
row c WaitReady runs =
    tried c WaitReady SendRr _ runs refl (λ r. (refl, refl), λ h. inr refl)
    (λ r. elim r [ inl e ↦ cc | inr e ↦ cc ]) (λ r. elim r [ inl e ↦ cc | inr e ↦ cc ])

-- after the end no wait runs
over : (why : End) (state : CallerState) (w : Wait) → Runs (Some why) state w → ⊥
over why state w r = elim r [ inl e ↦ cc | inr e ↦ cc ]

never : {A : Type 0} (why : End) → Some why ≡ None → A
never why e = let no : ⊥ = cc in absurd no

pub callers_wait : CallersWait
callers_wait c =
    let h : CallerAt c.ending c.state (caller_step c timeout) (caller_step c t5) = at c.ending refl in
    record { t1 = h.t1; t2 = h.t2; t4 = h.t4; t5 = h.t5 }
  where
    at : (ending : Option End) → c.ending ≡ ending →
        CallerAt ending c.state (unless_caller_ended ending timeout c) (unless_caller_ended ending t5 c)
    at None runs = row c c.state runs
    at (Some why) e =
        record {
          t1 = (λ r. absurd (over why c.state T1 r), λ h. never why h.0);
          t2 = over why c.state T2;
          t4 = (λ r. absurd (over why c.state T4 r), λ h. never why h.0);
          t5 = (λ r. absurd (over why c.state T5 r), λ h. never why h.0);
        }

answerer_row : (s : Answerer) (state : AnswererState) →
    AnswererAt None state (answerer_table state t1 s) (answerer_table state t2 s)
answerer_row s PhaseB =
    record {
      t1 = (λ r. (refl, refl), λ h. inr refl);
      t2 = (λ r. (refl, refl), λ h. inl refl);
      t4 = λ r. elim r [ inl e ↦ cc | inr e ↦ cc ];
      t5 = λ r. elim r [ inl e ↦ cc | inr e ↦ cc ];
    }
answerer_row s WaitTraining =
    record {
      t1 = (λ r. (refl, refl), λ h. inr refl);
      t2 = (λ r. (refl, refl), λ h. inl refl);
      t4 = λ r. elim r [ inl e ↦ cc | inr e ↦ cc ];
      t5 = λ r. elim r [ inl e ↦ cc | inr e ↦ cc ];
    }
answerer_row s Message =
    record {
      t1 = (λ r. (refl, refl), λ h. inl refl);
      t2 = (
        λ r. elim r [ inl e ↦ let no : ⊥ = cc in absurd no | inr e ↦ let no : ⊥ = cc in absurd no ],
        λ h. let e : Silent ≡ SendDis = h.1 in let no : ⊥ = cc in absurd no,
      );
      t4 = λ r. elim r [ inl e ↦ cc | inr e ↦ cc ];
      t5 = λ r. elim r [ inl e ↦ cc | inr e ↦ cc ];
    }

answerer_over : (why : End) (state : AnswererState) (w : Wait) → AnswererRunsIn (Some why) state w → ⊥
answerer_over why state w r = elim r [ inl e ↦ cc | inr e ↦ cc ]

pub answerers_wait : AnswerersWait
answerers_wait s =
    let h : AnswererAt s.ending s.state (answerer_step s t1) (answerer_step s t2) = at s.ending in
    record { t1 = h.t1; t2 = h.t2; t4 = h.t4; t5 = h.t5 }
  where
    at : (ending : Option End) → AnswererAt ending s.state (unless_answerer_ended ending t1 s) (unless_answerer_ended ending t2 s)
    at None = answerer_row s s.state
    at (Some why) =
        record {
          t1 = (λ r. absurd (answerer_over why s.state T1 r), λ h. never why h.0);
          t2 = (λ r. absurd (answerer_over why s.state T2 r), λ h. never why h.0);
          t4 = answerer_over why s.state T4;
          t5 = answerer_over why s.state T5;
        }
