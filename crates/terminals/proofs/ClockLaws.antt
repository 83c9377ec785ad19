-- The waits that are over, the times that they run from, and the durations.
use Rattle.std.proofs.Common.{◌≡◌, ◌≢◌, ◌∙◌, ◌+◌, ◌*◌, ◌≤◌, ℕ, Bool, true, false, ap, refl, sym, inl, inr, arith}
use Rattle.std.proofs.lemmas.Bool.{le-leb}
use Rattle.std.specs.Prelude.{Option, Some, None, cond}
use Rattle.signals.specs.Training.{bits_a_second}
use Rattle.signals.specs.declared.params.Speed.{Speed}
use Rattle.signals.specs.declared.params.Speed.TheVariants.{V27At2400, V27At4800, V29At7200, V29At9600, V17At7200, V17At9600, V17At12000}
use Rattle.signals.specs.declared.params.Speed.TheVariants.{V17At14400}
use Rattle.stations.specs.declared.carrier.Carrier.TheVariants.{Page}
use Rattle.signals.specs.declared.signal.Side.{Side}
use Rattle.signals.specs.declared.signal.Side.TheVariants.{Caller, Answerer}
use Rattle.stations.specs.declared.waiting.Wait.{Wait}
use Rattle.stations.specs.declared.waiting.Wait.TheVariants.{T1, T2, T4, T5}
use Rattle.terminals.specs.ClockLaws.{FlagsLast, IsOverOrLonger, OverHavePassed, OverHavePassedAlways, PassedAreOver, PassedAreOverAlways, T1RunsFromHeardAlways}
use Rattle.terminals.specs.ClockLaws.{T5RunsFromFirstAlways, WaitsLast}
use Rattle.terminals.specs.Clocks.{HasPassed, asked_since, first_of, heard_now, is_past, longer_over, running_over, since_or, wait_over}
use Rattle.terminals.specs.Timing.{flags_before}
use Rattle.terminals.proofs.Clocks.{longer_passed, waits_pass}
use Rattle.terminals.specs.declared.clock.Clock.{Clock}
use Rattle.terminals.specs.declared.clock.Durations.{Durations}
use Rattle.terminals.specs.declared.stopping.Shown.{Shown}

-- ---- what has passed is over

is_over : (now since length : ℕ) (wait : Wait) → since + length ≤ now →
    cond (is_past now (Some since) length) (Some wait) None ≡ Some wait
is_over now since length wait h = ap (λ b. cond b (Some wait) None) (le-leb (since + length) now h)

first_is : (one other : Option Wait) (wait : Wait) → one ≡ Some wait → first_of one other ≡ Some wait
first_is one other wait e = ap (λ x. first_of x other) e

longer_is_over : (side : Side) (shown : Shown) (c : Clock) (d : Durations) (wait : Wait) → longer_over shown.longer c d ≡ Some wait →
    wait_over side shown c d ≡ Some wait
longer_is_over side shown c d wait e = first_is (longer_over shown.longer c d) (running_over side shown.running c d) wait e

-- the longer wait is one that is shown
longer_is_shown : (longer : Option Wait) (c : Clock) (d : Durations) (wait : Wait) → longer_over longer c d ≡ Some wait →
    longer ≡ Some wait
longer_is_shown longer c d wait e = (longer_passed longer c d wait e).0

or_longer : (side : Side) (shown : Shown) (c : Clock) (d : Durations) (wait : Wait) (longer : Option Wait) →
    longer_over shown.longer c d ≡ longer → running_over side shown.running c d ≡ Some wait → IsOverOrLonger side shown c d wait
or_longer side shown c d wait None e f =
    inl (ap (λ x. first_of x (running_over side shown.running c d)) e ∙ f)
or_longer side shown c d wait (Some over) e f =
    inr (over, longer_is_shown shown.longer c d over e, longer_is_over side shown c d over e)

-- T2 and T4 run since the line is quiet, in either station
calm_over : (side : Side) (c : Clock) (d : Durations) (since : ℕ) → c.calm ≡ Some since →
    (since + d.t2 ≤ c.now → running_over side (Some T2) c d ≡ Some T2) × (since + d.t4 ≤ c.now → running_over side (Some T4) c d ≡ Some T4)
calm_over Caller c d since calm = (
  λ h. ap (λ x. cond (is_past c.now x d.t2) (Some T2) None) calm ∙ is_over c.now since d.t2 T2 h,
  λ h. ap (λ x. cond (is_past c.now x d.t4) (Some T4) None) calm ∙ is_over c.now since d.t4 T4 h,
)
calm_over Answerer c d since calm = (
  λ h. ap (λ x. cond (is_past c.now x d.t2) (Some T2) None) calm ∙ is_over c.now since d.t2 T2 h,
  λ h. ap (λ x. cond (is_past c.now x d.t4) (Some T4) None) calm ∙ is_over c.now since d.t4 T4 h,
)

passed : (shown : Shown) (c : Clock) (d : Durations) → PassedAreOver shown c d
passed shown c d = record {
  t5 = λ side since shows asked h. longer_is_over side shown c d T5 (
      ap (λ x. longer_over x c d) shows ∙ ap (λ x. cond (is_past c.now x d.t5) (Some T5) None) asked ∙ is_over c.now since d.t5 T5 h
      );
  t1 = λ side shows h. longer_is_over side shown c d T1 (ap (λ x. longer_over x c d) shows ∙ is_over c.now c.heard d.t1 T1 h);
  caller_t1 = λ shows h. or_longer Caller shown c d T1 (longer_over shown.longer c d) refl (
      ap (λ x. running_over Caller x c d) shows ∙ is_over c.now c.heard d.t1 T1 h
      );
  t2 = λ side since shows calm h. or_longer side shown c d T2 (longer_over shown.longer c d) refl (
      ap (λ x. running_over side x c d) shows ∙ (calm_over side c d since calm).0 h
      );
  t4 = λ side since shows calm h. or_longer side shown c d T4 (longer_over shown.longer c d) refl (
      ap (λ x. running_over side x c d) shows ∙ (calm_over side c d since calm).1 h
      );
}

pub passed_are_over : PassedAreOverAlways
passed_are_over shown c d = passed shown c d

-- ---- the times that waits run from

not_t5 : (longer : Option Wait) (c : Clock) → longer ≢ Some T5 → (asked_since longer c).asked ≡ None
not_t5 None c other = refl
not_t5 (Some T1) c other = refl
not_t5 (Some T2) c other = refl
not_t5 (Some T4) c other = refl
not_t5 (Some T5) c other = absurd (other refl)

pub t5_runs_from_first : T5RunsFromFirstAlways
t5_runs_from_first c = record {
  first = λ none. ap (λ x. since_or x c.now) none;
  later = λ since e. ap (λ x. since_or x c.now) e;
  no_more = λ longer other. not_t5 longer c other;
  at_a_line = λ line at. refl;
  at_a_frame = frame c;
  at_a_burst = refl;
}
  where
    frame : (c : Clock) (brought : Bool) → (heard_now brought c).asked ≡ c.asked
    frame c true = refl
    frame c false = refl

pub t1_runs_from_heard : T1RunsFromHeardAlways
t1_runs_from_heard c = record {
  brought = refl;
  nothing = refl;
  at_a_line = λ line at. (refl, refl);
  at_a_burst = refl;
  at_a_wait = λ longer. refl;
}

-- ---- the durations

pub waits_last : WaitsLast
waits_last = record {
  t1 = (omega arith, omega arith);
  t2 = (omega arith, omega arith);
  t4 = (omega arith, omega arith);
  t5 = (omega arith, omega arith);
  twice = omega arith;
}

pages_last : (speed : Speed) → 5 * (8 * flags_before (Page speed)) ≡ bits_a_second speed
pages_last V27At2400 = refl
pages_last V27At4800 = refl
pages_last V29At7200 = refl
pages_last V29At9600 = refl
pages_last V17At7200 = refl
pages_last V17At9600 = refl
pages_last V17At12000 = refl
pages_last V17At14400 = refl

pub flags_last : FlagsLast
flags_last = record {
  page = pages_last;
  v21 = (omega arith, omega arith);
  check = λ speed. (refl, refl);
  after = λ speed. (refl, refl);
}

-- ---- what is over has passed

some_passed : (now since passed : ℕ) → HasPassed now (Some since) passed → since + passed ≤ now
some_passed now since passed h = let is : Some since ≡ Some h.0 = h.1 in let same : since ≡ h.0 = cc in omega (arith, same, h.2)

over_passed : (shown : Shown) (c : Clock) (d : Durations) → OverHavePassed shown c d
over_passed shown c d = record {
  t5 = t5;
  t1 = t1;
  caller_t1 = λ e. elim (waits_pass Caller shown c d T1 e) [
    | inl a ↦ some_passed c.now c.heard d.t1 a.1
    | inr b ↦ some_passed c.now c.heard d.t1 b.1
  ];
  answerer_t1 = λ e none. elim (waits_pass Answerer shown c d T1 e) [
    | inl a ↦ let no : None ≡ Some T1 = sym none ∙ a.0 in absurd cc
    | inr b ↦ b.1
  ];
  t2 = t2;
  t4 = t4;
}
  where
    t5 : (side : Side) → wait_over side shown c d ≡ Some T5 → HasPassed c.now c.asked d.t5
    t5 Caller e = elim (waits_pass Caller shown c d T5 e) [ inl a ↦ a.1 | inr b ↦ b.1 ]
    t5 Answerer e = elim (waits_pass Answerer shown c d T5 e) [ inl a ↦ a.1 | inr b ↦ b.1 ]

    t1 : (side : Side) → wait_over side shown c d ≡ Some T1 → shown.running ≢ Some T1 → c.heard + d.t1 ≤ c.now
    t1 side e other = elim (waits_pass side shown c d T1 e) [
      | inl a ↦ some_passed c.now c.heard d.t1 a.1
      | inr b ↦ absurd (other b.0)
    ]

    t2 : (side : Side) → wait_over side shown c d ≡ Some T2 → HasPassed c.now c.calm d.t2
    t2 Caller e = elim (waits_pass Caller shown c d T2 e) [ inl a ↦ a.1 | inr b ↦ b.1 ]
    t2 Answerer e = elim (waits_pass Answerer shown c d T2 e) [ inl a ↦ a.1 | inr b ↦ b.1 ]

    t4 : (side : Side) → wait_over side shown c d ≡ Some T4 → HasPassed c.now c.calm d.t4
    t4 Caller e = elim (waits_pass Caller shown c d T4 e) [ inl a ↦ a.1 | inr b ↦ b.1 ]
    t4 Answerer e = elim (waits_pass Answerer shown c d T4 e) [ inl a ↦ a.1 | inr b ↦ b.1 ]

pub over_have_passed : OverHavePassedAlways
over_have_passed shown c d = over_passed shown c d
