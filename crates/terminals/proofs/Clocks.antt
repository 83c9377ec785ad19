-- The wait that is over at a quiet line.
use Rattle.std.proofs.Common.{◌≡◌, ◌≢◌, ◌+◌, ◌≤◌, ◌⊎◌, ◌∙◌, ℕ, Bool, true, false, ap, refl, subst, sym, inl, inr, arith}
use Rattle.std.proofs.lemmas.Bool.{cases_Bool, leb-false, leb-true}
use Rattle.std.specs.Prelude.{◌↔◌, Option, Some, None, cond, nat_le}
use Rattle.terminals.specs.Clocks.{duration, first_of, is_past, longer_over, longer_runs_from, running_over, runs_from, wait_over}
use Rattle.terminals.specs.Clocks.{CalmIsQuiet, CarriersHold, HasPassed, WaitsAreNamed, WaitsPass}
use Rattle.terminals.specs.Clocks.{due, earlier, longer_due, running_due}
use Rattle.terminals.specs.declared.clock.Clock.{Clock}
use Rattle.terminals.specs.declared.clock.Durations.{Durations}
use Rattle.signals.specs.declared.signal.Side.{Side}
use Rattle.signals.specs.declared.signal.Side.TheVariants.{Caller, Answerer}
use Rattle.stations.specs.declared.waiting.Wait.{Wait}
use Rattle.stations.specs.declared.waiting.Wait.TheVariants.{T1, T2, T4, T5}
use Rattle.terminals.specs.declared.stopping.Shown.{Shown}

passed : (now : ℕ) (since : Option ℕ) (length : ℕ) → is_past now since length ≡ true → HasPassed now since length
passed now None length h = absurd (cc)
passed now (Some since) length h = (since, refl, leb-true (since + length) now h)

over_wait : (now : ℕ) (since : Option ℕ) (length : ℕ) (shown wait : Wait) →
    cond (is_past now since length) (Some shown) None ≡ Some wait → (shown ≡ wait) × (is_past now since length ≡ true)
over_wait now since length shown wait h =
    elim (cases_Bool (is_past now since length)) [
      | inl past ↦ (let e : Some shown ≡ Some wait = rw past at h in cc, past)
      | inr early ↦ (let e : None ≡ Some wait = rw early at h in absurd cc)
    ]

pub longer_passed : (longer : Option Wait) (c : Clock) (d : Durations) (wait : Wait) → longer_over longer c d ≡ Some wait →
    (longer ≡ Some wait) × HasPassed c.now (longer_runs_from c wait) (duration d wait)
longer_passed None c d wait h = absurd (cc)
longer_passed (Some shown) c d wait h =
    let over = over_wait c.now (longer_runs_from c shown) (duration d shown) shown wait h in
    subst (λ (w : Wait). (Some shown ≡ Some w) × HasPassed c.now (longer_runs_from c w) (duration d w)) over.0
    (refl, passed c.now (longer_runs_from c shown) (duration d shown) over.1)

running_passed : (side : Side) (running : Option Wait) (c : Clock) (d : Durations) (wait : Wait) → running_over side running c d ≡ Some wait →
    (running ≡ Some wait) × HasPassed c.now (runs_from side c wait) (duration d wait)
running_passed side None c d wait h = absurd (cc)
running_passed side (Some shown) c d wait h =
    let over = over_wait c.now (runs_from side c shown) (duration d shown) shown wait h in
    subst (λ (w : Wait). (Some shown ≡ Some w) × HasPassed c.now (runs_from side c w) (duration d w)) over.0
    (refl, passed c.now (runs_from side c shown) (duration d shown) over.1)

one_of : (a b : Option Wait) (wait : Wait) → first_of a b ≡ Some wait → (a ≡ Some wait) ⊎ (b ≡ Some wait)
one_of (Some shown) b wait h = inl h
one_of None b wait h = inr h

pub waits_pass : WaitsPass
waits_pass side shown c d wait h =
    elim (one_of (longer_over shown.longer c d) (running_over side shown.running c d) wait h) [
      | inl a ↦ inl (longer_passed shown.longer c d wait a)
      | inr b ↦ inr (running_passed side shown.running c d wait b)
    ]

-- no duration has passed since no time
none_passed : (now : ℕ) (since : Option ℕ) (length : ℕ) → since ≡ None → ¬ HasPassed now since length
none_passed now since length none h = let e : None ≡ Some h.0 = sym none ∙ h.1 in absurd (cc)

no_t2 : (side : Side) (shown : Shown) (c : Clock) (d : Durations) → c.calm ≡ None → wait_over side shown c d ≢ Some T2
no_t2 Caller shown c d none h =
    elim (waits_pass Caller shown c d T2 h) [
      | inl a ↦ none_passed c.now c.calm d.t2 none a.1
      | inr b ↦ none_passed c.now c.calm d.t2 none b.1
    ]
no_t2 Answerer shown c d none h =
    elim (waits_pass Answerer shown c d T2 h) [
      | inl a ↦ none_passed c.now c.calm d.t2 none a.1
      | inr b ↦ none_passed c.now c.calm d.t2 none b.1
    ]

no_t4 : (side : Side) (shown : Shown) (c : Clock) (d : Durations) → c.calm ≡ None → wait_over side shown c d ≢ Some T4
no_t4 Caller shown c d none h =
    elim (waits_pass Caller shown c d T4 h) [
      | inl a ↦ none_passed c.now c.calm d.t4 none a.1
      | inr b ↦ none_passed c.now c.calm d.t4 none b.1
    ]
no_t4 Answerer shown c d none h =
    elim (waits_pass Answerer shown c d T4 h) [
      | inl a ↦ none_passed c.now c.calm d.t4 none a.1
      | inr b ↦ none_passed c.now c.calm d.t4 none b.1
    ]

pub carriers_hold : CarriersHold
carriers_hold side shown c d none = (no_t2 side shown c d none, no_t4 side shown c d none)

pub calm_is_quiet : CalmIsQuiet
calm_is_quiet c at later = (refl, refl, refl, refl)

-- ---- the time that is named

-- a time is named, and isn't later than now
abbrev pub IsDue : Option ℕ → ℕ → Type 0
IsDue named now = (at : ℕ) × (named ≡ Some at) × (at ≤ now)

-- a wait is over exactly if its time is named, and isn't later than now
abbrev pub Named : Option Wait → Option ℕ → ℕ → Type 0
Named over named now = (over ≢ None) ↔ IsDue named now

one_named : (now : ℕ) (since : Option ℕ) (length : ℕ) (wait : Wait) →
    Named (cond (is_past now since length) (Some wait) None) (due since length) now
one_named now None length wait = (λ some. absurd (some refl), λ h e. let no : None ≡ Some h.0 = h.1 in cc)
one_named now (Some since) length wait = at (nat_le (since + length) now) refl
  where
    at : (b : Bool) → nat_le (since + length) now ≡ b → Named (cond b (Some wait) None) (Some (since + length)) now
    at true e = (λ some. (since + length, refl, leb-true (since + length) now e), λ h none. cc)
    at false e = (
      λ some. absurd (some refl),
      λ h none.
          let is : Some (since + length) ≡ Some h.0 = h.1 in
          let same : since + length ≡ h.0 = cc in absurd (omega (arith, leb-false (since + length) now e, same, h.2)),
    )

longer_named : (longer : Option Wait) (c : Clock) (d : Durations) → Named (longer_over longer c d) (longer_due longer c d) c.now
longer_named None c d = (λ some. absurd (some refl), λ h e. let no : None ≡ Some h.0 = h.1 in cc)
longer_named (Some wait) c d = one_named c.now (longer_runs_from c wait) (duration d wait) wait

running_named : (side : Side) (running : Option Wait) (c : Clock) (d : Durations) →
    Named (running_over side running c d) (running_due side running c d) c.now
running_named side None c d = (λ some. absurd (some refl), λ h e. let no : None ≡ Some h.0 = h.1 in cc)
running_named side (Some wait) c d = one_named c.now (runs_from side c wait) (duration d wait) wait

some_due : (x at now : ℕ) → Some x ≡ Some at → at ≤ now → IsDue (Some x) now
some_due x at now e few = (at, e, few)

pub earlier_first : (a b : Option ℕ) (now : ℕ) → IsDue a now → IsDue (earlier a b) now
earlier_first None b now h = let no : None ≡ Some h.0 = h.1 in absurd cc
earlier_first (Some x) None now h = h
earlier_first (Some x) (Some y) now h = at (nat_le x y) refl
  where
    is : Some x ≡ Some h.0
    is = h.1

    same : x ≡ h.0
    same = cc

    at : (b : Bool) → nat_le x y ≡ b → IsDue (Some (cond b x y)) now
    at true e = h
    at false e = (y, refl, omega (arith, leb-false x y e, same, h.2))

pub earlier_then : (a b : Option ℕ) (now : ℕ) → IsDue b now → IsDue (earlier a b) now
earlier_then None b now h = h
earlier_then (Some x) None now h = let no : None ≡ Some h.0 = h.1 in absurd cc
earlier_then (Some x) (Some y) now h = at (nat_le x y) refl
  where
    is : Some y ≡ Some h.0
    is = h.1

    same : y ≡ h.0
    same = cc

    at : (b : Bool) → nat_le x y ≡ b → IsDue (Some (cond b x y)) now
    at true e = (x, refl, omega (arith, leb-true x y e, same, h.2))
    at false e = h

pub one_or_other : (a b : Option ℕ) (now : ℕ) → IsDue (earlier a b) now → IsDue a now ⊎ IsDue b now
one_or_other None b now h = inr h
one_or_other (Some x) None now h = inl h
one_or_other (Some x) (Some y) now h = at (nat_le x y) h
  where
    at : (b : Bool) → IsDue (Some (cond b x y)) now → IsDue (Some x) now ⊎ IsDue (Some y) now
    at true k = inl k
    at false k = inr k

first_some : (one other : Option Wait) → one ≢ None → first_of one other ≢ None
first_some None other some = absurd (some refl)
first_some (Some wait) other some = some

then_some : (one other : Option Wait) → other ≢ None → first_of one other ≢ None
then_some None other some = some
then_some (Some wait) other some = λ e. cc

both_named : (one other : Option Wait) (a b : Option ℕ) (now : ℕ) → Named one a now → Named other b now →
    Named (first_of one other) (earlier a b) now
both_named None other a b now h k = (
  λ some. earlier_then a b now (k.0 some),
  λ is. elim (one_or_other a b now is) [ inl x ↦ absurd (h.1 x refl) | inr y ↦ k.1 y ],
)
both_named (Some wait) other a b now h k = (λ some. earlier_first a b now (h.0 (λ e. cc)), λ is e. cc)

-- when a wait is due doesn't depend on the time of the last line
longer_same : (wait : Wait) (c : Clock) (now : ℕ) → longer_runs_from (record c { now = now }) wait ≡ longer_runs_from c wait
longer_same T1 c now = refl
longer_same T2 c now = refl
longer_same T4 c now = refl
longer_same T5 c now = refl

running_same : (side : Side) (wait : Wait) (c : Clock) (now : ℕ) → runs_from side (record c { now = now }) wait ≡ runs_from side c wait
running_same Caller T1 c now = refl
running_same Caller T2 c now = refl
running_same Caller T4 c now = refl
running_same Caller T5 c now = refl
running_same Answerer T1 c now = refl
running_same Answerer T2 c now = refl
running_same Answerer T4 c now = refl
running_same Answerer T5 c now = refl

longer_due_same : (longer : Option Wait) (c : Clock) (d : Durations) (now : ℕ) →
    longer_due longer (record c { now = now }) d ≡ longer_due longer c d
longer_due_same None c d now = refl
longer_due_same (Some wait) c d now = ap (λ since. due since (duration d wait)) (longer_same wait c now)

running_due_same : (side : Side) (running : Option Wait) (c : Clock) (d : Durations) (now : ℕ) →
    running_due side running (record c { now = now }) d ≡ running_due side running c d
running_due_same side None c d now = refl
running_due_same side (Some wait) c d now = ap (λ since. due since (duration d wait)) (running_same side wait c now)

pub waits_are_named : WaitsAreNamed
waits_are_named side shown c d now =
    let later : Clock = record c { now = now } in
    both_named (longer_over shown.longer later d) (running_over side shown.running later d) (longer_due shown.longer c d)
    (running_due side shown.running c d) now
    (subst (λ named. Named (longer_over shown.longer later d) named now) (longer_due_same shown.longer c d now)
    (longer_named shown.longer later d))
    (subst (λ named. Named (running_over side shown.running later d) named now) (running_due_same side shown.running c d now)
    (running_named side shown.running later d))
