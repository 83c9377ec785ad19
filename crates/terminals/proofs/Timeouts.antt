-- What is to be done at a time of a call, and when.
use Rattle.std.proofs.Common.{◌≡◌, ◌≢◌, ◌+◌, ◌≤◌, ℕ, Bool, true, false, refl, subst, sym, inl, inr, arith}
use Rattle.std.proofs.lemmas.Bool.{leb-false, leb-true}
use Rattle.std.specs.Prelude.{◌↔◌, Option, Some, None, cond, nat_le}
use Rattle.signals.specs.declared.signal.Side.{Side}
use Rattle.stations.specs.declared.stopping.CallEnd.{CallEnd}
use Rattle.stations.specs.declared.waiting.Wait.{Wait}
use Rattle.terminals.proofs.Clocks.{IsDue, Named, earlier_first, earlier_then, one_or_other, waits_are_named}
use Rattle.terminals.specs.Clocks.{due, earlier, is_past, wait_due, wait_over}
use Rattle.terminals.specs.Timeouts.{LimitsHold, TimeoutsAreDue, due_if, stop_or_over, timeout_if}
use Rattle.terminals.specs.declared.clock.Clock.{Clock}
use Rattle.terminals.specs.declared.clock.Durations.{Durations}
use Rattle.terminals.specs.declared.clock.LineState.{LineState}
use Rattle.terminals.specs.declared.clock.LineState.TheVariants.{Quiet, Carrier, Ended, Unsaid}
use Rattle.terminals.specs.declared.stopping.Shown.{Shown}
use Rattle.terminals.specs.declared.timeout.Limit.{Limit}
use Rattle.terminals.specs.declared.timeout.Timeout.{Timeout}
use Rattle.terminals.specs.declared.timeout.Timeout.TheVariants.{Stop, GiveUp}

-- ---- a duration that has passed

past_if : (now : ℕ) (since : Option ℕ) (length most : ℕ) → since ≡ Some most → most + length ≤ now → is_past now since length ≡ true
past_if now None length most e few = let no : None ≡ Some most = e in absurd (cc)
past_if now (Some since) length most e few = at (nat_le (since + length) now) refl
  where
    is : Some since ≡ Some most
    is = e

    same : since ≡ most
    same = cc

    at : (b : Bool) → nat_le (since + length) now ≡ b → b ≡ true
    at true h = refl
    at false h = absurd (omega (arith, leb-false (since + length) now h, same, few))

past_due : (now : ℕ) (since : Option ℕ) (length : ℕ) → (is_past now since length ≡ true) ↔ IsDue (due since length) now
past_due now None length = (λ e. absurd (cc), λ h. let no : None ≡ Some h.0 = h.1 in absurd (cc))
past_due now (Some since) length = at (nat_le (since + length) now) refl
  where
    at : (b : Bool) → nat_le (since + length) now ≡ b → (b ≡ true) ↔ IsDue (Some (since + length)) now
    at true e = (λ h. (since + length, refl, leb-true (since + length) now e), λ h. refl)
    at false e = (
      λ h. absurd (cc),
      λ h.
          let is : Some (since + length) ≡ Some h.0 = h.1 in
          let same : since + length ≡ h.0 = cc in absurd (omega (arith, leb-false (since + length) now e, same, h.2)),
    )

-- ---- what is to be done, and when

-- something is to be done exactly if its time is named, and isn't later than now
abbrev IsNamed : Option Timeout → Option ℕ → ℕ → Type 0
IsNamed done named now = (done ≢ None) ↔ IsDue named now

busy_named : (past : Bool) (named : Option ℕ) (now : ℕ) → (past ≡ true) ↔ IsDue named now →
    IsNamed (cond past (Some GiveUp) None) named now
busy_named true named now h = (λ some. h.0 refl, λ is e. cc)
busy_named false named now h = (λ some. absurd (some refl), λ is e. let no : false ≡ true = h.1 is in cc)

ended_named : (past : Bool) (named : Option ℕ) (now : ℕ) → (past ≡ true) ↔ IsDue named now → IsNamed (stop_or_over past None) named now
ended_named true named now h = (λ some. h.0 refl, λ is e. cc)
ended_named false named now h = (λ some. absurd (some refl), λ is e. let no : false ≡ true = h.1 is in cc)

quiet_named : (past : Bool) (over : Option Wait) (a b : Option ℕ) (now : ℕ) → (past ≡ true) ↔ IsDue a now → Named over b now →
    IsNamed (stop_or_over past over) (earlier a b) now
quiet_named true over a b now h k = (λ some. earlier_first a b now (h.0 refl), λ is e. cc)
quiet_named false (Some wait) a b now h k = (λ some. earlier_then a b now (k.0 (λ e. cc)), λ is e. cc)
quiet_named false None a b now h k = (
  λ some. absurd (some refl),
  λ is e. elim (one_or_other a b now is) [ inl x ↦ (let no : false ≡ true = h.1 x in cc) | inr y ↦ k.1 y refl ],
)

named_if : (end : Option CallEnd) (line : LineState) (side : Side) (shown : Shown) (c : Clock) (d : Durations) (limit : Limit) (now : ℕ) →
    IsNamed (timeout_if end line side shown (record c { now = now }) d limit) (due_if end line side shown c d limit) now
named_if (Some end) line side shown c d limit now = (λ some. absurd (some refl), λ h. let no : None ≡ Some h.0 = h.1 in absurd (cc))
named_if None Quiet side shown c d limit now =
    quiet_named (is_past now limit.most 0) (wait_over side shown (record c { now = now }) d) (due limit.most 0) (wait_due side shown c d) now
    (past_due now limit.most 0) (waits_are_named side shown c d now)
named_if None Ended side shown c d limit now =
    ended_named (is_past now limit.most 0) (due limit.most 0) now (past_due now limit.most 0)
named_if None Carrier side shown c d limit now =
    busy_named (is_past now limit.most limit.more) (due limit.most limit.more) now (past_due now limit.most limit.more)
named_if None Unsaid side shown c d limit now =
    busy_named (is_past now limit.most limit.more) (due limit.most limit.more) now (past_due now limit.most limit.more)

pub timeouts_are_due : TimeoutsAreDue
timeouts_are_due line side shown c d limit now = named_if shown.end line side shown c d limit now

-- ---- limits

stops : (past : Bool) (over : Option Wait) → past ≡ true → stop_or_over past over ≡ Some Stop
stops true over e = refl
stops false over e = absurd (cc)

gives_up : (past : Bool) → past ≡ true → cond past (Some GiveUp) None ≡ Some GiveUp
gives_up true e = refl
gives_up false e = absurd (cc)

pub limits_hold : LimitsHold
limits_hold side shown c d limit most on is = record {
  quiet = λ few.
      subst (λ (end : Option CallEnd). timeout_if end Quiet side shown c d limit ≡ Some Stop) (sym on)
      (stops (is_past c.now limit.most 0) (wait_over side shown c d) (past_if c.now limit.most 0 most is (omega (arith, few))));
  ended = λ few.
      subst (λ (end : Option CallEnd). timeout_if end Ended side shown c d limit ≡ Some Stop) (sym on)
      (stops (is_past c.now limit.most 0) None (past_if c.now limit.most 0 most is (omega (arith, few))));
  carrier = λ few.
      subst (λ (end : Option CallEnd). timeout_if end Carrier side shown c d limit ≡ Some GiveUp) (sym on)
      (gives_up (is_past c.now limit.most limit.more) (past_if c.now limit.most limit.more most is few));
  unsaid = λ few.
      subst (λ (end : Option CallEnd). timeout_if end Unsaid side shown c d limit ≡ Some GiveUp) (sym on)
      (gives_up (is_past c.now limit.most limit.more) (past_if c.now limit.most limit.more most is few));
}
