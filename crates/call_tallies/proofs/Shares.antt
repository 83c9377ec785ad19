-- For how long many calls had the line.
use Rattle.std.proofs.Common.{◌≡◌, ◌⊎◌, ℕ, ◌+◌, ◌*◌, ◌<◌, ◌≤◌, List, [], ◌∷◌, ◌++◌, length, inl, inr, refl, ap, sym, subst, ◌∙◌, arith}
use Rattle.std.proofs.Common.{true, mul-le-mul_right, nat_eq, nat_lt, replicate, slice_index, slice_index_or, slice_set, Option}
use Rattle.std.specs.Io.KnownBytes.{Appends}
use Rattle.std.proofs.lemmas.Grind.{get_or_default_zero}
use Rattle.std.proofs.lemmas.Bool.{cases_eq, cases_lt, eq-eqb, le-ltb, lt-ltb, ne_eqb}
use Rattle.std.proofs.lemmas.List.{get_or-replicate, get_or-set_other, get_or-set_same, length-append}
use Rattle.call_tallies.specs.Seconds.{CountsSeconds, Histogram, IsShare, TellsSeconds, counted_seconds, over_at, over_before}
use Rattle.call_tallies.specs.Seconds.{seconds_row}
use Rattle.call_tallies.specs.Totals.{one_if}
use Rattle.call_tallies.specs.declared.many_calls.OneCall.{OneCall}
use Rattle.call_tallies.proofs.CountedSteps.{total_both}

-- ---- counts of calls

-- a number below the next one is below this one, or it is this one
one_below : (n most : ℕ) → one_if (nat_lt n (most + 1)) ≡ one_if (nat_lt n most) + one_if (nat_eq n most)
one_below n most = at (cases_lt n most) (cases_eq n most)
  where
    at : (n < most) ⊎ (most ≤ n) → (n ≡ most) ⊎ (n ≡ most → ⊥) →
        one_if (nat_lt n (most + 1)) ≡ one_if (nat_lt n most) + one_if (nat_eq n most)
    at (inl less) (inl same) = absurd (omega (arith, less, same))
    at (inl less) (inr apart) =
        let one : one_if (nat_lt n (most + 1)) ≡ 1 = ap one_if (lt-ltb n (most + 1) (omega (arith, less))) in
        let two : one_if (nat_lt n most) ≡ 1 = ap one_if (lt-ltb n most less) in
        let none : one_if (nat_eq n most) ≡ 0 = ap one_if (ne_eqb n most apart) in
        omega (arith, one, two, none)
    at (inr least) (inl same) =
        let one : one_if (nat_lt n (most + 1)) ≡ 1 = ap one_if (lt-ltb n (most + 1) (omega (arith, same))) in
        let none : one_if (nat_lt n most) ≡ 0 = ap one_if (le-ltb n most least) in
        let two : one_if (nat_eq n most) ≡ 1 = ap one_if (eq-eqb n most same) in
        omega (arith, one, two, none)
    at (inr least) (inr apart) =
        let more : most < n = above least apart in
        let one : one_if (nat_lt n (most + 1)) ≡ 0 = ap one_if (le-ltb n (most + 1) (omega (arith, more))) in
        let two : one_if (nat_lt n most) ≡ 0 = ap one_if (le-ltb n most least) in
        let none : one_if (nat_eq n most) ≡ 0 = ap one_if (ne_eqb n most apart) in
        omega (arith, one, two, none)
      where
        above : most ≤ n → (n ≡ most → ⊥) → most < n
        above least apart = elim (cases_lt most n) [ inl less ↦ less | inr few ↦ absurd (apart (omega (arith, least, few))) ]

-- calls before the next second are those before this one, and those at it
before_more : (second : ℕ) (calls : List OneCall) → over_before (second + 1) calls ≡ over_before second calls + over_at second calls
before_more second [] = refl
before_more second (call ∷ calls) =
    let one = one_below (counted_seconds call) second in
    let rest = before_more second calls in
    omega (arith, one, rest)

none_before : (calls : List OneCall) → over_before 0 calls ≡ 0
none_before [] = refl
none_before (call ∷ calls) =
    let one : one_if (nat_lt (counted_seconds call) 0) ≡ 0 = ap one_if (le-ltb (counted_seconds call) 0 (omega arith)) in
    let rest = none_before calls in
    omega (arith, one, rest)

-- all calls are counted before the second after a bound of them
all_before : (second : ℕ) (calls : List OneCall) → ((call : OneCall) → counted_seconds call < second) →
    over_before second calls ≡ length calls
all_before second [] within = refl
all_before second (call ∷ calls) within =
    let one : one_if (nat_lt (counted_seconds call) second) ≡ 1 = ap one_if (lt-ltb (counted_seconds call) second (within call)) in
    let rest = all_before second calls within in
    omega (arith, one, rest)

-- ---- the histogram

-- what is read at a place
pub read_at : (counts : List ℕ) (place read : ℕ) → place < length counts → read ≡ slice_index_or counts place read →
    read ≡ slice_index counts place
read_at counts place read within is = is ∙ get_or_default_zero counts place read within

pub none_counted : (counts : List ℕ) → counts ≡ replicate 86401 0 → CountsSeconds (record { calls = 0; counts = counts }) []
none_counted counts are = record {
  count = refl;
  at = λ second within. ap (λ l. slice_index l second) are ∙ get_or-replicate 86401 second 0 0 within;
}

pub one_counted : (old : Histogram) (calls : List OneCall) (call : OneCall) (count place at : ℕ) → CountsSeconds old calls →
    length old.counts ≡ 86401 → count ≡ old.calls + 1 → place ≡ counted_seconds call → at ≡ slice_index old.counts place + 1 →
    place < 86401 → CountsSeconds (record { calls = count; counts = slice_set old.counts place at }) (calls ++ call ∷ [])
one_counted old calls call count place at t places count_is place_is at_is few = record {
  count = count_is ∙ (ap (λ n. n + 1) t.count ∙ sym (length-append calls (call ∷ [])));
  at = λ other within. at_is_now other within (cases_eq other place);
}
  where
    inside : place < length old.counts
    inside = omega (arith, places, few)

    here : nat_eq (counted_seconds call) place ≡ true
    here = eq-eqb (counted_seconds call) place (sym place_is)

    at_is_now : (other : ℕ) → other < 86401 → (other ≡ place) ⊎ (other ≡ place → ⊥) →
        slice_index (slice_set old.counts place at) other ≡ over_at other (calls ++ call ∷ [])
    at_is_now other within (inl same) =
        let both = total_both (λ (one : OneCall). one_if (nat_eq (counted_seconds one) place)) calls (call ∷ []) in
        let one : one_if (nat_eq (counted_seconds call) place) ≡ 1 = ap one_if here in
        let before : slice_index old.counts place ≡ over_at place calls = t.at place few in
        let now : slice_index (slice_set old.counts place at) place ≡ at = get_or-set_same old.counts place at 0 inside in
        let is : slice_index (slice_set old.counts place at) place ≡ over_at place (calls ++ call ∷ []) =
        omega (arith, both, one, before, now, at_is) in
        subst (λ n. slice_index (slice_set old.counts place at) n ≡ over_at n (calls ++ call ∷ [])) (sym same) is
    at_is_now other within (inr apart) =
        let both = total_both (λ (one : OneCall). one_if (nat_eq (counted_seconds one) other)) calls (call ∷ []) in
        let none : one_if (nat_eq (counted_seconds call) other) ≡ 0 =
        ap one_if (ne_eqb (counted_seconds call) other (λ e. apart (sym e ∙ sym place_is))) in
        let before : slice_index old.counts other ≡ over_at other calls = t.at other within in
        let now : slice_index (slice_set old.counts place at) other ≡ slice_index old.counts other =
        get_or-set_other old.counts place other at 0 apart in
        omega (arith, both, none, before, now)

-- ---- the seconds of a share

-- the calls before a second are counted, and before none of the seconds so far was the share over
pub record Below (share : ℕ) (calls : List OneCall) (second within : ℕ) : Type 0 where
  pub within_is : within ≡ over_before second calls
  pub none : (fewer : ℕ) → fewer < second → 100 * over_before (fewer + 1) calls < share * length calls

pub none_below : (share : ℕ) (calls : List OneCall) → Below share calls 0 0
none_below share calls = record { within_is = sym (none_before calls); none = λ fewer less. absurd (omega (arith, less)) }

pub one_more_below : (share : ℕ) (h : Histogram) (calls : List OneCall) (second within next : ℕ) → CountsSeconds h calls → second < 86401 →
    Below share calls second within → next ≡ within + slice_index h.counts second → next ≡ over_before (second + 1) calls
one_more_below share h calls second within next t few below next_is =
    let at = t.at second few in
    let before = below.within_is in
    let more = before_more second calls in
    omega (arith, next_is, at, before, more)

pub next_below : (share : ℕ) (h : Histogram) (calls : List OneCall) (second within next wanted : ℕ) → CountsSeconds h calls →
    second < 86401 → Below share calls second within → next ≡ within + slice_index h.counts second → wanted ≡ share * h.calls →
    100 * next < wanted → Below share calls (second + 1) next
next_below share h calls second within next wanted t few below next_is wanted_is more = record {
  within_is = next_is_now;
  none = λ fewer less. at fewer (cases_eq fewer second) less;
}
  where
    next_is_now : next ≡ over_before (second + 1) calls
    next_is_now = one_more_below share h calls second within next t few below next_is

    wanted_now : wanted ≡ share * length calls
    wanted_now = wanted_is ∙ ap (λ n. share * n) t.count

    at : (fewer : ℕ) → (fewer ≡ second) ⊎ (fewer ≡ second → ⊥) → fewer < second + 1 →
        100 * over_before (fewer + 1) calls < share * length calls
    at fewer (inl same) less =
        subst (λ n. 100 * over_before (n + 1) calls < share * length calls) (sym same)
        (subst (λ n. 100 * over_before (second + 1) calls < n) wanted_now (subst (λ n. 100 * n < wanted) next_is_now more))
    at fewer (inr apart) less = below.none fewer (under less apart)
      where
        under : fewer < second + 1 → (fewer ≡ second → ⊥) → fewer < second
        under less apart = elim (cases_lt fewer second) [ inl few ↦ few | inr least ↦ absurd (apart (omega (arith, less, least))) ]

pub share_here : (share : ℕ) (h : Histogram) (calls : List OneCall) (second within next wanted : ℕ) → CountsSeconds h calls →
    second < 86401 → Below share calls second within → next ≡ within + slice_index h.counts second → wanted ≡ share * h.calls →
    wanted ≤ 100 * next → IsShare share calls second
share_here share h calls second within next wanted t few below next_is wanted_is enough = record {
  enough = subst (λ n. n ≤ 100 * over_before (second + 1) calls) (wanted_is ∙ ap (λ n. share * n) t.count)
      (subst (λ n. wanted ≤ 100 * n) (one_more_below share h calls second within next t few below next_is) enough);
  least = below.none;
}

pub share_last : (share : ℕ) (calls : List OneCall) (second within : ℕ) → share ≤ 100 → second ≡ 86400 → Below share calls second within →
    IsShare share calls second
share_last share calls second within most last below = record {
  enough = subst (λ n. share * length calls ≤ 100 * n) (sym (all_before (second + 1) calls bounded)) (times most);
  least = below.none;
}
  where
    bounded : (call : OneCall) → counted_seconds call < second + 1
    bounded call = omega (arith, last)

    times : share ≤ 100 → share * length calls ≤ 100 * length calls
    times most = mul-le-mul_right (length calls) most

-- ---- the row

pub row_told : (calls : List OneCall) (median most greatest : ℕ) (before after : Option (List ℕ)) → IsShare 50 calls median →
    IsShare 95 calls most → IsShare 100 calls greatest →
    Appends before after (seconds_row (record { median = median; most = most; greatest = greatest })) → TellsSeconds calls before after
row_told calls median most greatest before after one two three written = record {
  shares = record { median = median; most = most; greatest = greatest };
  are = record { median = one; most = two; greatest = three };
  written = written;
}
