-- For how long many calls had the line: the seconds within which a share of them was over.
use Rattle.std.specs.Prelude.{◌≡◌, ◌≤◌, ◌<◌, ◌+◌, ◌*◌, ◌++◌, ◌∷◌, [], ℕ, min, nat_eq, nat_lt, List, Option, codes, length, slice_index}
use Rattle.std.specs.Fmt.{decimal}
use Rattle.std.specs.Io.KnownBytes.{Appends}
use Rattle.call_tallies.specs.Totals.{one_if, total}
use Rattle.call_tallies.specs.declared.many_calls.OneCall.{OneCall}

-- the seconds of a call as they are counted: one of a day or more counts as a day
abbrev pub counted_seconds : OneCall → ℕ
counted_seconds call = min call.seconds 86400

-- how many calls had the line for fewer whole seconds
abbrev pub over_before : ℕ → List OneCall → ℕ
over_before seconds calls = total (λ call. one_if (nat_lt (counted_seconds call) seconds)) calls

-- how many calls had the line for this number of whole seconds
abbrev pub over_at : ℕ → List OneCall → ℕ
over_at seconds calls = total (λ call. one_if (nat_eq (counted_seconds call) seconds)) calls

-- The least number of whole seconds within which a share of the calls, of a hundred, was over: with 50 the median, with 100 the greatest.
pub record IsShare (share : ℕ) (calls : List OneCall) (seconds : ℕ) : Type 0 where
  pub enough : share * length calls ≤ 100 * over_before (seconds + 1) calls
  pub least : (fewer : ℕ) → fewer < seconds → 100 * over_before (fewer + 1) calls < share * length calls

-- how many calls there were, and how many of them had the line for each number of seconds
pub record Histogram : Type 0 where
  pub calls : ℕ
  pub counts : List ℕ

-- the counts are those of these calls: how many had the line for each number of seconds
pub record CountsSeconds (h : Histogram) (calls : List OneCall) : Type 0 where
  pub count : h.calls ≡ length calls
  pub at : (seconds : ℕ) → seconds < 86401 → slice_index h.counts seconds ≡ over_at seconds calls

-- three numbers of seconds
pub record Shares : Type 0 where
  pub median : ℕ
  pub most : ℕ
  pub greatest : ℕ

-- the median of the calls' seconds, the seconds within which 95 of a hundred were over, and the greatest
pub record AreShares (shares : Shares) (calls : List OneCall) : Type 0 where
  pub median : IsShare 50 calls shares.median
  pub most : IsShare 95 calls shares.most
  pub greatest : IsShare 100 calls shares.greatest

-- the row of the median, of 95 of a hundred, and of the greatest, in seconds
abbrev pub seconds_row : Shares → List ℕ
seconds_row shares = codes "seconds median " ++ (decimal shares.median ++ (codes " 95% " ++ (decimal shares.most
    ++ (codes " greatest " ++ (decimal shares.greatest ++ 10 ∷ [])))))

-- the row of seconds of calls was written
pub record TellsSeconds (calls : List OneCall) (before after : Option (List ℕ)) : Type 0 where
  pub shares : Shares
  pub are : AreShares shares calls
  pub written : Appends before after (seconds_row shares)
