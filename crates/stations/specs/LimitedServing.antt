-- An answerer with limits over a list of what happens to it: inputs, with its pages taken in between.
use Rattle.std.specs.Prelude.{◌≡◌, Bool, List, [], ◌∷◌, ◌++◌}
use Rattle.raster.specs.Pages.{PagePixels}
use Rattle.stations.specs.AnswererStep.{Answerer}
use Rattle.stations.specs.Inputs.{AnswererInput, is_busy}
use Rattle.stations.specs.LimitedRuns.{heard_as}
use Rattle.stations.specs.Limiting.{IsWithin, freed, limited_step, told_by}
use Rattle.stations.specs.Taken.{Served, given, taken, served, taken_pages}
use Rattle.stations.specs.declared.limiting.Limits.{Limits}

-- the answerer after all that happens, from whether the program had said that it is busy
abbrev pub limited_served : Limits → Bool → List Served → Answerer → Answerer
limited_served limits told [] s = s
limited_served limits told (given input ∷ more) s = limited_served limits (told_by told input) more (limited_step limits s input).next
limited_served limits told (taken ∷ more) s = limited_served limits told more (freed s.ending told s)

-- the pages that were taken, in order
abbrev pub limited_taken : Limits → Bool → List Served → Answerer → List PagePixels
limited_taken limits told [] s = []
limited_taken limits told (given input ∷ more) s = limited_taken limits (told_by told input) more (limited_step limits s input).next
limited_taken limits told (taken ∷ more) s = s.pages ++ limited_taken limits told more (freed s.ending told s)

-- some inputs, then what else happens
abbrev pub given_first : List AnswererInput → List Served → List Served
given_first [] more = more
given_first (input ∷ inputs) more = given input ∷ given_first inputs more

-- what happens to an answerer without limits instead: it hears what the limits let through, and after its pages are taken it is again as
-- busy as the program said last
abbrev pub let_through : Limits → Bool → List Served → Answerer → List Served
let_through limits told [] s = []
let_through limits told (given input ∷ more) s =
    given_first (heard_as limits s input) (let_through limits (told_by told input) more (limited_step limits s input).next)
let_through limits told (taken ∷ more) s = taken ∷ given (is_busy told) ∷ let_through limits told more (freed s.ending told s)

-- whatever happens to an answerer with limits, it is where one without them is after what the limits let through, with the same pages taken;
-- and at most one page is above a limit
pub record LimitedServed (limits : Limits) (told : Bool) (happens : List Served) (s : Answerer) : Type 0 where
  pub plain : limited_served limits told happens s ≡ served (let_through limits told happens s) s
  pub pages : limited_taken limits told happens s ≡ taken_pages (let_through limits told happens s) s
  pub within : IsWithin limits s.pages → IsWithin limits (limited_served limits told happens s).pages

-- law: whatever happens to an answerer with limits, inputs with its pages taken in between, it is where one without limits is after what
-- the limits let through, with the same pages taken; and at most one page is above a limit
abbrev pub LimitedServes : Type 0
LimitedServes = (limits : Limits) (told : Bool) (happens : List Served) (s : Answerer) → LimitedServed limits told happens s
