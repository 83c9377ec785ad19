-- Pages that are taken out of an answerer while it runs.
use Rattle.std.specs.Prelude.{◌≡◌, ◌++◌, List, [], ◌∷◌}
use Rattle.raster.specs.Pages.{PagePixels}
use Rattle.stations.specs.AnswererStep.{Answerer, AnswererAnswer, answerer_step}
use Rattle.stations.specs.Inputs.{AnswererInput}
use Rattle.stations.specs.Runs.{answerer_after, answerer_turns}
use Rattle.stations.specs.declared.turn.Turn.{Turn}

-- an answerer with other pages before those that it has stored
abbrev pub with_front : List PagePixels → Answerer → Answerer
with_front front s = record s { pages = front ++ s.pages }

-- what a step answers, with other pages before those that are stored
abbrev pub answered_with : List PagePixels → AnswererAnswer → AnswererAnswer
answered_with front answer = record { next = with_front front answer.next; turn = answer.turn }

-- law: no step depends on the pages that are stored
abbrev pub FrontStays : Type 0
FrontStays =
    (front : List PagePixels) (s : Answerer) (input : AnswererInput) →
    answerer_step (with_front front s) input ≡ answered_with front (answerer_step s input)

-- what happens to an answerer: an input, or its pages are taken
pub data Served : Type 0 where
  given : AnswererInput → Served
  taken : Served

-- the inputs among what happens
abbrev pub given_inputs : List Served → List AnswererInput
given_inputs [] = []
given_inputs (given input ∷ more) = input ∷ given_inputs more
given_inputs (taken ∷ more) = given_inputs more

-- the answerer after all that happens
abbrev pub served : List Served → Answerer → Answerer
served [] s = s
served (given input ∷ more) s = served more (answerer_step s input).next
served (taken ∷ more) s = served more (record s { pages = [] })

-- the pages that were taken, in order
abbrev pub taken_pages : List Served → Answerer → List PagePixels
taken_pages [] s = []
taken_pages (given input ∷ more) s = taken_pages more (answerer_step s input).next
taken_pages (taken ∷ more) s = s.pages ++ taken_pages more (record s { pages = [] })

-- the turns with which it answered the inputs
abbrev pub served_turns : List Served → Answerer → List Turn
served_turns [] s = []
served_turns (given input ∷ more) s = (answerer_step s input).turn ∷ served_turns more (answerer_step s input).next
served_turns (taken ∷ more) s = served_turns more (record s { pages = [] })

-- law: whatever is heard, and wherever pages are taken in between, the pages taken and then those still there are what the same inputs
-- store when none are taken, the rest of the station is the same, and so are the turns
abbrev pub TakenAndThere : Type 0
TakenAndThere =
    (happens : List Served) (s : Answerer) →
    (answerer_after (given_inputs happens) s ≡ with_front (taken_pages happens s) (served happens s)) ×
    (answerer_turns (given_inputs happens) s ≡ served_turns happens s)
