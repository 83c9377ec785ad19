-- Several calls that send one document: each is begun with the pages that the one before has not confirmed.
use Rattle.std.specs.Prelude.{◌≡◌, ℕ, suc, ◌+◌, ◌≤◌, List, [], ◌∷◌, ◌++◌, length, drop, replicate, flat_map, sum, sum_by, Option, Some}
use Rattle.raster.specs.Pages.{PagePixels}
use Rattle.signals.specs.declared.params.Caps.{Caps}
use Rattle.signals.specs.declared.params.Wish.{Wish}
use Rattle.stations.specs.CallerStep.{Caller, confirmed}
use Rattle.stations.specs.Laws.{Each}
use Rattle.stations.specs.Layers.{Document, IsFullPage}
use Rattle.stations.specs.declared.turn.End.{End}
use Rattle.stations.specs.declared.turn.End.TheVariants.{Normal}
use Rattle.line_sim.specs.declared.event.Event.{Event}
use Rattle.line_sim.specs.Line.{World, Outcome, happens, new_world, run}

-- a world that a call of a document has come to, whatever was wished, whoever answered, and whatever happened on the line
pub record IsCall (document : Document) (w : World) : Type 0 where
  pub wish : Wish
  pub caps : Caps
  pub steps : List (Event × Outcome)
  pub comes : w ≡ run steps (new_world document wish caps)

-- The law: a new world is one that a call has come to, and so is what an event leaves of one.
pub record CallsGoOn : Type 0 where
  pub begins : (document : Document) (wish : Wish) (caps : Caps) → IsCall document (new_world document wish caps)
  pub goes_on :
      (document : Document) (w : World) (event : Event) (outcome : Outcome) → IsCall document w → IsCall document (happens w event outcome)

-- the pages of the document that a caller hasn't confirmed, which the next call sends
abbrev pub unconfirmed : Caller → Document
unconfirmed c = drop (confirmed c) c.document

-- Several calls, each over any line and with any answerer, and the worlds that they have come to. The first is of the document, each
-- further one of the pages that the call before it hasn't confirmed.
abbrev pub AreRedialled : Document → List World → Type 0
AreRedialled document [] = Unit {0}
AreRedialled document (w ∷ calls) = IsCall document w × AreRedialled (unconfirmed w.caller) calls

-- the pages that were stored in calls, joined in order
abbrev pub stored_in : List World → List PagePixels
stored_in calls = flat_map (λ w. w.answerer.pages) calls

-- how many pages were confirmed in calls
abbrev pub confirmed_in : List World → ℕ
confirmed_in calls = sum_by (λ w. confirmed w.caller) calls

-- 1 for a call that has failed: its caller hasn't ended normally
abbrev pub failed : Option End → ℕ
failed (Some Normal) = 0
failed _ = 1

-- how many calls have failed that another one comes after
abbrev pub failures : List World → ℕ
failures [] = 0
failures (w ∷ []) = 0
failures (w ∷ calls) = failed w.caller.ending + failures calls

-- the first pages of a document, each of which comes once, and then as many times again as a list of numbers says
abbrev pub coming : List ℕ → Document → List PagePixels
coming [] pages = []
coming (number ∷ again) [] = []
coming (number ∷ again) (page ∷ pages) = replicate (suc number) page ++ coming again pages

-- What the sender, who calls again after a failure, and the owners of the stores can rely on. The pages stored in all calls, joined in
-- order, are the first of the document; at most one of them comes again for each call that failed and that another one follows. Each
-- confirmed page is stored, and at most one page more; after a normal end of a station none is missing, after one of a caller all are
-- confirmed too.
pub record AreDelivered (document : Document) (calls : List World) : Type 0 where
  -- how many times each page that is stored comes again
  pub again : List ℕ
  -- the pages stored in all calls are the first ones of the document, in order, some of which come again
  pub stored : stored_in calls ≡ coming again document
  pub within : length again ≤ length document
  -- at most one page comes again for each call that failed
  pub few : sum again ≤ failures calls
  -- each confirmed page is stored, and at most one page more
  pub confirmed_is_stored : confirmed_in calls ≤ length again
  pub stored_once : length again ≤ suc (confirmed_in calls)
  -- after a normal end of a station none is missing, after one of a caller all are confirmed too
  pub caller_normal :
      Each (λ w. w.caller.ending ≡ Some Normal → (length again ≡ length document) × (confirmed_in calls ≡ length document)) calls
  pub answerer_normal : Each (λ w. w.answerer.ending ≡ Some Normal → length again ≡ length document) calls

-- The law: `AreDelivered` holds of all calls of a document, over any lines and with any answerers.
abbrev pub CallsAreRedialled : Type 0
CallsAreRedialled =
    (document : Document) (calls : List World) → Each IsFullPage document → AreRedialled document calls → AreDelivered document calls
