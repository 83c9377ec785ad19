-- A polite run: whatever is under way is delivered, in order; where a group is through, the answerer's T2 begins the next one.
use Rattle.std.specs.Prelude.{◌≡◌, ℕ, zero, suc, ◌+◌, ◌*◌, ◌≤◌, ◌<◌, min, Bool, true, false, cond, ◌&&◌, not, is_some, nat_lt, List}
use Rattle.std.specs.Prelude.{[], ◌∷◌, ◌++◌, length, Some}
use Rattle.raster.specs.Pages.{PagePixels}
use Rattle.signals.specs.declared.params.Caps.{Caps}
use Rattle.signals.specs.declared.params.Params.{Params}
use Rattle.signals.specs.declared.params.Wish.{Wish}
use Rattle.stations.specs.Layers.{Document, IsFullPage, agreed_for, code_within_limit}
use Rattle.stations.specs.Laws.{Each}
use Rattle.stations.specs.Blocks.{Block, groups_after, call_blocks}
use Rattle.stations.specs.CallerStep.{confirmed}
use Rattle.stations.specs.Inputs.{PlainItem}
use Rattle.stations.specs.declared.turn.CallerState.{CallerState}
use Rattle.stations.specs.declared.turn.CallerState.TheVariants.{WaitDis}
use Rattle.stations.specs.declared.turn.AnswererState.{AnswererState}
use Rattle.stations.specs.declared.turn.AnswererState.TheVariants.{PhaseB}
use Rattle.stations.specs.declared.turn.End.TheVariants.{Normal}
use Rattle.line_sim.specs.Line.{World, Outcome, run, new_world}
use Rattle.line_sim.specs.declared.event.Event.{Event}
use Rattle.line_sim.specs.declared.event.Event.TheVariants.{DeliverToAnswerer, DeliverToCaller, AnswererT2}
use Rattle.line_sim.specs.Line.Outcome.{Done}

-- the caller waits for a DIS
abbrev pub waits_for_dis : CallerState → Bool
waits_for_dis WaitDis = true
waits_for_dis _ = false

-- the answerer waits for a DCS
abbrev pub waits_for_dcs : AnswererState → Bool
waits_for_dcs PhaseB = true
waits_for_dcs _ = false

-- neither has ended, the caller waits for another DIS with a block confirmed, and the answerer is in phase B
abbrev pub is_between_groups : World → Bool
is_between_groups w =
    not (is_some w.caller.ending) && not (is_some w.answerer.ending) && waits_for_dis w.caller.state && nat_lt 0 w.caller.place &&
    waits_for_dcs w.answerer.state

-- The steps of a polite run's next delivery, if there is one: the first item under way comes; between two groups the answerer's T2 sends a
-- DIS, and that comes.
abbrev pub next_steps : World → List PlainItem → List PlainItem → List (Event × Outcome)
next_steps w [] [] = cond (is_between_groups w) ((AnswererT2, Done) ∷ (DeliverToCaller, Done) ∷ []) []
next_steps w [] (item ∷ items) = (DeliverToCaller, Done) ∷ []
next_steps w (item ∷ items) others = (DeliverToAnswerer, Done) ∷ []

-- steps, if there are any, and those that the rest of a run makes after them
abbrev pub and_on : List (Event × Outcome) → (World → List (Event × Outcome)) → World → List (Event × Outcome)
and_on [] rest w = []
and_on (step ∷ steps) rest w = step ∷ steps ++ rest (run (step ∷ steps) w)

-- the events of a polite run of at most `most` deliveries: delivery after delivery, while there is one
abbrev pub polite_steps : ℕ → World → List (Event × Outcome)
polite_steps zero w = []
polite_steps (suc most) w = and_on (next_steps w w.to_answerer w.to_caller) (polite_steps most) w

-- the world after a polite run: it delivers what is first under way, to whichever station that is, and between two groups the answerer's T2
-- comes before the delivery of its DIS
abbrev pub polite : ℕ → World → World
polite most w = run (polite_steps most w) w

-- an event is a delivery
abbrev pub is_delivery : Event → Bool
is_delivery DeliverToAnswerer = true
is_delivery DeliverToCaller = true
is_delivery _ = false

-- how many of some steps are deliveries
abbrev pub count_deliveries : List (Event × Outcome) → ℕ
count_deliveries [] = 0
count_deliveries (step ∷ steps) = cond (is_delivery step.0) (suc (count_deliveries steps)) (count_deliveries steps)

-- how many deliveries a polite run makes; its T2 isn't counted
abbrev pub deliveries : ℕ → World → ℕ
deliveries most w = count_deliveries (polite_steps most w)

-- the event is a delivery or the answerer's T2
abbrev pub IsPoliteEvent : Event → Type 0
IsPoliteEvent DeliverToAnswerer = Unit {0}
IsPoliteEvent DeliverToCaller = Unit {0}
IsPoliteEvent AnswererT2 = Unit {0}
IsPoliteEvent _ = ⊥

-- The law: a polite run makes no events but deliveries and the answerer's T2, and all of each is done.
abbrev pub PoliteEvents : Type 0
PoliteEvents = (most : ℕ) (w : World) → Each (λ (step : Event × Outcome). IsPoliteEvent step.0 × (step.1 ≡ Done)) (polite_steps most w)

-- `groups` are the parameters that both stations agree on for the pages of each group, and the code of each page is within the limit of a
-- call
abbrev pub AreAgreed : Caps → Wish → List Params → List PagePixels → Type 0
AreAgreed caps wish groups [] = length groups ≡ 1
AreAgreed caps wish [] (page ∷ pages) = ⊥
AreAgreed caps wish (params ∷ groups) (page ∷ pages) =
    (agreed_for caps wish (Some page) ≡ Some params) × (code_within_limit params page ≡ true) ×
    AreAgreed caps wish (groups_after page pages (params ∷ groups)) pages

-- both stations agree on a page, and the page's code is within the limit of a call
abbrev pub IsAgreedOn : Caps → Wish → PagePixels → Type 0
IsAgreedOn caps wish page = (params : Params) × (agreed_for caps wish (Some page) ≡ Some params) × (code_within_limit params page ≡ true)

-- The law: if both stations agree on each page of a document and its code is within the limit, the document's groups have such parameters.
abbrev pub GroupsAreAgreed : Type 0
GroupsAreAgreed =
    (caps : Caps) (wish : Wish) (document : Document) → 0 < length document → Each (IsAgreedOn caps wish) document →
    (groups : List Params) × AreAgreed caps wish groups document

-- the deliveries of blocks: a block takes its frames, three RCP, PPS and MCF
abbrev pub blocks_length : List Block → ℕ
blocks_length [] = 0
blocks_length (block ∷ blocks) = (length block.frames + 5) + blocks_length blocks

-- how many deliveries an undisturbed call takes: 4 for each group (DIS, DCS, a training check, CFR), those of its blocks, and 1 for the DCN
abbrev pub call_length : List Params → Document → ℕ
call_length groups document = (4 * length groups + 1) + blocks_length (call_blocks groups 0 document)

-- both stations have ended normally, and all pages are stored and confirmed
pub record IsThrough (document : Document) (w : World) : Type 0 where
  pub caller_end : w.caller.ending ≡ Some Normal
  pub answerer_end : w.answerer.ending ≡ Some Normal
  pub confirmed_all : confirmed w.caller ≡ length document
  pub stored_all : w.answerer.pages ≡ document

-- A polite run of at most `most` deliveries makes the lesser of `most` and the call's length; after all of the call's the call is through.
pub record IsPolite (groups : List Params) (document : Document) (w : World) (most : ℕ) : Type 0 where
  pub number : deliveries most w ≡ min (call_length groups document) most
  pub through : call_length groups document ≤ most → IsThrough document (polite most w)

-- The law of undisturbed calls: if both stations agree on each page and its code is within the limit, `IsPolite` holds of every polite run
-- from the call's start.
abbrev pub PoliteCalls : Type 0
PoliteCalls =
    (document : Document) (wish : Wish) (caps : Caps) (groups : List Params) (most : ℕ) → 0 < length document → Each IsFullPage document →
    AreAgreed caps wish groups document →
    IsPolite groups document (new_world document wish caps) most
