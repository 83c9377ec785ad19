-- An answerer whose pages are stored before they are confirmed.
use Rattle.std.specs.Prelude.{◌≡◌, ◌++◌, [], ◌∷◌, Bool, true, false, List}
use Rattle.conversations.specs.Conversations.{Behaviour, ConversationFields, TakesLine, behaviour, hung_up_so, refused_so, with_pages_taken}
use Rattle.conversations.specs.declared.line.TimedLine.{TimedLine}
use Rattle.raster.specs.Pages.{PagePixels}
use Rattle.signals.specs.declared.signal.Side.TheVariants.{Answerer}
use Rattle.stations.specs.Limiting.{LimitedFields}
use Rattle.terminals.specs.Saying.{limited_lends}
use Rattle.terminals.specs.Stopping.{LimitedShows, LimitedStepsUnlessCut, limited_cut_off, limited_stop_says}

-- what a store says of a page: the store before, the page, and the store after
abbrev pub StoreStep : Type 0 → Type 1
StoreStep P = P → PagePixels → P → Type 0

-- pages are stored in order, each in what the one before it left, by what the store says of one page
abbrev pub StoresEach : {P : Type 0} → StoreStep P → P → List PagePixels → P → Type 0
StoresEach stores old [] new = new ≡ old
StoresEach {P} stores old (page ∷ pages) new = (mid : P) × stores old page mid × StoresEach stores mid pages new

-- the pages before the first one that is refused are stored, in order, and that one is refused
abbrev pub StoresSome : {P : Type 0} → StoreStep P → StoreStep P → P → List PagePixels → P → Type 0
StoresSome {P} stores refuses old pages new =
    (front : List PagePixels) × (refused : PagePixels) × (rest : List PagePixels) × (mid : P) × (pages ≡ front ++ refused ∷ rest) ×
    StoresEach stores old front mid × refuses mid refused new

-- an answerer with limits, as a conversation knows it
abbrev pub limited_behaviour : Behaviour LimitedFields
limited_behaviour =
    behaviour Answerer (λ old input new turn. LimitedStepsUnlessCut old.cut old input new turn) limited_lends LimitedShows limited_cut_off
    limited_stop_says

-- the pages that the answerer of a conversation has stored
abbrev pub pages_of : ConversationFields LimitedFields → List PagePixels
pages_of c = c.terminal.speaking.station.station.pages

-- the pages of an answerer were all stored, and it says its turn; or one was refused, and it hangs up with DCN in place of the turn
abbrev pub StoresAll :
    {P : Type 0} → StoreStep P → StoreStep P → ConversationFields LimitedFields → ConversationFields LimitedFields → P → P → Bool → Type 0
StoresAll stores refuses old new before after true = StoresEach stores before (pages_of old) after × (new ≡ with_pages_taken old)
StoresAll stores refuses old new before after false =
    StoresSome stores refuses before (pages_of old) after × (new ≡ hung_up_so limited_cut_off (with_pages_taken old))

-- A line is taken, and the call is stopped if it is refused. Then, before anything is said, each page that was accepted is
-- stored, and all were; or the first one that is refused makes the station hang up.
abbrev pub AnswersLine :
    {P : Type 0} → StoreStep P → StoreStep P → ConversationFields LimitedFields → TimedLine → ConversationFields LimitedFields → P → P →
    Bool → Type 0
AnswersLine stores refuses old line new before after all =
    (mid : ConversationFields LimitedFields) × TakesLine LimitedFields limited_behaviour old line mid ×
    StoresAll stores refuses (refused_so limited_behaviour mid) new before after all

-- The law: after a line no page is left in the answerer; each is in the store or was refused.
abbrev pub NoneAreLeft : Type 0
NoneAreLeft =
    (mid : ConversationFields LimitedFields) → (pages_of (with_pages_taken mid) ≡ []) ×
    (pages_of (hung_up_so limited_cut_off (with_pages_taken mid)) ≡ [])
