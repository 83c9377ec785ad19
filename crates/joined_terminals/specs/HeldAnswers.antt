-- What the contract of `answer` says of an answerer whose pages are held for others is a list of steps by which no page is confirmed that is
-- still in it.
use Rattle.std.specs.Prelude.{ℕ, ◌≡◌, ◌≢◌, ◌⊎◌, ◌<◌, ◌++◌, ◌∷◌, [], Bool, true, false, List, Option, map}
use Rattle.conversations.specs.Answering.{StoreStep, limited_behaviour}
use Rattle.conversations.specs.Conversations.{ConversationFields, TakesLine, gives, refused_so}
use Rattle.conversations.specs.Conversing.{Talker, talker}
use Rattle.conversations.specs.Holding.{HoldsPages, IsBusyIfFull}
use Rattle.conversations.specs.Stores.{IsHolder, IsStock, Stock}
use Rattle.conversations.specs.Talking.{Answers, KeepsLine, keeping}
use Rattle.conversations.specs.declared.line.Fate.TheVariants.{Kept, Lost}
use Rattle.conversations.specs.declared.line.Said.{Said}
use Rattle.conversations.specs.declared.line.Said.TheVariants.{Told}
use Rattle.conversations.specs.declared.line.TimedLine.{TimedLine}
use Rattle.raster.specs.Pages.{PagePixels}
use Rattle.signals.specs.declared.params.Caps.{Caps}
use Rattle.signals.specs.declared.params.Wish.{Wish}
use Rattle.signals.specs.declared.signal.Side.TheVariants.{Answerer as AnswererSide}
use Rattle.stations.specs.Inputs.{PlainItem}
use Rattle.stations.specs.Layers.{Document}
use Rattle.stations.specs.Limiting.{IsWithin, LimitedFields, is_full}
use Rattle.stations.specs.declared.limiting.Limits.{Limits}
use Rattle.stations.specs.declared.turn.Turn.TheVariants.{Mcf}
use Rattle.terminals.specs.Speaking.{Speaking}
use Rattle.terminals.specs.declared.sending.SentBurst.{SentBurst}
use Rattle.joined_terminals.specs.Answered.{AnswererHasNoMemory, GivesPart, GivesTurn, answerer_lends, bursts_in, hangs_by, hung_up_if, leaves, part_of, turn_of}
use Rattle.joined_terminals.specs.Driven.{Driven, joined}
use Rattle.joined_terminals.specs.Held.{DrivesHeld}
use Rattle.joined_terminals.specs.Joining.{Begins}
use Rattle.joined_terminals.specs.Octets.{IsPiece}
use Rattle.joined_terminals.specs.Steps.{Comes, Step, appends}
use Rattle.joined_terminals.specs.Steps.Step.{answerer_gives, answerer_line, answerer_refuses, answerer_watches, page_lost, hung_up}
use Rattle.joined_terminals.specs.Steps.Step.{pages_stored}

-- An answerer that takes one page at a time: it has one at most, is busy while it has one, and has no MCF to say then.
pub record HoldsOne (now : Speaking LimitedFields) : Type 0 where
  pub limit : now.station.limits.pages ≡ 1
  -- without a page no limit is reached
  pub room : is_full now.station.limits [] ≡ false
  pub within : IsWithin now.station.limits now.station.station.pages
  pub busy : IsBusyIfFull now.station.limits now.station.station
  pub silent : (now.station.station.pages ≡ []) ⊎ (now.turn ≢ Mcf)

-- The answerer took a line, which comes of what is on its way, and the call is stopped if it is refused. Then its page is
-- counted once it is kept; or the call is stopped since it is lost; or, after any other line, it is handed over if none is held.
pub record HolderIsReady (line : TimedLine) (kept : Bool) (old : Driven) (ready : ConversationFields LimitedFields)
    (stored : List PagePixels) : Type 0 where
  pub heard : ConversationFields LimitedFields
  pub takes : TakesLine LimitedFields limited_behaviour old.answerer line heard
  pub others : List PlainItem
  pub comes : Comes IsPiece old.answerer.terminal.framing old.to_answerer (gives limited_behaviour old.answerer takes.shown line) others
  -- the name of the file of the page that is held, if one is
  pub held : Option (List ℕ)
  pub mid : ConversationFields LimitedFields
  pub holds : HoldsPages leaves leaves appends held line.said (refused_so limited_behaviour heard) mid old.stored stored kept
  -- its program may hang up of its own after that, as where a call lasts too long
  pub hangs : Bool
  pub is : ready ≡ hung_up_if hangs mid

-- the answerer answers a line as `answer` says
pub record HolderAnswers (line : TimedLine) (kept late : Bool) (old : Driven) (new : ConversationFields LimitedFields)
    (stored : List PagePixels) : Type 0 where
  pub ready : ConversationFields LimitedFields
  pub is_ready : HolderIsReady line kept old ready stored
  pub turn : GivesTurn LimitedFields AnswererSide answerer_lends late ready new

-- the answerer's answer fails once the line was taken, as `answer` says
pub record HolderBreaksOff (line : TimedLine) (kept : Bool) (old : Driven) (new : ConversationFields LimitedFields)
    (stored : List PagePixels) : Type 0 where
  pub ready : ConversationFields LimitedFields
  pub is_ready : HolderIsReady line kept old ready stored
  pub part : GivesPart LimitedFields AnswererSide answerer_lends ready new

-- the step by which a page isn't handed over; none if it is, or there is none to be handed over
abbrev pub hands_by : Bool → List Step
hands_by true = []
hands_by false = hung_up ∷ []

-- the step of what a line says of the page that is held, or of a page that isn't handed over
abbrev pub holds_by : Said → Bool → List Step
holds_by (Told Kept file) kept = pages_stored ∷ []
holds_by (Told Lost file) kept = page_lost ∷ []
holds_by said kept = hands_by kept

-- the steps of the answer of an answerer whose pages are held
abbrev pub holder_steps : TimedLine → Bool → Bool → List (SentBurst × Bool) → List Step
holder_steps line kept hangs given =
    answerer_line line ∷ answerer_watches ∷
    (holds_by line.said kept ++ (hangs_by hangs ++ map (λ (one : SentBurst × Bool). answerer_gives one.0 one.1) given))

-- the caller stays as it is, none of the pages is refused, and the answerer still takes one page at a time
pub record HolderStays (old new : Driven) : Type 0 where
  pub caller : new.caller ≡ old.caller
  pub unkept : new.unkept ≡ []
  pub holds_one : HoldsOne new.answerer.terminal.speaking

-- steps by which no page is confirmed that is in the answerer lead to this conversation of the answerer and this store
abbrev pub LeadsHolder : List Step → Driven → ConversationFields LimitedFields → List PagePixels → Type 0
LeadsHolder steps old new stored =
    (last : Driven) × DrivesHeld steps old last × (last.answerer ≡ new) × (last.stored ≡ stored) × HolderStays old last

-- The law: each such answer, of an answerer that takes one page at a time, is these steps, and so is one that fails on the way; and a line
-- for which there is no memory is one step. It still takes one page at a time then. A new answerer whose limit is one page does.
pub record HeldAnswersAreSteps : Type 0 where
  pub begins :
      (document : Document) (wish : Wish) (caps : Caps) (limits : Limits) (first : Driven) → Begins document wish caps limits (joined first) →
      limits.pages ≡ 1 → 0 < limits.octets → (first.unkept ≡ []) × HoldsOne first.answerer.terminal.speaking
  pub answerer :
      (line : TimedLine) (kept late : Bool) (old : Driven) (new : ConversationFields LimitedFields) (stored : List PagePixels) →
      old.unkept ≡ [] → HoldsOne old.answerer.terminal.speaking → (answers : HolderAnswers line kept late old new stored) →
      LeadsHolder (holder_steps line kept answers.is_ready.hangs (turn_of answers.turn)) old new stored
  pub answerer_fails :
      (line : TimedLine) (kept : Bool) (old : Driven) (new : ConversationFields LimitedFields) (stored : List PagePixels) →
      old.unkept ≡ [] → HoldsOne old.answerer.terminal.speaking → (breaks : HolderBreaksOff line kept old new stored)
      (given : List (SentBurst × Bool)) → bursts_in given ≡ breaks.part.bursts →
      LeadsHolder (holder_steps line kept breaks.is_ready.hangs (part_of breaks.part given)) old new stored
  pub answerer_refuses :
      (line : TimedLine) (old : Driven) (new : ConversationFields LimitedFields) → old.unkept ≡ [] →
      HoldsOne old.answerer.terminal.speaking → AnswererHasNoMemory line old new → LeadsHolder (answerer_refuses line ∷ []) old new old.stored

-- an answerer with limits talks, and its pages are handed over to a holder, which takes some lines and says something
abbrev pub holding :
    {P : Type 0} → StoreStep P → StoreStep P → StoreStep P → (P → Option (List ℕ)) → (P → Said → Bool) → (P → List ℕ) →
    Talker LimitedFields P
holding hands refuses counts held takes tells =
    talker limited_behaviour
    (keeping (λ old c said new after kept. HoldsPages hands refuses counts (held old) said c after old new kept) takes tells) answerer_lends

-- The law: what `answer` promises of an answerer whose pages go to such a holder, where it is `Ok`, and the line comes of what is on its way.
abbrev pub HoldingAnswers : (P : Type 0) → StoreStep P → StoreStep P → StoreStep P → (P → Option (List ℕ)) → Type 0
HoldingAnswers P hands refuses counts held =
    (stock : P → Stock) → IsHolder P hands refuses counts stock →
    (takes : P → Said → Bool) (tells : P → List ℕ) (text : List ℕ) (old : Driven) (new : ConversationFields LimitedFields)
    (keeper kept_in : P) (before after : Option (List ℕ)) (kept over : Bool) (others : List PlainItem) →
    IsStock (stock keeper) old.stored →
    let t = holding hands refuses counts held takes tells in
    (answers : Answers LimitedFields P t.station t.keeping t.lends text old.answerer new keeper kept_in before after kept over) →
    Comes IsPiece old.answerer.terminal.framing old.to_answerer (gives limited_behaviour old.answerer answers.takes.shown answers.timed)
    others →
    (stored : List PagePixels) × IsStock (stock kept_in) stored × HolderAnswers answers.timed kept answers.late old new stored

-- The law: the same where it is `Err` once the line was taken.
abbrev pub HoldingBreaksOff : (P : Type 0) → StoreStep P → StoreStep P → StoreStep P → (P → Option (List ℕ)) → Type 0
HoldingBreaksOff P hands refuses counts held =
    (stock : P → Stock) → IsHolder P hands refuses counts stock →
    (takes : P → Said → Bool) (tells : P → List ℕ) (text : List ℕ) (old : Driven) (new : ConversationFields LimitedFields)
    (keeper kept_in : P) (before after : Option (List ℕ)) (others : List PlainItem) →
    IsStock (stock keeper) old.stored →
    let t = holding hands refuses counts held takes tells in
    (breaks : KeepsLine LimitedFields P t.station t.keeping t.lends text old.answerer new keeper kept_in before after) →
    Comes IsPiece old.answerer.terminal.framing old.to_answerer (gives limited_behaviour old.answerer breaks.takes.shown breaks.timed)
    others →
    (stored : List PagePixels) × IsStock (stock kept_in) stored × HolderBreaksOff breaks.timed breaks.kept old new stored
