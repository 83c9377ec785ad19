-- What the contract of `answer` says of a line is a list of such steps.
use Rattle.std.specs.Prelude.{◌≡◌, ◌⊎◌, ◌++◌, ◌∷◌, [], Bool, true, false, List, map}
use Rattle.conversations.specs.Answering.{StoreStep, StoresAll, limited_behaviour}
use Rattle.conversations.specs.Conversations.{ConversationFields, RefusesLine, TakesLine, gives, hung_up_so, refused_so}
use Rattle.conversations.specs.Led.{caller_behaviour}
use Rattle.conversations.specs.Talking.{GivesAll, GivesSome, Withholds}
use Rattle.conversations.specs.declared.line.TimedLine.{TimedLine}
use Rattle.raster.specs.Pages.{PagePixels}
use Rattle.signals.specs.declared.signal.Side.{Side}
use Rattle.signals.specs.declared.signal.Side.TheVariants.{Caller as CallerSide, Answerer as AnswererSide}
use Rattle.stations.specs.Inputs.{PlainItem}
use Rattle.stations.specs.Limiting.{LimitedFields}
use Rattle.stations.specs.Stopping.{StoppableCallerFields}
use Rattle.terminals.specs.Speaking.{BurstsOf}
use Rattle.terminals.specs.Stations.{AnswererLends, CallerLends}
use Rattle.terminals.specs.Stopping.{limited_cut_off}
use Rattle.terminals.specs.declared.sending.SentBurst.{SentBurst}
use Rattle.joined_terminals.specs.Driven.{Driven}
use Rattle.joined_terminals.specs.Kept.{DrivesKept}
use Rattle.joined_terminals.specs.Octets.{IsPiece}
use Rattle.joined_terminals.specs.Steps.{Comes, IsOneAtMost, Step, appends}
use Rattle.joined_terminals.specs.Steps.Step.{answerer_gives, answerer_line, answerer_refuses, answerer_watches, caller_gives, caller_line}
use Rattle.joined_terminals.specs.Steps.Step.{caller_refuses, caller_watches, page_refused, hung_up, pages_stored}

-- a page that is refused isn't stored
abbrev pub leaves : StoreStep (List PagePixels)
leaves old page new = new ≡ old

-- the bursts that a caller has for a turn
abbrev pub caller_lends : BurstsOf StoppableCallerFields
caller_lends v turn bursts = CallerLends v.station turn bursts

-- the bursts that an answerer has for a turn
abbrev pub answerer_lends : BurstsOf LimitedFields
answerer_lends v turn bursts = AnswererLends v.station turn bursts

-- The caller took a line, which comes of what is on its way, and the call is stopped if it is refused. It has nothing to keep.
pub record CallerIsReady (line : TimedLine) (old : Driven) (ready : ConversationFields StoppableCallerFields) : Type 0 where
  pub heard : ConversationFields StoppableCallerFields
  pub takes : TakesLine StoppableCallerFields caller_behaviour old.caller line heard
  pub others : List PlainItem
  pub comes : Comes IsOneAtMost old.caller.terminal.framing old.to_caller (gives caller_behaviour old.caller takes.shown line) others
  pub is : ready ≡ refused_so caller_behaviour heard

-- a conversation of an answerer that hangs up, if its program wants that
abbrev pub hung_up_if : Bool → ConversationFields LimitedFields → ConversationFields LimitedFields
hung_up_if true c = hung_up_so limited_cut_off c
hung_up_if false c = c

-- The answerer took a line, which comes of what is on its way; the call is stopped if it is refused; and its pages are stored, or one is
-- refused. Once all are stored its program may hang up for a reason of its own, as where a call lasts too long.
pub record AnswererIsReady (line : TimedLine) (kept : Bool) (old : Driven) (ready : ConversationFields LimitedFields)
    (stored : List PagePixels) : Type 0 where
  pub heard : ConversationFields LimitedFields
  pub takes : TakesLine LimitedFields limited_behaviour old.answerer line heard
  pub others : List PlainItem
  pub comes : Comes IsPiece old.answerer.terminal.framing old.to_answerer (gives limited_behaviour old.answerer takes.shown line) others
  pub mid : ConversationFields LimitedFields
  pub keeps : StoresAll appends leaves (refused_so limited_behaviour heard) mid old.stored stored kept
  pub hangs : Bool
  pub only : hangs ≡ true → kept ≡ true
  pub is : ready ≡ hung_up_if hangs mid

-- the bursts of an answer are given, and before them those that are withheld if it is late
pub record GivesTurn (S : Type 0) (side : Side) (lends : BurstsOf S) (late : Bool) (ready new : ConversationFields S) : Type 0 where
  pub left : ConversationFields S
  pub withholds : Withholds side lends ready late left
  pub bursts : List SentBurst
  pub gives : GivesAll side lends left bursts new

-- the answer fails on the way: some of its bursts are given, or all
pub record GivesPart (S : Type 0) (side : Side) (lends : BurstsOf S) (ready new : ConversationFields S) : Type 0 where
  pub late : Bool
  pub left : ConversationFields S
  pub withholds : Withholds side lends ready late left
  pub bursts : List SentBurst
  pub gives : GivesSome side lends left bursts new ⊎ GivesAll side lends left bursts new

-- the caller answers a line as `answer` says
pub record CallerAnswers (line : TimedLine) (late : Bool) (old : Driven) (new : ConversationFields StoppableCallerFields) : Type 0 where
  pub ready : ConversationFields StoppableCallerFields
  pub is_ready : CallerIsReady line old ready
  pub turn : GivesTurn StoppableCallerFields CallerSide caller_lends late ready new

-- the answerer answers a line as `answer` says
pub record AnswererAnswers (line : TimedLine) (kept late : Bool) (old : Driven) (new : ConversationFields LimitedFields)
    (stored : List PagePixels) : Type 0 where
  pub ready : ConversationFields LimitedFields
  pub is_ready : AnswererIsReady line kept old ready stored
  pub turn : GivesTurn LimitedFields AnswererSide answerer_lends late ready new

-- the caller's answer fails once the line was taken, as `answer` says
pub record CallerBreaksOff (line : TimedLine) (old : Driven) (new : ConversationFields StoppableCallerFields) : Type 0 where
  pub ready : ConversationFields StoppableCallerFields
  pub is_ready : CallerIsReady line old ready
  pub part : GivesPart StoppableCallerFields CallerSide caller_lends ready new

-- the answerer's answer fails once the line was taken, as `answer` says: what the line brought was kept before
pub record AnswererBreaksOff (line : TimedLine) (kept : Bool) (old : Driven) (new : ConversationFields LimitedFields)
    (stored : List PagePixels) : Type 0 where
  pub ready : ConversationFields LimitedFields
  pub is_ready : AnswererIsReady line kept old ready stored
  pub part : GivesPart LimitedFields AnswererSide answerer_lends ready new

-- memory is refused while the caller takes a line, which comes of what is on its way: `answer` does nothing else then
pub record CallerHasNoMemory (line : TimedLine) (old : Driven) (new : ConversationFields StoppableCallerFields) : Type 0 where
  pub refuses : RefusesLine StoppableCallerFields caller_behaviour old.caller line new
  pub others : List PlainItem
  pub comes : Comes IsOneAtMost old.caller.terminal.framing old.to_caller (gives caller_behaviour old.caller refuses.shown line) others

-- memory is refused while the answerer takes a line
pub record AnswererHasNoMemory (line : TimedLine) (old : Driven) (new : ConversationFields LimitedFields) : Type 0 where
  pub refuses : RefusesLine LimitedFields limited_behaviour old.answerer line new
  pub others : List PlainItem
  pub comes : Comes IsPiece old.answerer.terminal.framing old.to_answerer (gives limited_behaviour old.answerer refuses.shown line) others

-- what an answer of the caller leaves as it is: the other conversation, and the store
pub record AnswererStays (old new : Driven) : Type 0 where
  pub answerer : new.answerer ≡ old.answerer
  pub stored : new.stored ≡ old.stored
  pub unkept : new.unkept ≡ old.unkept

-- what an answer of the answerer leaves as it is: the other conversation; and if all pages were kept, none is refused
pub record CallerStays (kept : Bool) (old new : Driven) : Type 0 where
  pub caller : new.caller ≡ old.caller
  pub unkept : kept ≡ true → new.unkept ≡ []

-- bursts that all go onto the line, or none does
abbrev pub each_with : Bool → List SentBurst → List (SentBurst × Bool)
each_with sends bursts = map (λ burst. (burst, sends)) bursts

-- the bursts of a list that has with each whether it goes onto the line
abbrev pub bursts_in : List (SentBurst × Bool) → List SentBurst
bursts_in given = map (λ (one : SentBurst × Bool). one.0) given

-- the bursts that are withheld: none unless the answer is late
abbrev pub withheld :
    {S : Type 0} (side : Side) (lends : BurstsOf S) (ready : ConversationFields S) (late : Bool) (left : ConversationFields S) →
    Withholds side lends ready late left → List SentBurst
withheld side lends ready false left h = []
withheld side lends ready true left h = h.0

-- the bursts of a turn: those that are withheld don't go onto the line, the others do
abbrev pub turn_of :
    {S : Type 0} {side : Side} {lends : BurstsOf S} {late : Bool} {ready new : ConversationFields S} → GivesTurn S side lends late ready new →
    List (SentBurst × Bool)
turn_of {side = side} {lends = lends} {late = late} {ready = ready} turn =
    each_with false (withheld side lends ready late turn.left turn.withholds) ++ each_with true turn.bursts

-- the bursts of a turn that fails: those that are withheld don't go onto the line, the others do or don't
abbrev pub part_of :
    {S : Type 0} {side : Side} {lends : BurstsOf S} {ready new : ConversationFields S} → GivesPart S side lends ready new →
    List (SentBurst × Bool) → List (SentBurst × Bool)
part_of {side = side} {lends = lends} {ready = ready} part given =
    each_with false (withheld side lends ready part.late part.left part.withholds) ++ given

-- the steps of a caller's answer
abbrev pub caller_steps : TimedLine → List (SentBurst × Bool) → List Step
caller_steps line given = caller_line line ∷ caller_watches ∷ map (λ (one : SentBurst × Bool). caller_gives one.0 one.1) given

-- the step by which pages are kept, or one is refused
abbrev pub keeps_by : Bool → Step
keeps_by true = pages_stored
keeps_by false = page_refused

-- the step by which the answerer hangs up, if its program wants that
abbrev pub hangs_by : Bool → List Step
hangs_by true = hung_up ∷ []
hangs_by false = []

-- the steps of an answerer's answer
abbrev pub answerer_steps : TimedLine → Bool → Bool → List (SentBurst × Bool) → List Step
answerer_steps line kept hangs given =
    answerer_line line ∷ answerer_watches ∷ keeps_by kept ∷
    (hangs_by hangs ++ map (λ (one : SentBurst × Bool). answerer_gives one.0 one.1) given)

-- steps by which pages are kept before anything is said lead to this conversation of the caller, and leave the answerer and its store
abbrev pub LeadsCaller : List Step → Driven → ConversationFields StoppableCallerFields → Type 0
LeadsCaller steps old new = (last : Driven) × DrivesKept steps old last × (last.caller ≡ new) × AnswererStays old last

-- such steps lead to this conversation of the answerer and this store, and leave the caller
abbrev pub LeadsAnswerer : List Step → Bool → Driven → ConversationFields LimitedFields → List PagePixels → Type 0
LeadsAnswerer steps kept old new stored =
    (last : Driven) × DrivesKept steps old last × (last.answerer ≡ new) × (last.stored ≡ stored) × CallerStays kept old last

-- The law: each such answer is these steps, by which pages are kept before anything is said. After them the conversation and the store are
-- as the contract says, and the other conversation is as it was. So is an answer that fails on the way, whichever of the bursts that were
-- given then go onto the line; and a line for which there is no memory is one step.
pub record AnswersAreSteps : Type 0 where
  pub caller :
      (line : TimedLine) (late : Bool) (old : Driven) (new : ConversationFields StoppableCallerFields)
      (answers : CallerAnswers line late old new) → LeadsCaller (caller_steps line (turn_of answers.turn)) old new
  pub answerer :
      (line : TimedLine) (kept late : Bool) (old : Driven) (new : ConversationFields LimitedFields) (stored : List PagePixels) →
      old.unkept ≡ [] → (answers : AnswererAnswers line kept late old new stored) →
      LeadsAnswerer (answerer_steps line kept answers.is_ready.hangs (turn_of answers.turn)) kept old new stored
  pub caller_fails :
      (line : TimedLine) (old : Driven) (new : ConversationFields StoppableCallerFields) (breaks : CallerBreaksOff line old new)
      (given : List (SentBurst × Bool)) → bursts_in given ≡ breaks.part.bursts →
      LeadsCaller (caller_steps line (part_of breaks.part given)) old new
  pub answerer_fails :
      (line : TimedLine) (kept : Bool) (old : Driven) (new : ConversationFields LimitedFields) (stored : List PagePixels) →
      old.unkept ≡ [] → (breaks : AnswererBreaksOff line kept old new stored) (given : List (SentBurst × Bool)) →
      bursts_in given ≡ breaks.part.bursts → LeadsAnswerer (answerer_steps line kept breaks.is_ready.hangs (part_of breaks.part given)) kept old new stored
  pub caller_refuses :
      (line : TimedLine) (old : Driven) (new : ConversationFields StoppableCallerFields) → CallerHasNoMemory line old new →
      LeadsCaller (caller_refuses line ∷ []) old new
  pub answerer_refuses :
      (line : TimedLine) (old : Driven) (new : ConversationFields LimitedFields) → old.unkept ≡ [] → AnswererHasNoMemory line old new →
      LeadsAnswerer (answerer_refuses line ∷ []) true old new old.stored
