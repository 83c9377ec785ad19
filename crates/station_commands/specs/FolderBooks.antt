-- What `faxtool station --answer` promises of the folder that it stores pages in: each page that the other station counts as confirmed was
-- stored by a call that said so, in a file of its own number, before anything was said after it.
--
-- What a call that writes, syncs or names a file does to a disk isn't said: no clause of the system's calls speaks of files. So "stored" is
-- that `store` returned `Ok`, which it does only after each of these calls has.
use Rattle.std.specs.Prelude.{ℕ, ◌≡◌, ◌<◌, ◌≤◌, ◌-◌, ◌^◌, ◌++◌, ◌+◌, ◌∷◌, [], Bool, true, false, List, Option, None, length}
use Rattle.conversations.specs.Answering.{pages_of}
use Rattle.conversations.specs.Conversations.{ConversationFields, gives, hung_up_so, refused_so, with_pages_taken}
use Rattle.conversations.specs.Answering.{limited_behaviour}
use Rattle.conversations.specs.Conversing.{AnswersAll, TalkState}
use Rattle.conversations.specs.Led.{caller_behaviour}
use Rattle.conversations.specs.StoredLines.{AreOfLines, IsNewAnswerer, signals_in}
use Rattle.conversations.specs.Talking.{Answers, KeepsLine as BreaksLine}
use Rattle.conversations.specs.declared.line.Said.{Said}
use Rattle.conversations.specs.declared.line.TimedLine.{TimedLine}
use Rattle.joined_terminals.specs.Answered.{CallerAnswers, answerer_steps, bursts_in, hung_up_if, part_of, turn_of}
use Rattle.joined_terminals.specs.Driven.{Driven, joined}
use Rattle.joined_terminals.specs.Joining.{Begins}
use Rattle.joined_terminals.specs.Kept.{DrivesKept, IsKept, IsSafeStore}
use Rattle.joined_terminals.specs.Octets.{IsPiece}
use Rattle.joined_terminals.specs.Steps.{Comes, Does, IsOneAtMost, Step}
use Rattle.raster.specs.Pages.{PagePixels}
use Rattle.signals.specs.declared.params.Caps.{Caps}
use Rattle.signals.specs.declared.params.Wish.{Wish}
use Rattle.station_commands.specs.Folders.{KeepsLine, StoresPage}
use Rattle.station_commands.specs.HeldBooks.{KeepsOn, KeptBetween, StandsBy}
use Rattle.station_commands.specs.Talks.{AnswerTalks, IsNewFolder, NewAnswering, NewDialling, confirmed_talker, folder_talker, receiving, wish_of}
use Rattle.station_commands.specs.Stations.{page_limit}
use Rattle.station_commands.specs.declared.station.DialCommand.{DialCommand}
use Rattle.joined_terminals.specs.Held.{DrivesHeld, IsHeld}
use Rattle.joined_terminals.specs.HeldAnswers.{HolderStays, HoldsOne, holder_steps}
use Rattle.stations.specs.Stopping.{StoppableCallerFields}
use Rattle.station_commands.specs.declared.station.AnswerCommand.{AnswerCommand}
use Rattle.station_commands.specs.declared.station.confirmations.Confirmed.{Confirmed}
use Rattle.station_commands.specs.declared.station.Talked.{Talked}
use Rattle.station_commands.specs.declared.station.folder.CallLimits.{CallLimits}
use Rattle.station_commands.specs.declared.station.folder.Folder.{Folder}
use Rattle.station_commands.specs.declared.station.folder.Tally.{Tally}
use Rattle.stations.specs.Inputs.{PlainItem}
use Rattle.stations.specs.Laws.{Each}
use Rattle.stations.specs.Layers.{Document, IsFullPage}
use Rattle.stations.specs.Limiting.{LimitedFields}
use Rattle.stations.specs.Runs.{IsReadOf}
use Rattle.stations.specs.declared.limiting.Limits.{Limits}
use Rattle.terminals.specs.Stopping.{limited_cut_off}
use Rattle.terminals.specs.declared.sending.SentBurst.{SentBurst}

-- pages were stored between two tallies, in order, each by a call that said so; the numbers of their files grow, so each has its own
abbrev pub StoredBetween : CallLimits → Tally → List PagePixels → Tally → Type 0
StoredBetween limits old [] new = new ≡ old
StoredBetween limits old (page ∷ pages) new = (mid : Tally) × StoresPage limits old page mid × StoredBetween limits mid pages new

-- pages were stored in a folder since it stood so, in order
abbrev pub FolderBook : Folder → List PagePixels → Folder → Type 0
FolderBook old pages new = StoredBetween old.limits old.tally pages new.tally × (new.limits ≡ old.limits)

-- pages are all of the answerer's; or those before one that is refused, and the answerer hangs up
abbrev pub StoresSo : List PagePixels → ConversationFields LimitedFields → ConversationFields LimitedFields → Bool → Type 0
StoresSo pages c after true = (pages ≡ pages_of c) × (after ≡ with_pages_taken c)
StoresSo pages c after false = (refused : PagePixels) × (rest : List PagePixels) × (pages_of c ≡ pages ++ refused ∷ rest)
    × (after ≡ hung_up_so limited_cut_off (with_pages_taken c))

-- What a folder that stores its pages itself does after a line: the pages of the answerer are stored, all, or those before one that is
-- refused; and once all are, the answerer may hang up, as where its call has had its time.
pub record FolderKeeps (old : Folder) (c : ConversationFields LimitedFields) (new : Folder) (after : ConversationFields LimitedFields) :
    Type 0 where
  pub pages : List PagePixels
  pub stored : FolderBook old pages new
  pub mid : ConversationFields LimitedFields
  pub all : Bool
  pub stores : StoresSo pages c mid all
  pub hangs : Bool
  pub only : hangs ≡ true → all ≡ true
  pub is : after ≡ hung_up_if hangs mid
  pub itself : new.holds ≡ false

-- The law: so does the keeper that `faxtool station --answer` runs.
abbrev pub FolderKeepsAll : Type 0
FolderKeepsAll =
    (said : Said) (old : Folder) (c : ConversationFields LimitedFields) (new : Folder) (after : ConversationFields LimitedFields) (kept : Bool) →
    old.holds ≡ false → KeepsLine said old c new after kept → FolderKeeps old c new after

-- An answer of the answerer whose keeper is a folder, or one that fails once the line was taken: these pages are stored in the folder, and
-- only then are bursts given. These steps lead there; by `DrivesKept` no burst, and so no MCF, is given while a page is in the answerer.
pub record FolderAnswers (line : TimedLine) (old : Driven) (folder : Folder) (new : Driven) (kept_in : Folder) : Type 0 where
  pub pages : List PagePixels
  pub stored : FolderBook folder pages kept_in
  pub added : new.stored ≡ old.stored ++ pages
  pub all : Bool
  pub hangs : Bool
  pub given : List (SentBurst × Bool)
  pub drives : DrivesKept (answerer_steps line all hangs given) old new
  pub itself : kept_in.holds ≡ false

-- The law: what `answer` promises of a line, where the keeper is a folder that stores its pages itself, is such an answer, if the line comes
-- of what is on its way.
abbrev pub AnswersAreFolders : Type 0
AnswersAreFolders =
    (text : List ℕ) (old : Driven) (new : ConversationFields LimitedFields) (folder kept_in : Folder) (before after : Option (List ℕ))
    (kept over : Bool) (others : List PlainItem) → old.unkept ≡ [] → folder.holds ≡ false →
    (answers :
    Answers LimitedFields Folder folder_talker.station folder_talker.keeping folder_talker.lends text old.answerer new folder kept_in before
    after kept over) →
    Comes IsPiece old.answerer.terminal.framing old.to_answerer (gives limited_behaviour old.answerer answers.takes.shown answers.timed)
    others → (last : Driven) × FolderAnswers answers.timed old folder last kept_in × (last.answerer ≡ new) × (last.caller ≡ old.caller)

-- The law: so is an answer that fails on the way, once the line was taken, whether the bursts that were given go onto the line (`sends`) or not.
abbrev pub BreaksAreFolders : Type 0
BreaksAreFolders =
    (text : List ℕ) (old : Driven) (new : ConversationFields LimitedFields) (folder kept_in : Folder) (before after : Option (List ℕ))
    (others : List PlainItem) → old.unkept ≡ [] → folder.holds ≡ false → (sends : Bool) →
    (breaks :
    BreaksLine LimitedFields Folder folder_talker.station folder_talker.keeping folder_talker.lends text old.answerer new folder kept_in
    before after) →
    Comes IsPiece old.answerer.terminal.framing old.to_answerer (gives limited_behaviour old.answerer breaks.takes.shown breaks.timed)
    others → (last : Driven) × FolderAnswers breaks.timed old folder last kept_in × (last.answerer ≡ new) × (last.caller ≡ old.caller)

-- something that happens to a call: the answerer answers a line, or the answer fails; or any step by which nothing is stored
pub data Event : Type 0 where
  answered : TimedLine → Event
  other : Step → Event

-- what it makes of both conversations and of the folder
abbrev pub Happens : Event → Driven → Folder → Driven → Folder → Type 0
Happens (answered line) old folder new kept_in = FolderAnswers line old folder new kept_in
Happens (other step) old folder new kept_in = IsKept step old × Does step old new × (new.stored ≡ old.stored) × (kept_in ≡ folder)

-- one after the other
abbrev pub HappenAll : List Event → Driven → Folder → Driven → Folder → Type 0
HappenAll [] old folder new kept_in = (new ≡ old) × (kept_in ≡ folder)
HappenAll (event ∷ more) old folder new kept_in =
    (mid : Driven) × (held : Folder) × Happens event old folder mid held × HappenAll more mid held new kept_in

-- What the sender can rely on: the pages in the folder are the first of its document, pixel for pixel, each in a file of its own; each page
-- that it counts as confirmed is among them, and at most one more; and its normal end means all. The folder counts exactly these.
pub record HasConfirmed (document : Document) (d : Driven) (first folder : Folder) : Type 0 where
  pub filed : FolderBook first d.stored folder
  pub safe : IsSafeStore document d
  pub counted : folder.tally.pages ≡ first.tally.pages + length d.stored

-- The law: from two new conversations and a folder, whatever happens leads to where the folder has each confirmed page.
abbrev pub ConfirmedAreFiled : Type 0
ConfirmedAreFiled =
    (document : Document) (wish : Wish) (caps : Caps) (limits : Limits) (events : List Event) (first last : Driven) (empty folder : Folder) →
    Each IsFullPage document → Begins document wish caps limits (joined first) → HappenAll events first empty last folder →
    HasConfirmed document last empty folder

-- ---- whoever is on the line

-- Pages were stored in a folder, in order, and each is what data fields of FCDs, joined, read as by the parameters of a DCS that the answerer
-- allows; all of these frames are good ones among the octets that the lines bring.
pub record FilesWhatIsSaid (caps : Caps) (lines : List (List ℕ)) (before after : Folder) : Type 0 where
  pub octets : List ℕ
  pub of_lines : AreOfLines lines octets
  pub pages : List PagePixels
  pub filed : FolderBook before pages after
  pub read : Each (IsReadOf caps (signals_in octets)) pages

-- The law, whoever is on the line: after lines that a new answerer has answered this holds of the folder that stores its pages itself.
abbrev pub FolderIsSaid : Type 0
FolderIsSaid =
    (caps : Caps) (lines : List (List ℕ)) (old new : TalkState LimitedFields Folder) → IsNewAnswerer caps old.conversation →
    old.keeper.holds ≡ false → old.keeper.held ≡ None → AnswersAll folder_talker lines old new →
    FilesWhatIsSaid caps lines old.keeper new.keeper

-- The law: the conversation with which a command answers is that of a new answerer.
abbrev pub AnswerersAreNew : Type 0
AnswerersAreNew =
    (command : AnswerCommand) (c : ConversationFields LimitedFields) → NewAnswering command c → IsNewAnswerer (receiving command.caps) c

-- What is in the folder that a station's command was given, once its lines go no further: as many pages as are told, each stored by a call
-- that said so, in a file of its own; and each was said on the line, in good frames of these lines.
pub record StationFiles (command : AnswerCommand) (talked : Talked) : Type 0 where
  pub lines : List (List ℕ)
  pub first : Folder
  pub empty : IsNewFolder command first
  pub last : Folder
  pub files : FilesWhatIsSaid (receiving command.caps) lines first last
  pub counted : talked.pages ≡ length files.pages

-- The law, whoever is on the line: this holds of each command that stores its pages itself, however it ends, if no line was lost for want of
-- memory.
abbrev pub StationsFileWhatIsSaid : Type 0
StationsFileWhatIsSaid =
    (command : AnswerCommand) (talked : Talked) → command.holds ≡ false → (talks : AnswerTalks command talked) → talks.talks.lost ≡ 0 →
    StationFiles command talked

-- ---- from both commands

-- The law: what `answer` promises of a line, where the keeper is that of a command that dials, is an answer of the caller, if the line comes
-- of what is on its way.
abbrev pub DialledAnswer : Type 0
DialledAnswer =
    (text : List ℕ) (old : Driven) (new : ConversationFields StoppableCallerFields) (told tells : Confirmed) (before after : Option (List ℕ))
    (kept over : Bool) (others : List PlainItem) →
    (answers :
    Answers StoppableCallerFields Confirmed confirmed_talker.station confirmed_talker.keeping confirmed_talker.lends text old.caller new told
    tells before after kept over) →
    Comes IsOneAtMost old.caller.terminal.framing old.to_caller (gives caller_behaviour old.caller answers.takes.shown answers.timed) others →
    CallerAnswers answers.timed answers.late old new

-- two conversations with a line on which nothing is, and nothing stored
abbrev pub at_begin : ConversationFields StoppableCallerFields → ConversationFields LimitedFields → Driven
at_begin caller answerer = record {
  caller = caller;
  answerer = answerer;
  to_answerer = [];
  to_caller = [];
  caller_clear = true;
  answerer_clear = true;
  stored = [];
  unkept = [];
}

-- The law: the new conversations of the commands `dial` and `answer` are those from which the headline begins.
abbrev pub CommandsBegin : Type 0
CommandsBegin =
    (dial : DialCommand) (answer : AnswerCommand) (document : Document) (caller : ConversationFields StoppableCallerFields)
    (answerer : ConversationFields LimitedFields) → NewDialling dial document caller → NewAnswering answer answerer →
    Begins document (wish_of dial.options) (receiving answer.caps)
    (record { pages = page_limit answer.holds answer.limit; octets = 2 ^ 64 - 1 }) (joined (at_begin caller answerer))

-- ---- pages that others keep

-- An answer of the answerer whose pages are handed over: by these steps no page is confirmed that is still in it, so only once a line says
-- that it is kept; and the folder counts at most those. The page that it holds is the answerer's, and each that it counts was held.
pub record FolderHolds (line : TimedLine) (old : Driven) (folder : Folder) (new : Driven) (kept_in : Folder) : Type 0 where
  pub kept : Bool
  pub hangs : Bool
  pub given : List (SentBurst × Bool)
  pub drives : DrivesHeld (holder_steps line kept hangs given) old new
  pub counts : kept_in.tally.pages ≤ length new.stored
  pub stays : HolderStays old new
  pub hands : kept_in.holds ≡ true
  pub keeps : (since : Tally) → StandsBy folder.held folder.limits since folder.tally old → KeepsOn since old folder new kept_in
  pub limits : kept_in.limits ≡ folder.limits

-- The law: what `answer` promises of a line, where the keeper is a folder whose pages are handed over and the answerer takes one page at a
-- time, is such an answer, if the line comes of what is on its way.
abbrev pub AnswersAreHeld : Type 0
AnswersAreHeld =
    (text : List ℕ) (old : Driven) (new : ConversationFields LimitedFields) (folder kept_in : Folder) (before after : Option (List ℕ))
    (kept over : Bool) (others : List PlainItem) → old.unkept ≡ [] → HoldsOne old.answerer.terminal.speaking → folder.holds ≡ true →
    folder.tally.pages ≤ length old.stored →
    (answers :
    Answers LimitedFields Folder folder_talker.station folder_talker.keeping folder_talker.lends text old.answerer new folder kept_in before
    after kept over) →
    Comes IsPiece old.answerer.terminal.framing old.to_answerer (gives limited_behaviour old.answerer answers.takes.shown answers.timed)
    others → (last : Driven) × FolderHolds answers.timed old folder last kept_in × (last.answerer ≡ new)

-- The law: the answerer of a command whose pages are handed over takes one page at a time.
abbrev pub CommandsHoldOne : Type 0
CommandsHoldOne =
    (dial : DialCommand) (answer : AnswerCommand) (document : Document) (caller : ConversationFields StoppableCallerFields)
    (answerer : ConversationFields LimitedFields) → NewDialling dial document caller → NewAnswering answer answerer →
    answer.holds ≡ true → HoldsOne answerer.terminal.speaking

-- what happens to a call whose pages are handed over: the answerer answers a line; or any step that leaves what counts as kept
abbrev pub HappensHeld : Event → Driven → Folder → Driven → Folder → Type 0
HappensHeld (answered line) old folder new kept_in = FolderHolds line old folder new kept_in
HappensHeld (other step) old folder new kept_in = IsHeld step old × Does step old new × (new.stored ≡ old.stored) × (kept_in ≡ folder)

-- one after the other
abbrev pub HappenAllHeld : List Event → Driven → Folder → Driven → Folder → Type 0
HappenAllHeld [] old folder new kept_in = (new ≡ old) × (kept_in ≡ folder)
HappenAllHeld (event ∷ more) old folder new kept_in =
    (mid : Driven) × (held : Folder) × HappensHeld event old folder mid held × HappenAllHeld more mid held new kept_in

-- What the sender can rely on where others keep the pages: each page that it counts as confirmed is among those that a line said are kept,
-- and at most one more; and the folder counts at most those.
pub record HasKept (document : Document) (d : Driven) (folder : Folder) : Type 0 where
  pub safe : IsSafeStore document d
  pub counted : folder.tally.pages ≤ length d.stored

-- The law: from two new conversations and a folder that counts nothing, whatever happens leads to where each confirmed page is kept.
abbrev pub ConfirmedAreKept : Type 0
ConfirmedAreKept =
    (document : Document) (wish : Wish) (caps : Caps) (limits : Limits) (events : List Event) (first last : Driven) (empty folder : Folder) →
    Each IsFullPage document → Begins document wish caps limits (joined first) → empty.tally.pages ≡ 0 →
    HappenAllHeld events first empty last folder → HasKept document last folder

-- The files of a folder whose pages are handed over: those of the pages that the store has, in order, each of which a line said is kept; and
-- that of the page which is held, if one is: the answerer's only one.
pub record HoldsBook (first : Folder) (d : Driven) (folder : Folder) : Type 0 where
  pub since : Tally
  pub kept : KeptBetween first.limits first.tally d.stored since
  pub stands : StandsBy folder.held folder.limits since folder.tally d
  pub limits : folder.limits ≡ first.limits

-- The law: from two new conversations and a folder that holds none, whatever happens leads to where each page that counts as kept was
-- handed over in a file of its own, and the file that is held has the answerer's page.
abbrev pub KeptAreFiled : Type 0
KeptAreFiled =
    (document : Document) (wish : Wish) (caps : Caps) (limits : Limits) (events : List Event) (first last : Driven) (empty folder : Folder) →
    Begins document wish caps limits (joined first) → limits.pages ≡ 1 → 0 < limits.octets → empty.held ≡ None →
    HappenAllHeld events first empty last folder → HoldsBook empty last folder

-- the pages that the answerer accepted of lines that it answered, in order: those that it has after each line, before anything is stored
abbrev pub accepted_in : (lines : List (List ℕ)) (old new : TalkState LimitedFields Folder) → AnswersAll folder_talker lines old new →
    List PagePixels
accepted_in [] old new h = []
accepted_in (line ∷ lines) old new h = pages_of (refused_so limited_behaviour h.1.answered.heard) ++ accepted_in lines h.0 new h.2

-- The law, whoever is on the line: after each line after which the call goes on the folder's book has exactly the pages that the answerer
-- accepted, in order, and none is left in the answerer. So what an MCF confirms is in the book.
abbrev pub AcceptedAreFiled : Type 0
AcceptedAreFiled =
    (lines : List (List ℕ)) (old new : TalkState LimitedFields Folder) → old.keeper.holds ≡ false → old.keeper.held ≡ None →
    pages_of old.conversation ≡ [] → (answers : AnswersAll folder_talker lines old new) →
    FolderBook old.keeper (accepted_in lines old new answers) new.keeper × (pages_of new.conversation ≡ [])
