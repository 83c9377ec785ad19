-- What comes of the lines of a station: where they lead its conversation and its keeper.
--
-- No clause says what standard input holds. So the lines that were read are some lines of which the definition holds, and what was written
-- isn't said.
use Rattle.std.specs.Prelude.{ℕ, zero, suc, ◌≡◌, ◌⊎◌, ◌-◌, ◌^◌, [], Bool, true, false, List, Option, Some, None, Result, Ok, Err, length}
use Rattle.std.specs.Prelude.{◌||◌, nat_eq, not, option_map, string_bytes, unwrap_or}
use Rattle.calls.specs.declared.options.CallOptions.{CallOptions}
use Rattle.station_commands.specs.CallNotes.{IsMissing, is_whole}
use Rattle.station_commands.specs.Folders.{KeepsLine, end_of, held_name, late_stop, limits_of}
use Rattle.station_commands.specs.Stations.{HaltsBy, IsFailure, IsNoDocument, SendsFrom, as_outside, ended_of, given_wait, millis_of, page_limit}
use Rattle.command_files.specs.declared.command.Completeness.{Completeness}
use Rattle.station_commands.specs.declared.station.AnswerCommand.{AnswerCommand}
use Rattle.station_commands.specs.declared.station.confirmations.Confirmed.{Confirmed}
use Rattle.station_commands.specs.declared.station.DialCommand.{DialCommand}
use Rattle.station_commands.specs.declared.station.Halted.{Halted}
use Rattle.station_commands.specs.declared.station.Halted.TheVariants.{Fault}
use Rattle.station_commands.specs.declared.station.Talked.{Talked}
use Rattle.station_commands.specs.declared.station.folder.Folder.{Folder}
use Rattle.station_commands.specs.declared.station.given.GivenWaits.{GivenWaits}
use Rattle.station_commands.specs.Following.{IsNewFollower, NotesFields, station_follower}
use Rattle.conversations.specs.Answering.{limited_behaviour}
use Rattle.conversations.specs.Conversations.{Behaviour, ConversationFields}
use Rattle.conversations.specs.Conversing.{Converses, ConversesFollowed, StopsSo, Talker, talk_state, talker}
use Rattle.conversations.specs.Holding.{can_come}
use Rattle.conversations.specs.Led.{caller_behaviour}
use Rattle.conversations.specs.Refusing.{limit_of, new_watch, no_watch, refusal_in}
use Rattle.conversations.specs.Talking.{Keeping, keeping}
use Rattle.conversations.specs.declared.conversing.ConverseFault.{ConverseFault}
use Rattle.conversations.specs.declared.conversing.ConverseFault.TheVariants.{NoMemory}
use Rattle.conversations.specs.declared.conversing.Ending.{Ending}
use Rattle.conversations.specs.declared.conversing.Ending.TheVariants.{Over, Lost, Unkept}
use Rattle.conversations.specs.declared.writing.Says.{Says}
use Rattle.faults.specs.Faults.{IsOutside}
use Rattle.faults.specs.declared.fault.ToolFault.{ToolFault}
use Rattle.faults.specs.declared.fault.ToolFault.TheVariants.{No}
use Rattle.hdlc.specs.DeframerState.{IsAfter}
use Rattle.raster.specs.Pages.{PagePixels}
use Rattle.signals.specs.declared.mark.Mark.{Mark}
use Rattle.signals.specs.declared.params.Caps.{Caps}
use Rattle.signals.specs.declared.params.Wish.{Wish}
use Rattle.stations.specs.AnswererStep.{new_answerer}
use Rattle.stations.specs.CallerFields.{NewCaller, Represents}
use Rattle.stations.specs.CallerStep.{Caller, confirmed, no_params}
use Rattle.stations.specs.Limiting.{LimitedFields}
use Rattle.stations.specs.Stopping.{StoppableCallerFields, call_end}
use Rattle.stations.specs.declared.mark.Accepted.{Accepted}
use Rattle.stations.specs.declared.turn.Turn.TheVariants.{Dis, Silent}
use Rattle.stations.specs.declared.waiting.Wait.{Wait}
use Rattle.terminals.specs.Clocks.{duration, new_clock}
use Rattle.terminals.specs.Speaking.{BurstsOf}
use Rattle.terminals.specs.Stations.{AnswererLends, CallerLends}
use Rattle.terminals.specs.Timing.{wait_millis}

-- lines are answered until the conversation ends so
abbrev pub LedTo :
    {S K : Type 0} → Talker S K → ConversationFields S → K → ConversationFields S → K → Ending ToolFault → Type 0
LedTo {S} {K} t old keeper new kept ending =
    (unread : Option (List ℕ)) × (left : Option (List ℕ)) × (unsaid : Option (List ℕ)) × (said : Option (List ℕ))
    × Converses S K ToolFault t (talk_state unread old keeper unsaid) (talk_state left new kept said) ending

-- lines are answered until the conversation stops for this fault
abbrev pub StoppedAt :
    {S K : Type 0} → Talker S K → ConversationFields S → K → ConversationFields S → K → ConverseFault → Type 0
StoppedAt {S} {K} t old keeper new kept fault =
    (unread : Option (List ℕ)) × (left : Option (List ℕ)) × (unsaid : Option (List ℕ)) × (said : Option (List ℕ))
    × StopsSo t (talk_state unread old keeper unsaid) (talk_state left new kept said) fault

-- Lines are answered, but for so many for which memory is refused: each of these is lost, as on a bad line, and the call goes on.
abbrev pub AfterLosses : {S K : Type 0} → Talker S K → ℕ → ConversationFields S → K → ConversationFields S → K → Type 0
AfterLosses t zero old keeper new kept = (new ≡ old) × (kept ≡ keeper)
AfterLosses {S} {K} t (suc before) old keeper new kept =
    (mid : ConversationFields S) × (held : K) × AfterLosses t before old keeper mid held × StoppedAt t mid held new kept NoMemory

-- How talking ends, once so many lines are lost: the call is over, or its line is lost; or something wasn't kept, and its fault is why the
-- lines went no further; or the conversation stops for a fault, and so do they. Or there was no memory to read a line, or for as many as are
-- counted: then nothing else is done.
abbrev pub EndsTalk : {S K : Type 0} → Talker S K → ℕ → ConversationFields S → K → ConversationFields S → K →
    Result (Unit {0}) Halted → Type 0
EndsTalk t lost old keeper new kept (Ok done) = LedTo t old keeper new kept Over ⊎ LedTo t old keeper new kept Lost
EndsTalk t lost old keeper new kept (Err halted) =
    ((why : ToolFault) × LedTo t old keeper new kept (Unkept why) × (halted ≡ Fault (as_outside why)))
    ⊎ (((fault : ConverseFault) × StoppedAt t old keeper new kept fault × HaltsBy fault halted)
    ⊎ ((new ≡ old) × (kept ≡ keeper) × (((lost ≡ 0) × IsFailure halted) ⊎ ((lost ≡ 2 ^ 64 - 1) × (halted ≡ Fault (No 9))))))

-- lines are answered until the conversation ends so, and the follower notes each
abbrev pub FollowedTo : {S K : Type 0} → Talker S K → ConversationFields S → K → NotesFields → ConversationFields S → K → NotesFields →
    Ending ToolFault → Type 0
FollowedTo {S} {K} t old keeper first new kept last ending =
    (unread : Option (List ℕ)) × (left : Option (List ℕ)) × (unsaid : Option (List ℕ)) × (said : Option (List ℕ))
    × ConversesFollowed S K ToolFault NotesFields t station_follower (talk_state unread old keeper unsaid) (talk_state left new kept said) first last ending

-- What the follower notes of a talk whose call is over, or whose line is lost: each line and each burst, in order, if no line was lost for
-- want of memory.
abbrev pub NotesTalk : {S K : Type 0} → Talker S K → ℕ → ConversationFields S → K → NotesFields → ConversationFields S → K → NotesFields →
    Result (Unit {0}) Halted → Type 0
NotesTalk t lost old keeper first new kept last (Ok done) =
    lost ≡ 0 → FollowedTo t old keeper first new kept last Over ⊎ FollowedTo t old keeper first new kept last Lost
NotesTalk t lost old keeper first new kept last (Err halted) = Unit {0}

-- a station and its keeper are led by lines: some are lost for want of memory, and then the talk ends
pub record Talks (S K : Type 0) (t : Talker S K) (old : ConversationFields S) (keeper : K) (new : ConversationFields S) (kept : K)
    (ended : Result (Unit {0}) Halted) : Type 0 where
  pub lost : ℕ
  pub mid : ConversationFields S
  pub held : K
  pub before : AfterLosses t lost old keeper mid held
  pub ends : EndsTalk t lost mid held new kept ended

-- a station, its keeper and its follower are led by lines
abbrev pub TalksSo : {S K : Type 0} → Behaviour S → Keeping S K → BurstsOf S → ConversationFields S → K → NotesFields → ConversationFields S →
    K → NotesFields → Result (Unit {0}) Halted → Type 0
TalksSo {S} {K} b k lends old keeper first new kept last ended =
    (talks : Talks S K (talker b k lends) old keeper new kept ended)
    × NotesTalk (talker b k lends) talks.lost old keeper first new kept last ended

-- why the lines went no further, if that is so
abbrev pub halt_of : Result (Unit {0}) Halted → Option Halted
halt_of (Ok done) = None
halt_of (Err halted) = Some halted

-- what a station says beside its bursts
abbrev pub says_of : GivenWaits → Says
says_of given = record { hears = given.hears; waits = given.hears; frames = given.frames }

-- a new conversation that says and waits as it is given: nothing was heard or sent, at time 0; an answerer's hasn't begun
pub record IsFresh (S : Type 0) (waits : GivenWaits) (begun : Bool) (c : ConversationFields S) : Type 0 where
  pub framing : IsAfter c.terminal.framing [] 0
  pub taken : c.terminal.speaking.taken ≡ 0
  pub clock : c.clock ≡ new_clock
  pub durations : (wait : Wait) → duration c.durations wait ≡ unwrap_or (given_wait waits wait) (wait_millis wait)
  pub begun_is : c.begun ≡ begun
  pub says : c.says ≡ says_of waits

-- ---- an answerer

-- an answerer's capabilities: it receives, with error correction
abbrev pub receiving : Caps → Caps
receiving caps = record caps { receiver = true; ecm = true }

-- the new conversation of an answerer as its command asks for it: its first turn is DIS, and it watches its caller's DCSs
pub record NewAnswering (command : AnswerCommand) (c : ConversationFields LimitedFields) : Type 0 where
  pub fresh : IsFresh LimitedFields command.waits false c
  pub station : c.terminal.speaking.station ≡ record {
    station = new_answerer (receiving command.caps) no_params;
    limits = record { pages = page_limit command.holds command.limit; octets = 2 ^ 64 - 1 };
    told = false;
    said = Dis;
    cut = None;
  }
  pub turn : c.terminal.speaking.turn ≡ Dis
  pub watch : c.watch ≡ record (new_watch (receiving command.caps) command.refuses) { limit = limit_of (millis_of command.waits.seconds) }

-- the folder of an answerer as its command asks for it, into which nothing was stored
pub record IsNewFolder (command : AnswerCommand) (folder : Folder) : Type 0 where
  pub limits : folder.limits ≡ limits_of command.limits
  pub tally : folder.tally ≡ record { pages = 0; octets = 0; next = 1 }
  pub holds : folder.holds ≡ command.holds
  pub held : folder.held ≡ None
  pub stopped : folder.stopped ≡ None

-- an answerer and its folder as they talk
abbrev pub folder_talker : Talker LimitedFields Folder
folder_talker = talker limited_behaviour
    (keeping (λ old c said new after kept. KeepsLine said old c new after kept) (λ folder said. can_come (held_name folder.held) said)
    (λ folder. string_bytes folder.told)) (λ v turn bursts. AnswererLends v.station turn bursts)

-- the mark of the last block that an answerer accepted
abbrev pub last_mark : ConversationFields LimitedFields → Option Mark
last_mark c = option_map (λ (accepted : Accepted). accepted.mark) c.terminal.speaking.station.station.accepted

-- What comes of an answerer's command: a new conversation and its new folder are led by lines, and this is how the call stands then. It is
-- whole, and its last page unconfirmed, by what its follower noted of the frames that the station heard and said; so are its figures.
pub record AnswerTalks (command : AnswerCommand) (talked : Talked) : Type 0 where
  pub first : ConversationFields LimitedFields
  pub begins : NewAnswering command first
  pub folder : Folder
  pub empty : IsNewFolder command folder
  pub last : ConversationFields LimitedFields
  pub kept : Folder
  pub ended : Result (Unit {0}) Halted
  pub talks : Talks LimitedFields Folder folder_talker first folder last kept ended
  pub halted : talked.halted ≡ halt_of ended
  pub end : talked.end ≡ end_of last
  pub refused : talked.refused ≡ refusal_in last.watch
  pub stopped : talked.stopped ≡ kept.stopped
  pub failed : talked.failed ≡ kept.failed
  pub pages : talked.pages ≡ kept.tally.pages
  pub follower : NotesFields
  pub is_new : IsNewFollower command.waits.late follower
  pub notes : NotesFields
  pub follows : NotesTalk folder_talker talks.lost first folder follower last kept notes ended
  pub whole : talked.whole ≡ is_whole notes.noted (last_mark last) kept.has_gap
  pub unconfirmed : talked.unconfirmed ≡ not notes.noted.confirms
  pub figures : talked.figures ≡ notes.noted.figures

-- a file or memory failed; or the lines were taken, and all was done if the call is whole and lacks its last DCN at most
abbrev pub AnswerGives : AnswerCommand → Result Completeness ToolFault → Type 0
AnswerGives command (Ok completeness) = (talked : Talked) × AnswerTalks command talked
    × (Ok completeness ≡ ended_of talked.halted talked.end talked.stopped talked.whole)
AnswerGives command (Err fault) = IsOutside fault

-- ---- a caller

-- how a caller sends, if the answerer takes that
abbrev pub wish_of : CallOptions → Wish
wish_of options = record { modems = options.modems; coding = options.coding; small = options.small }

-- the new conversation of a caller of these pages as its command asks for it
pub record NewDialling (command : DialCommand) (document : List PagePixels) (c : ConversationFields StoppableCallerFields) : Type 0 where
  pub fresh : IsFresh StoppableCallerFields command.waits true c
  pub caller : NewCaller document (wish_of command.options) (Ok c.terminal.speaking.station.station)
  pub uncut : c.terminal.speaking.station.cut ≡ None
  pub turn : c.terminal.speaking.turn ≡ Silent
  pub watch : c.watch ≡ record no_watch { limit = limit_of (millis_of command.waits.seconds) }

-- after a line a caller keeps nothing: it tells which pages are confirmed, and notes that the call has lasted as long as it may
abbrev pub TellsConfirmed :
    Confirmed → ConversationFields StoppableCallerFields → Confirmed → ConversationFields StoppableCallerFields → Bool → Type 0
TellsConfirmed old c new after kept = (after ≡ c) × (kept ≡ true)
    × ((t : Caller) → Represents c.terminal.speaking.station.station t
    → new ≡ record old { told = confirmed t; late = old.late || c.watch.late; given_up = old.given_up || c.watch.given_up })

-- a caller and what it tells as they talk
abbrev pub confirmed_talker : Talker StoppableCallerFields Confirmed
confirmed_talker = talker caller_behaviour
    (keeping (λ old c said new after kept. TellsConfirmed old c new after kept) (λ confirmed said. can_come None said)
    (λ confirmed. [])) (λ v turn bursts. CallerLends v.station turn bursts)

-- What comes of a caller's command: a new conversation, of the pages of its file from a number on, is led by lines, and this is how the call
-- stands then. It is whole if all pages are confirmed.
pub record DialTalks (command : DialCommand) (talked : Talked) : Type 0 where
  pub document : List PagePixels
  pub sends : SendsFrom command.options.fine command.from (Ok document)
  pub first : ConversationFields StoppableCallerFields
  pub begins : NewDialling command document first
  pub none : Confirmed
  pub none_told : none.told ≡ 0
  pub none_late : none.late ≡ false
  pub none_given_up : none.given_up ≡ false
  pub last : ConversationFields StoppableCallerFields
  pub kept : Confirmed
  pub ended : Result (Unit {0}) Halted
  pub talks : Talks StoppableCallerFields Confirmed confirmed_talker first none last kept ended
  pub halted : talked.halted ≡ halt_of ended
  pub end : (t : Caller) → Represents last.terminal.speaking.station.station t
      → talked.end ≡ call_end t.ending last.terminal.speaking.station.cut
  pub stopped : talked.stopped ≡ late_stop kept.late kept.given_up
  pub answers : talked.unconfirmed ≡ false
  pub follower : NotesFields
  pub is_new : IsNewFollower command.waits.late follower
  pub notes : NotesFields
  pub follows : NotesTalk confirmed_talker talks.lost first none follower last kept notes ended
  pub missing : IsMissing notes.noted.caps (wish_of command.options) command.options.fine talked.missing
  pub figures : talked.figures ≡ notes.noted.figures
  pub pages : (t : Caller) → Represents last.terminal.speaking.station.station t
      → (talked.pages ≡ confirmed t) × (talked.whole ≡ nat_eq (confirmed t) (length t.document))

-- a file or memory failed, or the file has no document that a call carries; or the lines were taken, and all was done if the call is whole and
-- lacks its last DCN at most
abbrev pub DialGives : DialCommand → Result Completeness ToolFault → Type 0
DialGives command (Ok completeness) = (talked : Talked) × DialTalks command talked
    × (Ok completeness ≡ ended_of talked.halted talked.end talked.stopped talked.whole)
DialGives command (Err fault) = IsNoDocument command.options.fine command.from fault
