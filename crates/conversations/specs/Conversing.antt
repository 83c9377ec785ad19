-- A whole conversation: the lines of a reader, answered one after the other.
use Rattle.std.specs.Prelude.{ℕ, ◌≡◌, ◌⊎◌, ◌+◌, ◌-◌, ◌^◌, ◌∷◌, [], Bool, true, false, List, Option, length}
use Rattle.std.specs.Io.KnownBytes.{Consumes, IsAtEnd}
use Rattle.conversations.specs.Conversations.{Behaviour, ConversationFields, IsOutOfTime, RefusesLine, TakesLine}
use Rattle.conversations.specs.Lines.{Says, SaysNothing}
use Rattle.conversations.specs.Reading.{TakesPart, TakesTooMany}
use Rattle.conversations.specs.Reading.{TakesLine as ReadsLine}
use Rattle.conversations.specs.Talking.{Answers, BreaksOff, Following, Follows, Keeping}
use Rattle.conversations.specs.declared.conversing.ConverseFault.{ConverseFault}
use Rattle.conversations.specs.declared.conversing.ConverseFault.TheVariants.{Line, NoMemory, Reader, Writer, TooManyLines}
use Rattle.conversations.specs.declared.conversing.Ending.{Ending}
use Rattle.conversations.specs.declared.conversing.Ending.TheVariants.{Over, Lost, Unkept}
use Rattle.conversations.specs.declared.line.Said.TheVariants.{End}
use Rattle.conversations.specs.declared.line.TimedLine.{TimedLine}
use Rattle.conversations.specs.declared.talking.AnswerFault.{AnswerFault}
use Rattle.conversations.specs.declared.talking.AnswerFault.TheVariants.{NoLine, NotHeld, OutOfTime}
use Rattle.conversations.specs.declared.talking.AnswerFault.TheVariants.{NoMemory as NoMemoryLeft, Writer as WriterFailed}
use Rattle.terminals.specs.Speaking.{BurstsOf}

-- how far a conversation is: what is left to be read, the station, what keeps its pages, and what was written
pub record TalkState (S K : Type 0) : Type 0 where
  pub input : Option (List ℕ)
  pub conversation : ConversationFields S
  pub keeper : K
  pub output : Option (List ℕ)

-- how far a conversation is, of its four parts
abbrev pub talk_state : {S K : Type 0} → Option (List ℕ) → ConversationFields S → K → Option (List ℕ) → TalkState S K
talk_state input conversation keeper output =
    record { input = input; conversation = conversation; keeper = keeper; output = output }

-- who talks: the station and its keeper as a conversation knows them, and the bursts of a turn
pub record Talker (S K : Type 0) : Type 1 where
  pub station : Behaviour S
  pub keeping : Keeping S K
  pub lends : BurstsOf S

-- who talks, of its three parts
abbrev pub talker : {S K : Type 0} → Behaviour S → Keeping S K → BurstsOf S → Talker S K
talker station keeping lends = record { station = station; keeping = keeping; lends = lends }

-- the next line is read and answered: all that it brought was kept or not, and the call is over or goes on
pub record AnswersNext (S K : Type 0) (t : Talker S K) (old new : TalkState S K) (line : List ℕ) (kept over : Bool) : Type 0 where
  pub read : ReadsLine old.input new.input line
  pub answered :
      Answers S K t.station t.keeping t.lends line old.conversation new.conversation old.keeper new.keeper old.output new.output kept over

-- lines are read and answered one after the other: all that each brought was kept, and the call goes on
abbrev pub AnswersAll : {S K : Type 0} → Talker S K → List (List ℕ) → TalkState S K → TalkState S K → Type 0
AnswersAll t [] old new = new ≡ old
AnswersAll {S} {K} t (line ∷ lines) old new =
    (mid : TalkState S K) × AnswersNext S K t old mid line true false × AnswersAll t lines mid new

-- the line is lost, at this time
abbrev pub lost_at : ℕ → TimedLine
lost_at now = record { at = now; said = End }

-- no line is left, and the station is given the loss of its line, at the time of the last one
pub record LosesLine (S K : Type 0) (t : Talker S K) (old new : TalkState S K) : Type 0 where
  pub no_more : Consumes old.input new.input []
  pub at_end : IsAtEnd new.input
  pub lost : TakesLine S t.station old.conversation (lost_at old.conversation.clock.now) new.conversation
  pub keeper : new.keeper ≡ old.keeper
  pub output : new.output ≡ old.output

-- the end of a conversation: the call is over after a line, or something that a line brought wasn't kept, or no line is left
abbrev pub EndsSo : {S K E : Type 0} → Talker S K → TalkState S K → TalkState S K → Ending E → Type 0
EndsSo {S} {K} t old new Over = (line : List ℕ) × AnswersNext S K t old new line true true
EndsSo {S} {K} t old new (Unkept why) = (line : List ℕ) × (over : Bool) × AnswersNext S K t old new line false over
EndsSo {S} {K} t old new Lost = LosesLine S K t old new

-- lines are read and answered, and then the conversation ends: the call is over, or a page wasn't kept, or no line is left
pub record Converses (S K E : Type 0) (t : Talker S K) (old new : TalkState S K) (ending : Ending E) : Type 0 where
  pub lines : List (List ℕ)
  pub last : TalkState S K
  pub answered : AnswersAll t lines old last
  pub ends : EndsSo t last new ending

-- the next line is read and answered, and a follower notes it
abbrev pub FollowedNext :
    {S K F : Type 0} → Talker S K → Following F → TalkState S K → TalkState S K → List ℕ → Bool → Bool → F → F → Type 0
FollowedNext {S} {K} t f old new line kept over first last =
    (next : AnswersNext S K t old new line kept over) × Follows f next.answered first last

-- lines are read and answered one after the other, and a follower notes each
abbrev pub FollowedAll : {S K F : Type 0} → Talker S K → Following F → List (List ℕ) → TalkState S K → TalkState S K → F → F → Type 0
FollowedAll t f [] old new first last = (new ≡ old) × (last ≡ first)
FollowedAll {S} {K} {F} t f (line ∷ lines) old new first last = (next : TalkState S K) × (mid : F)
    × FollowedNext t f old next line true false first mid × FollowedAll t f lines next new mid last

-- the end of a conversation, as `EndsSo` has it, and a follower notes it
abbrev pub FollowedEnd : {S K E F : Type 0} → Talker S K → Following F → TalkState S K → TalkState S K → Ending E → F → F → Type 0
FollowedEnd t f old new Over first last = (line : List ℕ) × FollowedNext t f old new line true true first last
FollowedEnd t f old new (Unkept why) first last =
    (line : List ℕ) × (over : Bool) × FollowedNext t f old new line false over first last
FollowedEnd {S} {K} t f old new Lost first last = LosesLine S K t old new × (last ≡ first)

-- lines are read and answered until the conversation ends, and a follower notes each of them
pub record ConversesFollowed (S K E F : Type 0) (t : Talker S K) (f : Following F) (old new : TalkState S K) (first last : F)
    (ending : Ending E) : Type 0 where
  pub lines : List (List ℕ)
  pub mid : TalkState S K
  pub noted : F
  pub answered : FollowedAll t f lines old mid first noted
  pub ends : FollowedEnd t f mid new ending noted last

-- a line that can't come now: its keeper can't take it, or its time can't follow
abbrev pub CannotCome : {S K : Type 0} → Talker S K → TalkState S K → TimedLine → Type 0
CannotCome t old timed = (t.keeping.takes old.keeper timed.said ≡ false) ⊎ IsOutOfTime old.conversation timed

-- octets are none of a station's lines, or one that can't come now
abbrev pub IsNoLine : {S K : Type 0} → Talker S K → TalkState S K → List ℕ → Type 0
IsNoLine t old line = SaysNothing line ⊎ ((timed : TimedLine) × Says line timed × CannotCome t old timed)

-- the next line is too long, or it is read and isn't answered: all else is as it was
pub record RefusesNext (S K : Type 0) (t : Talker S K) (old new : TalkState S K) : Type 0 where
  pub line : List ℕ
  pub refused : TakesTooMany old.input new.input line ⊎ (ReadsLine old.input new.input line × IsNoLine t old line)
  pub rest : new ≡ record old { input = new.input }

-- lines are answered, and then the one of this number, from 1, is refused
pub record RefusesLineOf (S K : Type 0) (t : Talker S K) (old new : TalkState S K) (number : ℕ) : Type 0 where
  pub lines : List (List ℕ)
  pub last : TalkState S K
  pub answered : AnswersAll t lines old last
  pub count : number ≡ length lines + 1
  pub refused : RefusesNext S K t last new

-- lines are answered, and then the next can't be read whole: a beginning of it is taken, and all but what is left to be read is as it was
pub record FailsToRead (S K : Type 0) (t : Talker S K) (old new : TalkState S K) : Type 0 where
  pub lines : List (List ℕ)
  pub last : TalkState S K
  pub answered : AnswersAll t lines old last
  pub line : List ℕ
  pub taken : TakesPart last.input new.input line
  pub rest : new ≡ record last { input = new.input }

-- a line is read, and its answer fails on the way: what it brought is kept before anything is written, and a beginning of the answer is
abbrev pub BreaksNext : {S K : Type 0} → Talker S K → TalkState S K → TalkState S K → Type 0
BreaksNext t old new = (line : List ℕ) × ReadsLine old.input new.input line
    × BreaksOff t.station t.keeping t.lends line old.conversation new.conversation old.keeper new.keeper old.output new.output

-- lines are answered, and then the answer to one fails on the way
pub record Breaks (S K : Type 0) (t : Talker S K) (old new : TalkState S K) : Type 0 where
  pub lines : List (List ℕ)
  pub last : TalkState S K
  pub answered : AnswersAll t lines old last
  pub breaks : BreaksNext t last new

-- no line is left, and memory is refused while the station is given the loss of its line: nothing is kept or written
pub record CannotLose (S K : Type 0) (t : Talker S K) (old new : TalkState S K) : Type 0 where
  pub lines : List (List ℕ)
  pub last : TalkState S K
  pub answered : AnswersAll t lines old last
  pub refused : RefusesLine S t.station last.conversation (lost_at last.conversation.clock.now) new.conversation
  pub keeper : new.keeper ≡ last.keeper
  pub output : new.output ≡ last.output

-- lines are answered, as many as are counted
pub record AnswersMost (S K : Type 0) (t : Talker S K) (old new : TalkState S K) : Type 0 where
  pub lines : List (List ℕ)
  pub answered : AnswersAll t lines old new
  pub count : length lines ≡ 2 ^ 64 - 2

-- how far a conversation is when it stops for a fault
abbrev pub StopsSo : {S K : Type 0} → Talker S K → TalkState S K → TalkState S K → ConverseFault → Type 0
StopsSo {S} {K} t old new (Line number) = RefusesLineOf S K t old new number
StopsSo {S} {K} t old new (Reader kind) = FailsToRead S K t old new
StopsSo {S} {K} t old new NoMemory = FailsToRead S K t old new ⊎ (CannotLose S K t old new ⊎ Breaks S K t old new)
StopsSo {S} {K} t old new (Writer kind) = Breaks S K t old new
StopsSo {S} {K} t old new TooManyLines = AnswersMost S K t old new

-- the fault of a conversation whose line of this number, from 1, isn't answered
abbrev pub unanswered : AnswerFault → ℕ → ConverseFault
unanswered NoLine number = Line number
unanswered NotHeld number = Line number
unanswered OutOfTime number = Line number
unanswered NoMemoryLeft number = NoMemory
unanswered (WriterFailed kind) number = Writer kind
