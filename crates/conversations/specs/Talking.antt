-- The answer to a line: what the station makes of it, and the lines that are written.
use Rattle.std.specs.Prelude.{ℕ, ◌≡◌, ◌⊎◌, ◌++◌, ◌∷◌, [], ◌↔◌, Bool, true, false, IsTrue, IsSome, List, Option, Some, None, Ok, flat_map}
use Rattle.std.specs.Io.KnownBytes.{Appends}
use Rattle.conversations.specs.Conversations.{Behaviour, ConversationFields, IsOutOfTime, RefusesLine, SawLine, SendsIfBegun, TakesLine, next_quiet, refused_so}
use Rattle.conversations.specs.Lines.{Says, SaysNothing}
use Rattle.conversations.specs.Writing.{AppendsPart, burst_line, on_lines, rest_lines}
use Rattle.conversations.specs.declared.line.Said.{Said}
use Rattle.conversations.specs.declared.line.TimedLine.{TimedLine}
use Rattle.conversations.specs.declared.talking.AnswerFault.{AnswerFault}
use Rattle.conversations.specs.declared.talking.AnswerFault.TheVariants.{NoLine, NotHeld, OutOfTime, NoMemory, Writer}
use Rattle.signals.specs.declared.signal.Side.{Side}
use Rattle.terminals.specs.Sending.{HasBurst}
use Rattle.terminals.specs.Speaking.{BurstsOf}
use Rattle.terminals.specs.Watching.{SawSent, SeesOne, SeesSaid}
use Rattle.terminals.specs.declared.sending.SentBurst.{SentBurst}
use Rattle.terminals.specs.declared.stopping.Shown.{Shown}

-- the next burst is given, or none is left
abbrev pub GivesNext : {S : Type 0} → Side → BurstsOf S → ConversationFields S → Option SentBurst → ConversationFields S → Type 0
GivesNext {S} side lends old sent new = SendsIfBegun {E = Unit {0}} side lends old.begun old new (Ok sent)

-- bursts are given one after the other, until none is left
abbrev pub GivesAll : {S : Type 0} → Side → BurstsOf S → ConversationFields S → List SentBurst → ConversationFields S → Type 0
GivesAll side lends old [] new = GivesNext side lends old None new
GivesAll {S} side lends old (burst ∷ bursts) new =
    (mid : ConversationFields S) × GivesNext side lends old (Some burst) mid × GivesAll side lends mid bursts new

-- bursts are given one after the other, and others may be left
abbrev pub GivesSome : {S : Type 0} → Side → BurstsOf S → ConversationFields S → List SentBurst → ConversationFields S → Type 0
GivesSome side lends old [] new = new ≡ old
GivesSome {S} side lends old (burst ∷ bursts) new =
    (mid : ConversationFields S) × GivesNext side lends old (Some burst) mid × GivesSome side lends mid bursts new

-- what a conversation says after its bursts, by what its station shows
abbrev pub rest_text : {S : Type 0} → Side → ConversationFields S → Shown → List ℕ
rest_text side c shown =
    rest_lines shown.end (on_lines c.says c.begun shown.listens (next_quiet c.begun side shown c.clock c.durations))

-- the call of a conversation is over, or isn't, and these are the lines after its bursts
abbrev pub SaysRest : {S : Type 0} → Side → (S → Shown → Type 0) → ConversationFields S → Bool → List ℕ → Type 0
SaysRest side shows c over text =
    (shown : Shown) × shows c.terminal.speaking.station shown × (IsTrue over ↔ IsSome shown.end) × (text ≡ rest_text side c shown)

-- all bursts that are left are given, one after the other until there is none, and the lines of the answer are written: one for each burst,
-- and after them what the station says beside, and the word
pub record WritesTurn (S : Type 0) (side : Side) (lends : BurstsOf S) (shows : S → Shown → Type 0) (old new : ConversationFields S)
    (before after : Option (List ℕ)) (over : Bool) : Type 0 where
  pub bursts : List SentBurst
  pub gives : GivesAll side lends old bursts new
  pub rest : List ℕ
  pub says_rest : SaysRest side shows new over rest
  pub writes : Appends before after (flat_map (burst_line old.says.frames) bursts ++ rest)

-- bursts of a turn are given, and nothing is said after them while others may be left; or all are, and this is said after them
abbrev pub GivesSoFar : {S : Type 0} → Side → BurstsOf S → (S → Shown → Type 0) → ConversationFields S → List SentBurst →
    ConversationFields S → List ℕ → Type 0
GivesSoFar side lends shows old bursts new rest = (GivesSome side lends old bursts new × (rest ≡ []))
    ⊎ (GivesAll side lends old bursts new × ((over : Bool) × SaysRest side shows new over rest))

-- a turn is written in part: bursts that are left are given, some or all, and of their lines, with what is said after all of them, a
-- beginning is written and nothing else
pub record WritesPart (S : Type 0) (side : Side) (lends : BurstsOf S) (shows : S → Shown → Type 0) (old new : ConversationFields S)
    (before after : Option (List ℕ)) : Type 0 where
  pub bursts : List SentBurst
  pub rest : List ℕ
  pub gives : GivesSoFar side lends shows old bursts new rest
  pub writes : AppendsPart before after (flat_map (burst_line old.says.frames) bursts ++ rest)

-- a relation that says how what a line brought is kept: the keeper and the conversation before, what the line says, both after, and if all
-- was kept
abbrev pub KeepsOf : Type 0 → Type 0 → Type 1
KeepsOf S K = K → ConversationFields S → Said → K → ConversationFields S → Bool → Type 0

-- a keeper as a conversation knows it: how it keeps what a line brought, which lines it can take, and what it says of what it keeps
pub record Keeping (S K : Type 0) : Type 1 where
  pub keeps : KeepsOf S K
  pub takes : K → Said → Bool
  pub tells : K → List ℕ

-- a keeper, of its three parts
abbrev pub keeping : {S K : Type 0} → KeepsOf S K → (K → Said → Bool) → (K → List ℕ) → Keeping S K
keeping keeps takes tells = record { keeps = keeps; takes = takes; tells = tells }

-- an answer is withheld: its bursts are given and not sent; or it isn't
abbrev pub Withholds : {S : Type 0} → Side → BurstsOf S → ConversationFields S → Bool → ConversationFields S → Type 0
Withholds side lends old false new = new ≡ old
Withholds side lends old true new = (bursts : List SentBurst) × GivesAll side lends old bursts new

-- A line is answered: it is taken, the call is stopped if it is refused, what it brought is kept, and only then is the answer
-- written: what the keeper says, the line of each burst that is left, and the word. If the answer is too late its bursts are withheld.
pub record Answers (S K : Type 0) (b : Behaviour S) (k : Keeping S K) (lends : BurstsOf S) (line : List ℕ)
    (old new : ConversationFields S) (keeper kept_in : K) (before after : Option (List ℕ)) (kept over : Bool) : Type 0 where
  pub timed : TimedLine
  pub heard : ConversationFields S
  pub ready : ConversationFields S
  pub late : Bool
  pub left : ConversationFields S
  pub told : Option (List ℕ)
  pub says : Says line timed
  pub can_come : k.takes keeper timed.said ≡ true
  pub takes : TakesLine S b old timed heard
  pub keeps_so : k.keeps keeper (refused_so b heard) timed.said kept_in ready kept
  pub tells : Appends before told (k.tells kept_in)
  pub withholds : Withholds b.side lends ready late left
  pub writes : WritesTurn S b.side lends b.shows left new told after over

-- A follower as a conversation knows it: what it is after a frame that the station heard, and after one that it said; what it notes of a line
-- that comes at a time; and whether it finds that the answer to the line of a time comes too late.
pub record Following (F : Type 0) : Type 1 where
  pub saw : SeesOne F
  pub saw_said : SeesSaid F
  pub notes : F → ℕ → F → Type 0
  pub judges : F → ℕ → Bool → F → Type 0

-- a follower, of its four parts
abbrev pub following :
    {F : Type 0} → SeesOne F → SeesSaid F → (F → ℕ → F → Type 0) → (F → ℕ → Bool → F → Type 0) → Following F
following saw saw_said notes judges = record { saw = saw; saw_said = saw_said; notes = notes; judges = judges }

-- a follower notes that a line of a time comes, if the station has begun (Bool)
abbrev pub NotesLine : {F : Type 0} → (F → ℕ → F → Type 0) → Bool → F → ℕ → F → Type 0
NotesLine notes true first at last = notes first at last
NotesLine notes false first at last = last ≡ first

-- a follower finds that the answer to the line of a time comes too late, or that it doesn't
abbrev pub FindsLate : {F : Type 0} → (F → ℕ → Bool → F → Type 0) → F → ℕ → Bool → F → Type 0
FindsLate judges first at late last = judges first at late last

-- a follower is asked whether the answer to the line of a time comes too late, if a burst is left (first Bool); and it does, or doesn't
abbrev pub JudgesTurn : {F : Type 0} → (F → ℕ → Bool → F → Type 0) → Bool → F → ℕ → Bool → F → Type 0
JudgesTurn judges true first at late last = FindsLate judges first at late last
JudgesTurn judges false first at late last = (late ≡ false) × (last ≡ first)

-- bursts are given one after the other, and a follower sees the frames of each
abbrev pub SeesBursts :
    {S F : Type 0} → SeesSaid F → Side → BurstsOf S → ConversationFields S → List SentBurst → ConversationFields S → F → F → Type 0
SeesBursts saw side lends old [] new first last = (new ≡ old) × (last ≡ first)
SeesBursts {S} {F} saw side lends old (burst ∷ bursts) new first last =
    (mid : ConversationFields S) × (seen : F) × GivesNext side lends old (Some burst) mid ×
    SawSent {E = Unit {0}} saw side lends old.terminal.speaking first seen (Ok (Some burst)) ×
    SeesBursts saw side lends mid bursts new seen last

-- What a follower notes of a line that is answered: that it comes, each good frame that the station hears of it, and each frame of the bursts
-- that are sent. The answer is withheld if, and only if, the follower finds that it comes too late.
pub record Follows {S K F : Type 0} (f : Following F) {b : Behaviour S} {k : Keeping S K} {lends : BurstsOf S} {line : List ℕ}
    {old new : ConversationFields S} {keeper kept_in : K} {before after : Option (List ℕ)} {kept over : Bool}
    (a : Answers S K b k lends line old new keeper kept_in before after kept over) (first last : F) : Type 0 where
  pub come : F
  pub heard : F
  pub asked : F
  pub some : Bool
  pub given : ConversationFields S
  pub notes : NotesLine f.notes old.begun first a.timed.at come
  pub sees : SawLine S F b f.saw old a.timed come heard
  pub has_burst : HasBurst lends a.ready.terminal.speaking some
  pub judges : JudgesTurn f.judges some heard a.timed.at a.late asked
  pub says : SeesBursts f.saw_said b.side lends a.left a.writes.bursts given asked last

-- a line is answered, and a follower notes it
abbrev pub AnswersFollowed :
    {S K F : Type 0} → Following F → Behaviour S → Keeping S K → BurstsOf S → List ℕ → ConversationFields S → ConversationFields S →
    K → K → Option (List ℕ) → Option (List ℕ) → F → F → Bool → Bool → Type 0
AnswersFollowed {S} {K} f b k lends line old new keeper kept_in before after first last kept over =
    (a : Answers S K b k lends line old new keeper kept_in before after kept over) × Follows f a first last

-- the bursts that are left are given and the lines of the answer written, and a follower sees the frames of each burst
abbrev pub WritesFollowed :
    {S F : Type 0} → SeesSaid F → Side → BurstsOf S → (S → Shown → Type 0) → ConversationFields S → ConversationFields S →
    Option (List ℕ) → Option (List ℕ) → F → F → Bool → Type 0
WritesFollowed {S} saw side lends shows old new before after first last over =
    (turn : WritesTurn S side lends shows old new before after over) × (given : ConversationFields S) ×
    SeesBursts saw side lends old turn.bursts given first last

-- what the keeper says was written in part, and nothing else: bursts may have been given, but none was sent
abbrev pub TellsPart : {S K : Type 0} → Behaviour S → Keeping S K → BurstsOf S → ConversationFields S → ConversationFields S → K →
    Option (List ℕ) → Option (List ℕ) → Type 0
TellsPart b k lends ready new kept_in before after =
    AppendsPart before after (k.tells kept_in) × ((bursts : List SentBurst) × GivesSome b.side lends ready bursts new)

-- all that the keeper says was written, and then, once an answer that is late was withheld, the turn in part
pub record TellsAll (S K : Type 0) (b : Behaviour S) (k : Keeping S K) (lends : BurstsOf S) (ready new : ConversationFields S) (kept_in : K)
    (before after : Option (List ℕ)) : Type 0 where
  pub late : Bool
  pub left : ConversationFields S
  pub told : Option (List ℕ)
  pub tells : Appends before told (k.tells kept_in)
  pub withholds : Withholds b.side lends ready late left
  pub writes : WritesPart S b.side lends b.shows left new told after

-- A line was taken, and what it brought was kept, all of it or not. Then the answer failed: a beginning of it was written, and nothing else.
pub record KeepsLine (S K : Type 0) (b : Behaviour S) (k : Keeping S K) (lends : BurstsOf S) (line : List ℕ)
    (old new : ConversationFields S) (keeper kept_in : K) (before after : Option (List ℕ)) : Type 0 where
  pub timed : TimedLine
  pub heard : ConversationFields S
  pub ready : ConversationFields S
  pub kept : Bool
  pub says : Says line timed
  pub can_come : k.takes keeper timed.said ≡ true
  pub takes : TakesLine S b old timed heard
  pub keeps_so : k.keeps keeper (refused_so b heard) timed.said kept_in ready kept
  pub writes : TellsPart b k lends ready new kept_in before after ⊎ TellsAll S K b k lends ready new kept_in before after

-- nothing was done but that the line may have been heard in part, since memory was refused
abbrev pub KeepsNothing : {S K : Type 0} → Behaviour S → List ℕ → ConversationFields S → ConversationFields S → K → K →
    Option (List ℕ) → Option (List ℕ) → Type 0
KeepsNothing {S} b line old new keeper kept_in before after = (kept_in ≡ keeper) × (after ≡ before)
    × ((new ≡ old) ⊎ ((timed : TimedLine) × Says line timed × RefusesLine S b old timed new))

-- An answer failed on the way. What the line brought was kept before anything was written: nothing was kept, and nothing written; or it was
-- kept, and then a beginning of the answer was written.
abbrev pub BreaksOff : {S K : Type 0} → Behaviour S → Keeping S K → BurstsOf S → List ℕ → ConversationFields S → ConversationFields S →
    K → K → Option (List ℕ) → Option (List ℕ) → Type 0
BreaksOff {S} {K} b k lends line old new keeper kept_in before after =
    KeepsNothing b line old new keeper kept_in before after ⊎ KeepsLine S K b k lends line old new keeper kept_in before after

-- why octets aren't answered, by what became of it: they are no line of a station, or no line that can come now, or their time can't follow;
-- or the answer failed on the way
abbrev pub IsNoAnswer : {S K : Type 0} → Behaviour S → Keeping S K → BurstsOf S → List ℕ → ConversationFields S →
    ConversationFields S → K → K → Option (List ℕ) → Option (List ℕ) → AnswerFault → Type 0
IsNoAnswer b k lends line old new keeper kept_in before after NoLine = SaysNothing line
IsNoAnswer b k lends line old new keeper kept_in before after NotHeld =
    (timed : TimedLine) × Says line timed × (k.takes keeper timed.said ≡ false)
IsNoAnswer b k lends line old new keeper kept_in before after OutOfTime = (timed : TimedLine) × Says line timed × IsOutOfTime old timed
IsNoAnswer b k lends line old new keeper kept_in before after NoMemory = BreaksOff b k lends line old new keeper kept_in before after
IsNoAnswer b k lends line old new keeper kept_in before after (Writer kind) = BreaksOff b k lends line old new keeper kept_in before after

-- octets were refused before anything was done: they are no line, or one that can't come now
abbrev pub is_refused : AnswerFault → Bool
is_refused NoLine = true
is_refused NotHeld = true
is_refused OutOfTime = true
is_refused NoMemory = false
is_refused (Writer kind) = false
