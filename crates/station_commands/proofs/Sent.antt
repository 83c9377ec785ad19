-- Where no time is named by which an answer may be late, none is withheld.
use Rattle.std.proofs.Common.{◌≡◌, ◌∙◌, ◌∷◌, [], ℕ, Bool, true, false, List, Option, Some, None, inl, inr, ap, refl}
use Rattle.conversations.specs.Conversations.{Behaviour, ConversationFields, PlainGiven, SawGiven, frames, input, losing, nothing, stopping}
use Rattle.conversations.specs.Conversing.{FollowedAll, TalkState, Talker}
use Rattle.conversations.specs.Talking.{Answers, Follows, JudgesTurn, Keeping, NotesLine, SeesBursts}
use Rattle.hdlc.specs.DeframerState.{DeframerState}
use Rattle.signals.specs.Reading.{read_content}
use Rattle.signals.specs.declared.signal.Side.{Side}
use Rattle.station_commands.specs.Following.{NotesFields, notes_heard, notes_said, station_follower}
use Rattle.station_commands.specs.Lateness.{is_late}
use Rattle.station_commands.specs.Sent.{AllSent}
use Rattle.station_commands.specs.declared.station.lateness.Lateness.{Lateness}
use Rattle.stations.specs.Bursts.{PlainBurst, items_of}
use Rattle.stations.specs.Inputs.{PlainItem, checked, framed}
use Rattle.terminals.specs.Speaking.{BurstsOf}
use Rattle.terminals.specs.Watching.{SawFirst, SawItem, SawItems, saw_all}
use Rattle.terminals.specs.declared.sending.SentBurst.{SentBurst}

-- how late an answer may come, by a follower
abbrev most_of : NotesFields → Option ℕ
most_of notes = notes.lateness.most

-- what comes, and what is heard and said, leaves how late an answer may come
line_begun : (begun : Bool) (old : NotesFields) (at : ℕ) (new : NotesFields) → NotesLine station_follower.notes begun old at new →
    most_of new ≡ most_of old
line_begun true old at new h = ap most_of h.first
line_begun false old at new h = ap most_of h

all_heard : (contents : List (List ℕ)) (old : NotesFields) → most_of (saw_all notes_heard old contents) ≡ most_of old
all_heard [] old = refl
all_heard (content ∷ contents) old = all_heard contents (notes_heard old content (read_content content))

line_heard : (framing : DeframerState) (given : PlainGiven) (old new : NotesFields) → SawGiven notes_heard framing given old new →
    most_of new ≡ most_of old
line_heard framing nothing old new h = ap most_of h
line_heard framing stopping old new h = ap most_of h
line_heard framing losing old new h = ap most_of h
line_heard framing (frames octets) old new h = ap most_of h.1 ∙ all_heard h.0 old
line_heard framing (input x) old new h = ap most_of h

item_said : (side : Side) (item : PlainItem) (following : List PlainItem) (old new : NotesFields) →
    SawItem notes_said side item following old new → most_of new ≡ most_of old
item_said side (framed signal) following old new (inl h) = ap most_of h.1
item_said side (framed signal) following old new (inr h) = ap most_of h.1
item_said side (checked octets) following old new h = ap most_of h

items_said : (side : Side) (items later : List PlainItem) (old new : NotesFields) → SawItems notes_said side items later old new →
    most_of new ≡ most_of old
items_said side [] later old new h = ap most_of h
items_said side (item ∷ items) later old new h =
    items_said side items later h.0 new h.2 ∙ item_said side item _ old h.0 h.1

first_said : (side : Side) (bursts : List PlainBurst) (old new : NotesFields) → SawFirst notes_said side bursts old new →
    most_of new ≡ most_of old
first_said side [] old new h = ap most_of h
first_said side (burst ∷ later) old new h = items_said side burst.items (items_of later) old new h

bursts_said : {S : Type 0} (side : Side) (lends : BurstsOf S) (old : ConversationFields S) (bursts : List SentBurst)
    (new : ConversationFields S) (first last : NotesFields) → SeesBursts station_follower.saw_said side lends old bursts new first last →
    most_of last ≡ most_of first
bursts_said side lends old [] new first last h = ap most_of h.1
bursts_said side lends old (burst ∷ bursts) new first last h =
    bursts_said side lends h.0 bursts new h.1 last h.4 ∙ first_said side _ first h.1 h.3.2

none_late : (some : Bool) (old : NotesFields) (at : ℕ) (late : Bool) (new : NotesFields) →
    JudgesTurn station_follower.judges some old at late new → most_of old ≡ None → (late ≡ false) × (most_of new ≡ most_of old)
none_late true old at late new h none = (
  h.late_is ∙ ap (λ (most : Option ℕ). is_late most old.lateness.first h.met) none,
  ap most_of h.stays,
)
none_late false old at late new h none = (h.0, ap most_of h.1)

one_sent : {S K : Type 0} {b : Behaviour S} {k : Keeping S K} {lends : BurstsOf S} {line : List ℕ} {old new : ConversationFields S}
    {keeper kept_in : K} {before after : Option (List ℕ)} {kept over : Bool}
    (a : Answers S K b k lends line old new keeper kept_in before after kept over) (first last : NotesFields) →
    Follows station_follower a first last → most_of first ≡ None → (a.late ≡ false) × (most_of last ≡ None)
one_sent {b = b} {lends = lends} {old = old} a first last h none =
    let come : most_of h.come ≡ None = line_begun old.begun first a.timed.at h.come h.notes ∙ none in
    let heard : most_of h.heard ≡ None = line_heard old.terminal.framing _ h.come h.heard h.sees.saw_so ∙ come in
    let judged = none_late h.some h.heard a.timed.at a.late h.asked h.judges heard in
    (judged.0, bursts_said b.side lends a.left a.writes.bursts h.given h.asked last h.says ∙ (judged.1 ∙ heard))

pub all_sent : {S K : Type 0} (t : Talker S K) (lines : List (List ℕ)) (old new : TalkState S K) (first last : NotesFields) →
    most_of first ≡ None → (h : FollowedAll t station_follower lines old new first last) → AllSent t lines old new first last h
all_sent t [] old new first last none h = tt
all_sent t (line ∷ lines) old new first last none h =
    let one = one_sent h.2.0.answered first h.1 h.2.1 none in
    (one.0, all_sent t lines h.0 new h.1 last one.1 h.3)
