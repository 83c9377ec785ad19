-- An answerer that hears all octets of a line, whoever sends them: what it is given, what it hears of it, and what it answers.
use Rattle.std.specs.Prelude.{ℕ, ◌≡◌, Bool, true, List, [], ◌∷◌, ◌++◌, length, drop, Option, Result, Ok, Err}
use Rattle.std.specs.List.{Contains}
use Rattle.raster.specs.Packed.{bits_of}
use Rattle.raster.specs.Pages.{PagePixels}
use Rattle.raster.specs.declared.packed.Order.TheVariants.{LsbFirst}
use Rattle.hdlc.specs.DeframerState.{DeframerState, IsAfter}
use Rattle.hdlc.specs.Gaps.{good}
use Rattle.signals.specs.Agreement.{allowed}
use Rattle.signals.specs.Reading.{read_content}
use Rattle.signals.specs.Signals.{PlainSignal, dcs, fcd}
use Rattle.signals.specs.declared.fault.SignalFault.{SignalFault}
use Rattle.signals.specs.declared.params.Caps.{Caps}
use Rattle.signals.specs.declared.params.Params.{Params}
use Rattle.stations.specs.AnswererStep.{Answerer, new_answerer}
use Rattle.stations.specs.Blocks.{joined}
use Rattle.stations.specs.CallerStep.{no_params}
use Rattle.stations.specs.Inputs.{AnswererInput, listens, trains, t2, t1, is_busy}
use Rattle.stations.specs.Laws.{Each}
use Rattle.stations.specs.Layers.{IsPageOf}
use Rattle.stations.specs.Runs.{answerer_after, answerer_turns}
use Rattle.stations.specs.declared.turn.End.{End}
use Rattle.stations.specs.declared.turn.Turn.{Turn}
use Rattle.stations.specs.declared.turn.Turn.TheVariants.{Dis}
use Rattle.line_sim.specs.declared.stream.Answered.{Answered}
use Rattle.line_sim.specs.declared.stream.Feed.{Feed}
use Rattle.line_sim.specs.declared.stream.Feed.TheVariants.{Octets, Training, T1, T2, Busy}

-- a feed as plain values, which an answerer over a line is given: octets of the line, the octets of a training check, a timer that is over,
-- or that it is busy or ready
pub data PlainFeed : Type 0 where
  line : List ℕ → PlainFeed
  check : List ℕ → PlainFeed
  first_timer second_timer : PlainFeed
  busy : Bool → PlainFeed

-- the plain value of a feed of the code
abbrev pub plain_feed : Feed → PlainFeed
plain_feed (Octets octets) = line octets.now
plain_feed (Training octets) = check octets.now
plain_feed T1 = first_timer
plain_feed T2 = second_timer
plain_feed (Busy is) = busy is

-- the octets of the line in a feed
abbrev pub octets_in : PlainFeed → List ℕ
octets_in (line octets) = octets
octets_in _ = []

-- all octets of the line in feeds, joined in order
abbrev pub line_octets : List PlainFeed → List ℕ
line_octets [] = []
line_octets (feed ∷ feeds) = octets_in feed ++ line_octets feeds

-- the contents of the good frames in octets of the line, on which the least significant bit of each octet is sent first
unfoldable pub contents : List ℕ → List (List ℕ)
contents octets = good (bits_of LsbFirst octets)

-- the contents of frames that octets make good when they come after those before
unfoldable pub new_contents : List ℕ → List ℕ → List (List ℕ)
new_contents before octets = drop (length (contents before)) (contents (before ++ octets))

-- a signal that was read is heard; a content that is refused is left out
abbrev pub heard_if : Result PlainSignal SignalFault → List AnswererInput
heard_if (Ok signal) = listens signal ∷ []
heard_if (Err fault) = []

-- the signals that contents say are heard in order
abbrev pub heard : List (List ℕ) → List AnswererInput
heard [] = []
heard (content ∷ contents) = heard_if (read_content content) ++ heard contents

-- The inputs that a feed is to the answerer, after octets of the line. Each signal that a new content says is heard at once, and a content
-- that says none is left out.
abbrev pub feed_inputs : List ℕ → PlainFeed → List AnswererInput
feed_inputs before (line octets) = heard (new_contents before octets)
feed_inputs before (check octets) = trains octets ∷ []
feed_inputs before first_timer = t1 ∷ []
feed_inputs before second_timer = t2 ∷ []
feed_inputs before (busy is) = is_busy is ∷ []

-- the inputs that feeds are, after octets of the line
abbrev pub inputs_after : List ℕ → List PlainFeed → List AnswererInput
inputs_after before [] = []
inputs_after before (feed ∷ feeds) = feed_inputs before feed ++ inputs_after (before ++ octets_in feed) feeds

-- the inputs that feeds are from the start
abbrev pub inputs_of : List PlainFeed → List AnswererInput
inputs_of feeds = inputs_after [] feeds

-- what an answerer gave back as plain values: its turns, the pages stored, and why the call has ended, if it has
pub record PlainAnswered : Type 0 where
  pub turns : List Turn
  pub pages : List PagePixels
  pub ending : Option End

-- the plain value of what the code's answerer gave back
abbrev pub plain_answered : Answered → PlainAnswered
plain_answered answered = record { turns = answered.turns.items; pages = answered.pages.items; ending = answered.ending }

-- a new answerer of these capabilities
abbrev pub starts : Caps → Answerer
starts caps = new_answerer caps no_params

-- what a new answerer makes of feeds: the turns are its DIS and one for each input; the pages that it has stored; and its end
abbrev pub answers : Caps → List PlainFeed → PlainAnswered
answers caps feeds = record {
  turns = Dis ∷ answerer_turns (inputs_of feeds) (starts caps);
  pages = (answerer_after (inputs_of feeds) (starts caps)).pages;
  ending = (answerer_after (inputs_of feeds) (starts caps)).ending;
}

-- The law: octets of the line that come in two feeds are answered as if they came in one.
abbrev pub CutsChangeNothing : Type 0
CutsChangeNothing =
    (caps : Caps) (before after : List PlainFeed) (front rest : List ℕ) →
    answers caps (before ++ line front ∷ line rest ∷ after) ≡ answers caps (before ++ line (front ++ rest) ∷ after)

-- one of some contents says a signal
pub record IsSaid (contents : List (List ℕ)) (signal : PlainSignal) : Type 0 where
  pub content : List ℕ
  pub among : Contains contents content
  pub says : read_content content ≡ Ok signal

-- octets are the data field of an FCD among contents
abbrev pub IsDataField : List (List ℕ) → List ℕ → Type 0
IsDataField contents octets = (number : ℕ) × IsSaid contents (fcd number octets)

-- octets are joined from data fields of FCDs that are said by contents
pub record AreFieldsJoined (contents : List (List ℕ)) (octets : List ℕ) : Type 0 where
  pub fields : List (List ℕ)
  pub said : Each (IsDataField contents) fields
  pub joined_is : octets ≡ joined fields

-- The page is what octets read as: octets joined from data fields of FCDs among the contents, by the grammar of their code and by the
-- parameters of a DCS among the contents that the answerer allows.
pub record IsStored (caps : Caps) (contents : List (List ℕ)) (page : PagePixels) : Type 0 where
  pub params : Params
  pub dcs_said : IsSaid contents (dcs params)
  pub dcs_allowed : allowed caps params ≡ true
  pub octets : List ℕ
  pub octets_joined : AreFieldsJoined contents octets
  pub reads : IsPageOf params octets page

-- The law, for any peer: each page stored is read from octets that are joined from data fields of FCDs in good frames among all octets of
-- the line, by the parameters of an allowed DCS among them.
abbrev pub StoredIsSaid : Type 0
StoredIsSaid = (caps : Caps) (feeds : List PlainFeed) → Each (IsStored caps (contents (line_octets feeds))) (answers caps feeds).pages

-- a deframer has taken octets of the line, and has handed out each good content
abbrev pub HasHeard : DeframerState → List ℕ → Type 0
HasHeard framing octets = IsAfter framing (bits_of LsbFirst octets) (length (contents octets))

-- inputs were heard one after the other: the answerer and all turns afterwards
pub record Hears (inputs : List AnswererInput) (old new : Answerer) (before turns : List Turn) : Type 0 where
  pub station : new ≡ answerer_after inputs old
  pub turns_are : turns ≡ before ++ answerer_turns inputs old

-- a feed was taken: the deframer has taken its octets, and its inputs were heard
pub record TakesFeed (octets : List ℕ) (feed : PlainFeed) (framing : DeframerState) (old new : Answerer) (before turns : List Turn) : Type 0
  where
    pub taken : HasHeard framing (octets ++ octets_in feed)
    pub heard : Hears (feed_inputs octets feed) old new before turns
