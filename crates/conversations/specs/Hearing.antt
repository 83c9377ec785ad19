-- What a station hears of a carrier of the other side (T.30, 5.3 and Annex A).
use Rattle.std.specs.Prelude.{ℕ, ◌≡◌, ◌≢◌, ◌⊎◌, ◌↔◌, Bool, true, cond, nat_eq, Option, Some, None}
use Rattle.conversations.specs.declared.carrier.Channel.{Channel}
use Rattle.conversations.specs.declared.carrier.Channel.TheVariants.{V21 as ByV21, Message}
use Rattle.conversations.specs.declared.carrier.Kind.{Kind}
use Rattle.conversations.specs.declared.carrier.Kind.TheVariants.{Frames, Check}
use Rattle.conversations.specs.declared.hearing.Expected.{Expected}
use Rattle.conversations.specs.declared.hearing.Heard.{Heard}
use Rattle.conversations.specs.declared.hearing.Heard.TheVariants.{Frames as HeardFrames, Check as HeardCheck, Nothing}
use Rattle.conversations.specs.declared.line.Said.{Said}
use Rattle.conversations.specs.declared.line.Said.TheVariants.{Received}
use Rattle.signals.specs.declared.params.Speed.{Speed}
use Rattle.signals.specs.declared.params.Speed.TheVariants.{V27At2400, V27At4800, V29At7200, V29At9600, V17At7200, V17At9600, V17At12000}
use Rattle.signals.specs.declared.params.Speed.TheVariants.{V17At14400}
use Rattle.stations.specs.declared.listening.Listening.{Listening}
use Rattle.stations.specs.declared.listening.Listening.TheVariants.{V21, Training, V21OrPage, V21ThenPage}

-- a speed's place among the eight
abbrev pub place_of : Speed → ℕ
place_of V27At2400 = 0
place_of V27At4800 = 1
place_of V29At7200 = 2
place_of V29At9600 = 3
place_of V17At7200 = 4
place_of V17At9600 = 5
place_of V17At12000 = 6
place_of V17At14400 = 7

-- two speeds are the same
abbrev pub same_speed : Speed → Speed → Bool
same_speed speed other = nat_eq (place_of speed) (place_of other)

-- a training check is heard if one at its speed is awaited
abbrev pub check_heard : Listening → Speed → Heard
check_heard V21 speed = Nothing
check_heard (Training agreed) speed = cond (same_speed speed agreed) HeardCheck Nothing
check_heard (V21OrPage agreed) speed = Nothing
check_heard (V21ThenPage agreed) speed = Nothing

-- frames at a message speed are heard if a page at that speed is awaited, also if V.21 is to come first
abbrev pub page_heard : Listening → Speed → Heard
page_heard V21 speed = Nothing
page_heard (Training agreed) speed = Nothing
page_heard (V21OrPage agreed) speed = cond (same_speed speed agreed) HeardFrames Nothing
page_heard (V21ThenPage agreed) speed = cond (same_speed speed agreed) HeardFrames Nothing

-- what bits of a kind by a carrier are to a station: frames by V.21 always, a training check and the frames of a page if they are awaited
-- at that speed
abbrev pub heard_as : Listening → Channel → Kind → Heard
heard_as listens ByV21 Frames = HeardFrames
heard_as listens ByV21 Check = Nothing
heard_as listens (Message speed) Frames = page_heard listens speed
heard_as listens (Message speed) Check = check_heard listens speed

-- what a line brings to a station that listens so: nothing before it has begun
abbrev pub heard_in : Bool → Listening → Said → Heard
heard_in true listens (Received channel kind bits octets) = heard_as listens channel kind
heard_in begun listens said = Nothing

-- what is expected first: a training check or a page before V.21, unless V.21 comes first
abbrev pub expected_first : Listening → Expected
expected_first V21 = record { channel = ByV21; kind = Frames }
expected_first (Training speed) = record { channel = Message speed; kind = Check }
expected_first (V21OrPage speed) = record { channel = Message speed; kind = Frames }
expected_first (V21ThenPage speed) = record { channel = ByV21; kind = Frames }

-- what is expected after it, or in its place: V.21 after a training check or a page, and a page after V.21
abbrev pub expected_then : Listening → Option Expected
expected_then V21 = None
expected_then (Training speed) = Some (record { channel = ByV21; kind = Frames })
expected_then (V21OrPage speed) = Some (record { channel = ByV21; kind = Frames })
expected_then (V21ThenPage speed) = Some (record { channel = Message speed; kind = Frames })

-- a station expects this, first or then
abbrev pub IsExpected : Listening → Expected → Type 0
IsExpected listens it = (it ≡ expected_first listens) ⊎ (Some it ≡ expected_then listens)

-- The law: a station expects what it hears, and nothing else.
abbrev pub ExpectsWhatIsHeard : Type 0
ExpectsWhatIsHeard = (listens : Listening) (it : Expected) → IsExpected listens it ↔ (heard_as listens it.channel it.kind ≢ Nothing)
