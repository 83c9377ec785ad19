-- The frames of two captures, one of each station of a call, in the order in which a picture shows them. A capture has no times: a frame of
-- the answerer comes after the first command that it can answer (ITU-T T.30, 5.2 and A.4).
use Rattle.std.specs.Prelude.{ℕ, ◌≡◌, [], ◌∷◌, Bool, true, false, cond, List, Option, Some, None, Result, Ok, Err, map, drop, option_map}
use Rattle.std.specs.List.{count_by, filter_map}
use Rattle.std.specs.Option.{is_none}
use Rattle.hdlc.specs.Gaps.{good}
use Rattle.line_sim.specs.Entries.{signal_fields, signal_kind}
use Rattle.line_sim.specs.declared.event.Entry.{Entry}
use Rattle.line_sim.specs.declared.event.Event.{Event}
use Rattle.line_sim.specs.declared.event.Event.TheVariants.{DeliverToAnswerer, DeliverToCaller}
use Rattle.line_sim.specs.declared.event.Kind.{Kind}
use Rattle.line_sim.specs.declared.event.Kind.TheVariants.{Dis, Dcs, Cfr, Ftt, Pps, Mcf, Ppr, Rnr, Rr}
use Rattle.raster.specs.Packed.{bits_of}
use Rattle.raster.specs.declared.packed.Order.{Order}
use Rattle.signals.specs.Reading.{read_content}
use Rattle.signals.specs.Signals.{PlainSignal}
use Rattle.signals.specs.declared.fault.SignalFault.{SignalFault}
use Rattle.signals.specs.declared.signal.Side.{Side}
use Rattle.signals.specs.declared.signal.Side.TheVariants.{Caller, Answerer}
use Rattle.stations.specs.declared.turn.Turn.TheVariants.{Silent}
use Rattle.call_pictures.specs.DrawnFields.{drawn_entry}
use Rattle.call_pictures.specs.declared.captured_call.Before.{Before}
use Rattle.call_pictures.specs.declared.captured_call.Before.TheVariants.{Nothing, Command, Answer}
use Rattle.call_pictures.specs.declared.captured_call.CapturedFrame.{CapturedFrame}
use Rattle.call_pictures.specs.declared.captured_call.CapturedFrames.{CapturedFrames}
use Rattle.call_pictures.specs.declared.captured_call.LineFrame.{LineFrame}

-- ---- the frames of a capture

-- the frame of what was read, if its signal is known: its kind, and what its information field says
abbrev pub read_frame : Result PlainSignal SignalFault → Option CapturedFrame
read_frame (Ok signal) = option_map (λ kind. record { kind = kind; fields = signal_fields signal }) (signal_kind signal)
read_frame (Err fault) = None

-- the frame of a content
abbrev pub content_frame : List ℕ → Option CapturedFrame
content_frame content = read_frame (read_content content)

-- a capture's good frames whose signal is known, in order: the kind of each, and what its information field says
abbrev pub frames_of : List (List ℕ) → List CapturedFrame
frames_of contents = filter_map content_frame contents

-- how many good frames there are beside those: their signal isn't known or can't be read
abbrev pub others_of : List (List ℕ) → ℕ
others_of contents = count_by (λ content. is_none (content_frame content)) contents

-- these are the frames of a capture with the bits in this order
abbrev pub AreFramesOf : Order → List ℕ → CapturedFrames → Type 0
AreFramesOf order octets frames = (frames.known.items ≡ frames_of (good (bits_of order octets)))
    × (frames.others ≡ others_of (good (bits_of order octets)))

-- ---- the order

-- a frame is what the answerer says after what is drawn last: DIS before any command, CFR and FTT after a DCS, and MCF, PPR and RNR after
-- a PPS or an RR
abbrev pub is_answer : Before → Kind → Bool
is_answer Nothing Dis = true
is_answer Answer Dis = true
is_answer (Command Dcs) Cfr = true
is_answer (Command Dcs) Ftt = true
is_answer (Command Pps) Mcf = true
is_answer (Command Pps) Ppr = true
is_answer (Command Pps) Rnr = true
is_answer (Command Rr) Mcf = true
is_answer (Command Rr) Ppr = true
is_answer (Command Rr) Rnr = true
is_answer before kind = false

-- a frame of the caller
abbrev pub of_caller : CapturedFrame → LineFrame
of_caller frame = record { from = Caller; frame = frame }

-- a frame of the answerer
abbrev pub of_answerer : CapturedFrame → LineFrame
of_answerer frame = record { from = Answerer; frame = frame }

-- the frame that is drawn next of those that both stations have left: the answerer's if it is an answer, else the caller's; the answerer's
-- if the caller has none left
abbrev pub next_frame : Before → List CapturedFrame → List CapturedFrame → Option LineFrame
next_frame before [] [] = None
next_frame before [] (frame ∷ answerer) = Some (of_answerer frame)
next_frame before (next ∷ caller) [] = Some (of_caller next)
next_frame before (next ∷ caller) (frame ∷ answerer) =
    cond (is_answer before frame.kind) (Some (of_answerer frame)) (Some (of_caller next))

-- what is drawn last, after a frame of a station
abbrev pub after_side : Side → Kind → Before
after_side Caller kind = Command kind
after_side Answerer kind = Answer

-- what is drawn last, after a frame
abbrev pub before_after : LineFrame → Before
before_after sent = after_side sent.from sent.frame.kind

-- the frames of a station that are left after a frame
abbrev pub left_after : Side → Side → List CapturedFrame → List CapturedFrame
left_after Caller Caller frames = drop 1 frames
left_after Answerer Answerer frames = drop 1 frames
left_after side from frames = frames

-- frames are those of both captures in the order in which they are drawn
abbrev pub AreInOrder : Before → List CapturedFrame → List CapturedFrame → List LineFrame → Type 0
AreInOrder before caller answerer [] = next_frame before caller answerer ≡ None
AreInOrder before caller answerer (sent ∷ later) = (next_frame before caller answerer ≡ Some sent)
    × AreInOrder (before_after sent) (left_after Caller sent.from caller) (left_after Answerer sent.from answerer) later

-- ---- the picture

-- a frame of a station comes to the other one
abbrev pub event_from : Side → Event
event_from Caller = DeliverToAnswerer
event_from Answerer = DeliverToCaller

-- what is drawn of a frame
abbrev pub entry_of : LineFrame → Entry
entry_of sent = record {
  event = event_from sent.from;
  item = Some sent.frame.kind;
  fields = sent.frame.fields;
  turn = Silent;
  fcds = 0;
  refused = false;
}

-- what is drawn of a frame, as a picture keeps it
abbrev pub drawn_of : LineFrame → Entry
drawn_of sent = drawn_entry (entry_of sent)

-- events are those of the frames of both captures, in the order in which they are drawn, each as a frame that comes
pub record IsDrawnOf (caller answerer : List CapturedFrame) (entries : List Entry) : Type 0 where
  pub frames : List LineFrame
  pub order : AreInOrder Nothing caller answerer frames
  pub each : entries ≡ map drawn_of frames
