-- The octets that travel, and the signals that they say.
use Rattle.std.specs.Prelude.{ℕ, ◌≡◌, Bool, true, false, List, [], ◌∷◌, drop, slice_index_or, Option, Some, None, Result, Ok, Err}
use Rattle.raster.specs.Packed.{bits_of, FillsOctets}
use Rattle.raster.specs.declared.packed.Order.TheVariants.{LsbFirst}
use Rattle.hdlc.specs.Frames.{IsFrame}
use Rattle.hdlc.specs.Gaps.{good}
use Rattle.signals.specs.Reading.{read_content}
use Rattle.signals.specs.Signals.{PlainSignal, plain, fcd, rcp, dcn}
use Rattle.signals.specs.Writing.{IsWritable, content_of}
use Rattle.signals.specs.declared.fault.SignalFault.{SignalFault}
use Rattle.signals.specs.declared.signal.Side.{Side}
use Rattle.signals.specs.declared.signal.Side.TheVariants.{Caller, Answerer}
use Rattle.stations.specs.Inputs.{PlainItem, framed, checked}
use Rattle.stations.specs.Lending.{has_no_frame}
use Rattle.stations.specs.declared.lending.Item.{Item}
use Rattle.stations.specs.declared.lending.Item.TheVariants.{Frame, Training as CheckOf}
use Rattle.line_sim.specs.Entries.{fields_of, kind_of, signal_kind}
use Rattle.line_sim.specs.declared.call.Call.{Call}
use Rattle.line_sim.specs.declared.event.Kind.{Kind}
use Rattle.line_sim.specs.declared.event.Fields.{Fields}
use Rattle.line_sim.specs.declared.event.Form.{Form}
use Rattle.line_sim.specs.declared.event.Form.TheVariants.{Control, Page, Check}
use Rattle.line_sim.specs.declared.event.Kind.TheVariants.{Training, Fcd, Rcp}
use Rattle.line_sim.specs.declared.event.LineItem.{LineItem}

-- octets are the frame of a content, filled up with 0 bits to a whole octet
pub record IsFrameOf (octets content : List ℕ) : Type 0 where
  pub frame : List Bool
  pub is : IsFrame content frame
  pub filled : FillsOctets LsbFirst frame octets

-- The frame is the last that its station sends in a turn, which its control field says (T.30, 5.3.5): every frame but FCD and RCP.
abbrev pub is_final : PlainSignal → Bool
is_final (fcd number octets) = false
is_final rcp = false
is_final _ = true

-- An item is marked as the turn's last frame exactly if it is. Neither this nor the bit X is part of a signal, so a frame without them
-- would be heard alike, and the clauses of what is sent say both.
abbrev pub TellsFinal : Item → Type 0
TellsFinal (Frame signal last) = last ≡ is_final (plain signal)
TellsFinal (CheckOf count) = Unit {0}

-- of items each frame that no other one follows is final, and no other frame is
abbrev pub AreFinal : List PlainItem → Type 0
AreFinal [] = Unit {0}
AreFinal (framed signal ∷ items) = (has_no_frame items ≡ is_final signal) × AreFinal items
AreFinal (checked octets ∷ items) = AreFinal items

-- octets are the frame of what a station of this side writes of a signal: with the station's own X, and with the control field of a final
-- frame if it is one
pub record Carries (side : Side) (octets : List ℕ) (signal : PlainSignal) : Type 0 where
  pub writable : IsWritable signal
  pub sent : IsFrameOf octets (content_of signal side (is_final signal))

-- the signal that was read; DCN if the content was refused
abbrev pub signal_in : Result PlainSignal SignalFault → PlainSignal
signal_in (Ok signal) = signal
signal_in (Err fault) = dcn

-- the signal that the only frame in octets says
unfoldable pub signal_said : List ℕ → PlainSignal
signal_said octets = signal_in (read_content (slice_index_or (good (bits_of LsbFirst octets)) 0 []))

-- the item that octets of this kind are: a training check, or the frame of a signal
abbrev pub item_said : Kind → List ℕ → PlainItem
item_said Training octets = checked octets
item_said _ octets = framed (signal_said octets)

-- octets of a training check, or of a frame that says a signal of such a kind of a station
abbrev pub IsItem : Side → Kind → List ℕ → Type 0
IsItem side Training octets = Unit {0}
IsItem side kind octets = (signal : PlainSignal) × Carries side octets signal × (signal_kind signal ≡ Some kind)

-- octets of an item are kept together with what the information field of their frame says
abbrev pub IsKept : Side → Kind → Fields → List ℕ → Type 0
IsKept side kind fields octets = IsItem side kind octets × (fields ≡ fields_of (item_said kind octets))

-- octets as they are on the line: the frame of what the station that sends writes of the signal, or those of the training check
abbrev pub AreOctetsOf : Side → List ℕ → PlainItem → Type 0
AreOctetsOf side octets (framed signal) = Carries side octets signal
AreOctetsOf side octets (checked sent) = octets ≡ sent

-- The octets that come next to a station, of the items that the other station, of this side, sends: the frame of the first item's signal,
-- with that station's X and with the control field of a final frame if it is one; or the octets of its training check. None exactly if
-- nothing is under way.
abbrev pub ComeNext : Side → Option (List ℕ) → List PlainItem → Type 0
ComeNext side None items = items ≡ []
ComeNext side (Some octets) [] = ⊥
ComeNext side (Some octets) (item ∷ items) = AreOctetsOf side octets item

-- an item that is lent: it is of such a kind, and its octets are those on the line
abbrev pub IsLent : Side → LineItem → PlainItem → Type 0
IsLent side lent item = (kind_of item ≡ Some lent.kind) × AreOctetsOf side lent.octets.now item

-- the first of the items that a station sends is lent, or none if there is none
abbrev pub IsFirstLent : Side → Option LineItem → List PlainItem → Type 0
IsFirstLent side None items = items ≡ []
IsFirstLent side (Some lent) [] = ⊥
IsFirstLent side (Some lent) (item ∷ items) = IsLent side lent item

-- The item at a place of those that a station sends is lent, with its kind and with its octets, which are fixed as the octets that come
-- next are; none past the last item.
abbrev pub IsLentAt : Side → ℕ → Option LineItem → List PlainItem → Type 0
IsLentAt side place lent items = IsFirstLent side lent (drop place items)

-- how an item is sent: FCD and RCP at the speed of the page, a training check at that speed without flags, every other frame at 300 bit/s
abbrev pub form_of : Kind → Form
form_of Training = Check
form_of (Fcd number) = Page
form_of Rcp = Page
form_of _ = Control

-- the other station: the one that sends what is under way to a station
abbrev pub sender_to : Side → Side
sender_to Caller = Answerer
sender_to Answerer = Caller

-- what is under way to a station
abbrev pub under_way_to : Side → Call → List PlainItem
under_way_to Caller call = call.to_caller
under_way_to Answerer call = call.to_answerer
