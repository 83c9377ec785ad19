-- The items of a turn, lent one at a time.
use Rattle.std.specs.Prelude.{ℕ, ◌≡◌, Bool, true, false, List, [], ◌∷◌, replicate, Option, Some, None}
use Rattle.signals.specs.Signals.{plain}
use Rattle.signals.specs.declared.signal.Signal.{Signal}
use Rattle.stations.specs.Inputs.{PlainItem, framed, checked}
use Rattle.stations.specs.declared.lending.Item.{Item}
use Rattle.stations.specs.declared.lending.Item.TheVariants.{Frame, Training}

-- the plain value of an item
abbrev pub plain_item : Item → PlainItem
plain_item (Frame signal last) = framed (plain signal)
plain_item (Training count) = checked (replicate count 0)

-- no frame is among items
abbrev pub has_no_frame : List PlainItem → Bool
has_no_frame [] = true
has_no_frame (framed signal ∷ items) = false
has_no_frame (checked octets ∷ items) = has_no_frame items

-- a frame is marked as the last one exactly if no frame is left
abbrev pub TellsLast : Item → List PlainItem → Type 0
TellsLast (Frame signal last) left = last ≡ has_no_frame left
TellsLast (Training count) left = Unit {0}

-- the first of the items left is given, and the others stay; nothing is given if none is left
abbrev pub GivesItem : List PlainItem → Option Item → List PlainItem → Type 0
GivesItem old None new = (old ≡ []) × (new ≡ [])
GivesItem old (Some item) new = (old ≡ plain_item item ∷ new) × TellsLast item new

-- the first of the signals left is given in a frame, and the others stay; nothing is given if none is left
abbrev pub GivesSignal : List PlainItem → Option Signal → List PlainItem → Type 0
GivesSignal old None new = (old ≡ []) × (new ≡ [])
GivesSignal old (Some signal) new = old ≡ framed (plain signal) ∷ new

-- the FCDs that a turn has left, if it has any
abbrev pub fcds_left : Option (List PlainItem) → List PlainItem
fcds_left None = []
fcds_left (Some items) = items

-- the turn's last frame, if it is left
abbrev pub end_left : Option Signal → List PlainItem
end_left None = []
end_left (Some signal) = framed (plain signal) ∷ []

-- the turn's training check, if it is left
abbrev pub training_left : Option ℕ → List PlainItem
training_left None = []
training_left (Some count) = checked (replicate count 0) ∷ []
