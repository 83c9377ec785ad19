-- What a station makes of an item that comes.
use Rattle.std.specs.Prelude.{◌≡◌, List, [], ◌∷◌, Result, Ok, Err}
use Rattle.stations.specs.AnswererStep.{Answerer, StepsOrRefuses, answerer_step}
use Rattle.stations.specs.CallerStep.{caller_step}
use Rattle.stations.specs.Inputs.{PlainItem, framed, checked, hears, listens, trains}
use Rattle.stations.specs.CallerFields.{CallerFields, AnswersOrRefuses}
use Rattle.stations.specs.declared.turn.Turn.{Turn}
use Rattle.stations.specs.declared.turn.Turn.TheVariants.{Silent}

-- nothing changes, and nothing is sent; or memory was refused, and nothing changes either
abbrev pub Rests : {A E : Type 0} → A → A → Result Turn E → Type 0
Rests old new (Ok turn) = (new ≡ old) × (turn ≡ Silent)
Rests old new (Err refused) = new ≡ old

-- the caller takes an item; a training check isn't an input of a caller
abbrev pub CallerHears : {E : Type 0} → PlainItem → CallerFields → CallerFields → Result Turn E → Type 0
CallerHears (framed signal) old new result = AnswersOrRefuses old new result (λ t. caller_step t (hears signal))
CallerHears (checked octets) old new result = Rests old new result

-- the answerer answers an item
abbrev pub AnswererHears : {E : Type 0} → PlainItem → Answerer → Answerer → Result Turn E → Type 0
AnswererHears (framed signal) old new result = StepsOrRefuses old new result (answerer_step old (listens signal))
AnswererHears (checked octets) old new result = StepsOrRefuses old new result (answerer_step old (trains octets))

-- a station answers the first of some items, if there is one
abbrev pub HearsFirst : {A E : Type 0} → (PlainItem → A → A → Result Turn E → Type 0) → List PlainItem → A → A → Result Turn E → Type 0
HearsFirst Hears [] old new result = Rests old new result
HearsFirst Hears (item ∷ items) old new result = Hears item old new result
