-- What a step of a caller changes, field by field, and to what.
use Rattle.std.specs.Prelude.{suc, ◌≡◌, ◌⊎◌, ◌++◌, [], ◌∷◌, Some, None, Result, Ok, Err, slice_get}
use Rattle.signals.specs.Signals.{dis, ftt, mcf}
use Rattle.signals.specs.declared.params.Caps.{Caps}
use Rattle.signals.specs.declared.params.Params.{Params}
use Rattle.stations.specs.Layers.{agreed_for, lowered}
use Rattle.stations.specs.Blocks.{Block}
use Rattle.stations.specs.Inputs.{CallerInput, hears}
use Rattle.stations.specs.CallerFields.{CallerFields, Represents}
use Rattle.stations.specs.CallerStep.{Caller, caller_step, blocks_of, confirmed}
use Rattle.stations.specs.EndsMean.{HasSent}
use Rattle.stations.specs.declared.turn.CallerState.TheVariants.{WaitDis, WaitCfr}
use Rattle.stations.specs.declared.turn.Turn.{Turn}

-- a DIS comes that is waited for
abbrev pub MeetsDis : Caller → CallerInput → Type 0
MeetsDis c input = (c.state ≡ WaitDis) × ((caps : Caps) × (input ≡ hears (dis caps)))

-- the answer to a training check is FTT
abbrev pub Failed : Caller → CallerInput → Type 0
Failed c input = (c.state ≡ WaitCfr) × (input ≡ hears ftt)

-- what a step of a caller may change, field by field, and when
pub record Keeps (c : Caller) (input : CallerInput) (next : Caller) : Type 0 where
  -- the document and the wish nowhere
  pub document : next.document ≡ c.document
  pub wish : next.wish ≡ c.wish
  -- the capabilities at a DIS that is waited for
  pub caps : (¬ MeetsDis c input) → next.caps ≡ c.caps
  -- the parameters there and at an FTT
  pub params : (¬ MeetsDis c input) → (¬ Failed c input) → next.params ≡ c.params
  -- the place at an MCF for a block, by one
  pub place :
      (next.place ≡ c.place) ⊎
      (HasSent c × (input ≡ hears mcf) × ((block : Block) × (slice_get (blocks_of c) c.place ≡ Some block)) × (next.place ≡ suc c.place))
  -- the groups that are through at an MCF after which another DIS is waited for
  pub finished :
      (next.finished ≡ c.finished) ⊎
      (HasSent c × (input ≡ hears mcf) × (next.state ≡ WaitDis) × (next.finished ≡ c.finished ++ c.present) × (next.present ≡ []))

-- law: a step of any caller never changes the document and the wish; it changes the capabilities only at a DIS that is waited for, the
-- parameters there and at an FTT, and the place only at an MCF for a block
abbrev pub CallersKeep : Type 0
CallersKeep = (c : Caller) (input : CallerInput) → Keeps c input (caller_step c input).next

-- what a step of a caller that runs changes, and to what
pub record Takes (c : Caller) (input : CallerInput) (next : Caller) : Type 0 where
  -- at a DIS that is waited for: the capabilities, and what is agreed on with them for the page due
  pub agreed :
      (caps : Caps) (params : Params) → c.state ≡ WaitDis → input ≡ hears (dis caps) →
      agreed_for caps c.wish (slice_get c.document (confirmed c)) ≡ Some params →
      (next.caps ≡ caps) × (next.params ≡ params) × (next.present ≡ params ∷ [])
  -- at an FTT: the parameters at the next lower speed
  pub lower :
      (params : Params) → Failed c input → lowered c.caps c.wish c.params ≡ Some params →
      (next.params ≡ params) × (next.present ≡ params ∷ [])
  -- at an MCF for a block: the next place
  pub confirmed : (block : Block) → HasSent c → input ≡ hears mcf → slice_get (blocks_of c) c.place ≡ Some block → next.place ≡ suc c.place

-- law: at such a DIS a caller that runs takes its capabilities and what is agreed with them, at an FTT the next lower speed, at an MCF the
-- next place
abbrev pub CallersTake : Type 0
CallersTake = (c : Caller) (input : CallerInput) → c.ending ≡ None → Takes c input (caller_step c input).next

-- a step of the program changes so: whichever tuple the fields represent, they represent one afterwards that has changed so; or memory was
-- refused, and nothing has changed
abbrev pub KeepsOrRefuses : {E : Type 0} → CallerFields → CallerInput → CallerFields → Result Turn E → Type 0
KeepsOrRefuses old input new (Ok turn) =
    (t : Caller) → Represents old t → (next : Caller) × Represents new next × Keeps t input next × (t.ending ≡ None → Takes t input next)
KeepsOrRefuses old input new (Err refused) = new ≡ old
