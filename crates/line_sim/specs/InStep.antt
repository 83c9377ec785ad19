-- What holds of every world that events lead to, in words: how far the two stations are apart, and what may be under way.
use Rattle.std.specs.Prelude.{◌≡◌, ℕ, suc, ◌⊎◌, List, [], ◌∷◌, ◌++◌, Some, slice_get}
use Rattle.signals.specs.Signals.{PlainSignal, cfr, fcd, ppr, mcf, rnr, rr, dcn}
use Rattle.partial_page.specs.Store.{no_frames, frame_of}
use Rattle.stations.specs.Blocks.{open_before}
use Rattle.stations.specs.Inputs.{PlainItem, framed}
use Rattle.stations.specs.Laws.{Each}
use Rattle.stations.specs.CallerFields.{IsSending}
use Rattle.stations.specs.CallerStep.{blocks_of}
use Rattle.stations.specs.declared.turn.AnswererState.TheVariants.{Message}
use Rattle.line_sim.specs.Line.{World}
use Rattle.line_sim.specs.LineFacts.{accepted_at, frame_at, state_past, IsDis}
use Rattle.line_sim.specs.PageMachine.{IsBeginning}

-- an item is under way
abbrev pub IsUnderWay : PlainSignal → List PlainItem → Type 0
IsUnderWay signal items = (before : List PlainItem) × (after : List PlainItem) × (items ≡ before ++ framed signal ∷ after)

-- Both stations are in step. It holds of every world that events lead to, and says in words how far the stations are apart and what may be
-- under way.
pub record InStep (w : World) : Type 0 where
  -- at most one of the two lists holds items
  pub one_way : (w.to_answerer ≡ []) ⊎ (w.to_caller ≡ [])
  -- the answerer has accepted as many blocks as the caller has confirmed, or one more; what it has accepted last is the last of them
  pub accepted : ℕ
  pub near : (accepted ≡ w.caller.place) ⊎ (accepted ≡ suc w.caller.place)
  pub last : w.answerer.accepted ≡ accepted_at (blocks_of w.caller) accepted
  -- MCF, RNR or RR under way: the caller's present block is accepted
  pub confirmed : IsUnderWay mcf w.to_caller → accepted ≡ suc w.caller.place
  pub busy : IsUnderWay rnr w.to_caller → accepted ≡ suc w.caller.place
  pub asking : IsUnderWay rr w.to_answerer → accepted ≡ suc w.caller.place
  -- PPR or FCD under way: it isn't
  pub missing : (map : List ℕ) → IsUnderWay (ppr map) w.to_caller → accepted ≡ w.caller.place
  pub sent : (number : ℕ) (octets : List ℕ) → IsUnderWay (fcd number octets) w.to_answerer → accepted ≡ w.caller.place
  -- CFR under way: the answerer is in Message
  pub trained : IsUnderWay cfr w.to_caller → w.answerer.state ≡ Message
  -- the answerer's DCN is never under way
  pub stays : ¬ IsUnderWay dcn w.to_caller
  -- after an MCF only DIS are under way
  pub only_dis : (before after : List PlainItem) → w.to_caller ≡ before ++ framed mcf ∷ after → Each IsDis after
  -- while the caller sends a group's blocks both have the same parameters, and the answerer is in Message, or in phase B once it has
  -- accepted the group's last block
  pub same_params : IsSending w.caller.state → w.answerer.params ≡ w.caller.params
  pub message : IsSending w.caller.state → accepted ≡ w.caller.place → w.answerer.state ≡ Message
  pub phase :
      IsSending w.caller.state → accepted ≡ suc w.caller.place →
      w.answerer.state ≡ state_past (slice_get (blocks_of w.caller) w.caller.place)
  -- each open frame is a frame of the present block, with its number and data; once the block is accepted, none is open
  pub open_frames :
      (number : ℕ) (octets : List ℕ) → frame_of w.answerer.frames number ≡ Some octets →
      frame_at (slice_get (blocks_of w.caller) w.caller.place) number ≡ Some octets
  pub none_open : accepted ≡ suc w.caller.place → w.answerer.frames ≡ no_frames
  -- the octets of the open page are those of its accepted blocks, one after the other
  pub octets : w.answerer.octets ≡ open_before (blocks_of w.caller) accepted
  -- the stored pages are the first of the document
  pub pages : IsBeginning w.answerer.pages w.caller.document
