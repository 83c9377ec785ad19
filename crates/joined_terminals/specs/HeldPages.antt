-- What becomes of the page of an answerer that takes one page at a time, while others are to keep it: it stays there, the only one.
use Rattle.std.specs.Prelude.{◌≡◌, ◌⊎◌, ◌∷◌, [], Bool, List}
use Rattle.conversations.specs.Answering.{limited_behaviour, pages_of}
use Rattle.conversations.specs.Conversations.{ConversationFields, refused_so}
use Rattle.conversations.specs.declared.line.TimedLine.{TimedLine}
use Rattle.raster.specs.Pages.{PagePixels}
use Rattle.signals.specs.declared.signal.Side.TheVariants.{Answerer as AnswererSide}
use Rattle.stations.specs.Limiting.{LimitedFields}
use Rattle.joined_terminals.specs.Answered.{GivesTurn, answerer_lends}
use Rattle.joined_terminals.specs.Driven.{Driven}
use Rattle.joined_terminals.specs.HeldAnswers.{HolderIsReady, HoldsOne}
use Rattle.joined_terminals.specs.Steps.{Does, Step}

-- the answerer has this page and no other; or the page was refused
abbrev pub HasPage : PagePixels → Driven → Type 0
HasPage page d = ((pages_of d.answerer ≡ page ∷ []) × (d.unkept ≡ [])) ⊎ (d.unkept ≡ page ∷ [])

-- The law, of an answerer that takes one page at a time. It goes on so by each step. A step by which nothing is stored leaves its page there,
-- unless the page is refused. A line that it takes leaves the page there, and so do the bursts that it gives.
pub record HeldPageStays : Type 0 where
  pub one :
      (step : Step) (old new : Driven) → HoldsOne old.answerer.terminal.speaking → Does step old new →
      HoldsOne new.answerer.terminal.speaking
  pub stays :
      (page : PagePixels) (step : Step) (old new : Driven) → HoldsOne old.answerer.terminal.speaking → Does step old new →
      new.stored ≡ old.stored → HasPage page old → HasPage page new
  pub most :
      (d : Driven) → HoldsOne d.answerer.terminal.speaking →
      (pages_of d.answerer ≡ []) ⊎ ((page : PagePixels) × (pages_of d.answerer ≡ page ∷ []))
  pub heard :
      (line : TimedLine) (kept : Bool) (old : Driven) (ready : ConversationFields LimitedFields) (stored : List PagePixels) →
      HoldsOne old.answerer.terminal.speaking → (is_ready : HolderIsReady line kept old ready stored) →
      HoldsOne (refused_so limited_behaviour is_ready.heard).terminal.speaking
  pub there :
      (page : PagePixels) (line : TimedLine) (kept : Bool) (old : Driven) (ready : ConversationFields LimitedFields)
      (stored : List PagePixels) → HoldsOne old.answerer.terminal.speaking → pages_of old.answerer ≡ page ∷ [] →
      (is_ready : HolderIsReady line kept old ready stored) → pages_of (refused_so limited_behaviour is_ready.heard) ≡ page ∷ []
  pub given :
      (late : Bool) (ready new : ConversationFields LimitedFields) → GivesTurn LimitedFields AnswererSide answerer_lends late ready new →
      pages_of new ≡ pages_of ready
