-- Steps by which no page is confirmed that is still in the answerer, and what the store has after them. So an answerer works whose pages
-- others store: a page stays in it until it is kept, and meanwhile it says RNR.
use Rattle.std.specs.Prelude.{◌≡◌, ◌≢◌, ◌<◌, ◌⊎◌, [], ◌∷◌, Bool, List}
use Rattle.conversations.specs.Answering.{pages_of}
use Rattle.signals.specs.declared.params.Caps.{Caps}
use Rattle.signals.specs.declared.params.Wish.{Wish}
use Rattle.stations.specs.Laws.{Each}
use Rattle.stations.specs.Layers.{Document, IsFullPage}
use Rattle.stations.specs.declared.limiting.Limits.{Limits}
use Rattle.stations.specs.declared.turn.Turn.TheVariants.{Mcf, Rnr}
use Rattle.terminals.specs.declared.sending.SentBurst.{SentBurst}
use Rattle.joined_terminals.specs.Driven.{Driven, joined}
use Rattle.joined_terminals.specs.Joining.{Begins}
use Rattle.joined_terminals.specs.Kept.{DrivesKept, IsKept, IsSafeStore}
use Rattle.joined_terminals.specs.Steps.{Does, Drives, Step}
use Rattle.joined_terminals.specs.Steps.Step.{answerer_gives}

-- Where a step may be taken if no page is confirmed that is still in the answerer: while a page is left in it, it gives no burst of MCF, but
-- may give any other, such as RNR.
abbrev pub IsHeld : Step → Driven → Type 0
IsHeld (answerer_gives sent sends) d = (pages_of d.answerer ≡ []) ⊎ (d.answerer.terminal.speaking.turn ≢ Mcf)
IsHeld step d = Unit {0}

-- steps lead from one state of both to another, one after the other, each from where it may be taken
abbrev pub DrivesHeld : List Step → Driven → Driven → Type 0
DrivesHeld [] old new = new ≡ old
DrivesHeld (step ∷ more) old new = (mid : Driven) × IsHeld step old × Does step old mid × DrivesHeld more mid new

-- The law: steps by which each page is kept before anything is said after it are such steps, and these are steps as any are. A burst of RNR
-- may be given while a page is left in the answerer, which is none of the first.
pub record HeldAreDriven : Type 0 where
  pub kept : (steps : List Step) (old new : Driven) → DrivesKept steps old new → DrivesHeld steps old new
  pub driven : (steps : List Step) (old new : Driven) → DrivesHeld steps old new → Drives steps old new
  pub wider :
      (sent : SentBurst) (sends : Bool) (d : Driven) → pages_of d.answerer ≢ [] → d.answerer.terminal.speaking.turn ≡ Rnr →
      IsHeld (answerer_gives sent sends) d × (¬ IsKept (answerer_gives sent sends) d)

-- The law: from two conversations with new terminals, whatever their clocks are and whatever is watched, every list of steps by which no
-- page is confirmed that is still in the answerer leads to where each confirmed page is stored, also where the store lost or refused a page.
abbrev pub HeldAreStored : Type 0
HeldAreStored =
    (document : Document) (wish : Wish) (caps : Caps) (limits : Limits) (steps : List Step) (first last : Driven) →
    Each IsFullPage document → Begins document wish caps limits (joined first) → DrivesHeld steps first last → IsSafeStore document last

-- The law: if the answerer takes one page at a time, each confirmed page is stored, whatever happens and whenever its pages are stored.
abbrev pub OnePageIsStored : Type 0
OnePageIsStored =
    (document : Document) (wish : Wish) (caps : Caps) (limits : Limits) (steps : List Step) (first last : Driven) →
    Each IsFullPage document → limits.pages ≡ 1 → 0 < limits.octets → Begins document wish caps limits (joined first) →
    Drives steps first last → IsSafeStore document last
