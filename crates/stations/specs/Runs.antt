-- Each station over a list of inputs, whatever the other one is.
use Rattle.std.specs.Prelude.{ℕ, ◌≡◌, ◌⊎◌, ◌+◌, ◌++◌, true, List, [], ◌∷◌, length, replicate, None, IsSome}
use Rattle.std.specs.List.{Contains}
use Rattle.raster.specs.Pages.{PagePixels}
use Rattle.signals.specs.Agreement.{allowed}
use Rattle.signals.specs.Signals.{dcs, fcd}
use Rattle.signals.specs.declared.params.Caps.{Caps}
use Rattle.signals.specs.declared.params.Params.{Params}
use Rattle.partial_page.specs.Store.{joined_frames}
use Rattle.stations.specs.Layers.{IsPageOf}
use Rattle.partial_page.specs.Assembling.{within_frame_size}
use Rattle.stations.specs.Blocks.{joined}
use Rattle.stations.specs.Laws.{Each}
use Rattle.stations.specs.Inputs.{CallerInput, AnswererInput, listens}
use Rattle.stations.specs.CallerStep.{Caller, caller_step}
use Rattle.stations.specs.AnswererStep.{Answerer, answerer_step, new_answerer}
use Rattle.stations.specs.declared.turn.AnswererState.TheVariants.{Message}
use Rattle.stations.specs.declared.turn.Turn.{Turn}
use Rattle.stations.specs.declared.turn.Turn.TheVariants.{Silent}

-- a caller after a list of inputs
abbrev pub caller_after : List CallerInput → Caller → Caller
caller_after [] c = c
caller_after (input ∷ inputs) c = caller_after inputs (caller_step c input).next

-- the turns of a caller after each of a list of inputs
abbrev pub caller_turns : List CallerInput → Caller → List Turn
caller_turns [] c = []
caller_turns (input ∷ inputs) c = (caller_step c input).turn ∷ caller_turns inputs (caller_step c input).next

-- an answerer after a list of inputs
abbrev pub answerer_after : List AnswererInput → Answerer → Answerer
answerer_after [] s = s
answerer_after (input ∷ inputs) s = answerer_after inputs (answerer_step s input).next

-- the turns of an answerer after each of a list of inputs
abbrev pub answerer_turns : List AnswererInput → Answerer → List Turn
answerer_turns [] s = []
answerer_turns (input ∷ inputs) s = (answerer_step s input).turn ∷ answerer_turns inputs (answerer_step s input).next

-- law: a caller that has ended stays as it is and is silent, whatever it hears
abbrev pub EndedCallerStays : Type 0
EndedCallerStays =
    (c : Caller) (inputs : List CallerInput) → IsSome c.ending →
    (caller_after inputs c ≡ c) × (caller_turns inputs c ≡ replicate (length inputs) Silent)

-- law: an answerer that has ended stays as it is and is silent, whatever it hears
abbrev pub EndedAnswererStays : Type 0
EndedAnswererStays =
    (s : Answerer) (inputs : List AnswererInput) → IsSome s.ending →
    (answerer_after inputs s ≡ s) × (answerer_turns inputs s ≡ replicate (length inputs) Silent)

-- octets are the data of an FCD among inputs
abbrev pub IsHeard : List AnswererInput → List ℕ → Type 0
IsHeard inputs octets = (number : ℕ) × Contains inputs (listens (fcd number octets))

-- octets are joined of data that were heard
pub record AreJoined (inputs : List AnswererInput) (octets : List ℕ) : Type 0 where
  pub parts : List (List ℕ)
  pub heard : Each (IsHeard inputs) parts
  pub joined_is : octets ≡ joined parts

-- a page is that of octets which are joined of data that were heard, by the parameters of a DCS that was heard and is allowed
pub record IsReadOf (caps : Caps) (inputs : List AnswererInput) (page : PagePixels) : Type 0 where
  pub params : Params
  pub dcs_heard : Contains inputs (listens (dcs params))
  pub dcs_allowed : allowed caps params ≡ true
  pub octets : List ℕ
  pub octets_joined : AreJoined inputs octets
  pub reads : IsPageOf params octets page

-- law: whatever an answerer hears, each page that it stores is read of octets joined from the data of FCDs that it heard, by the parameters
-- of a DCS that it heard and that its capabilities allow
abbrev pub StoredIsRead : Type 0
StoredIsRead =
    (caps : Caps) (params : Params) (inputs : List AnswererInput) →
    Each (IsReadOf caps inputs) (answerer_after inputs (new_answerer caps params)).pages

-- law: a step stores no page, or the one that the octets of the open page and then of the open frames up to a last one read as
abbrev pub StepsStoreOpen : Type 0
StepsStoreOpen =
    (s : Answerer) (input : AnswererInput) →
    ((answerer_step s input).next.pages ≡ s.pages) ⊎
    ((page : PagePixels) × (last : ℕ) × IsPageOf s.params (s.octets ++ joined_frames s.frames (last + 1)) page ×
    ((answerer_step s input).next.pages ≡ s.pages ++ page ∷ []))

-- an input is a DCS that the caps allow
abbrev pub IsAllowedDcs : Caps → AnswererInput → Type 0
IsAllowedDcs caps (listens (dcs params)) = allowed caps params ≡ true
IsAllowedDcs caps _ = ⊥

-- law: after an FCD that is kept the memory for the open frames is taken
abbrev pub KeptIsReady : Type 0
KeptIsReady =
    (s : Answerer) (number : ℕ) (octets : List ℕ) →
    s.ending ≡ None → s.state ≡ Message → within_frame_size s.params octets ≡ true →
    (answerer_step s (listens (fcd number octets))).next.ready ≡ true

-- law: from then on the memory stays until a DCS that is allowed, whatever else is heard
abbrev pub StaysReady : Type 0
StaysReady =
    (s : Answerer) (inputs : List AnswererInput) →
    s.ready ≡ true → Each (λ input. ¬ IsAllowedDcs s.caps input) inputs → (answerer_after inputs s).ready ≡ true
