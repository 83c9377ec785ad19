-- What an answerer stores of the lines that it answers, whoever is on the line.
use Rattle.std.specs.Prelude.{ℕ, ◌≡◌, ◌⊎◌, ◌++◌, ◌∷◌, [], false, true, Bool, List}
use Rattle.conversations.specs.Answering.{StoreStep, StoresAll, StoresEach, limited_behaviour, pages_of}
use Rattle.conversations.specs.Conversations.{ConversationFields, TakesLine, refused_so}
use Rattle.conversations.specs.Conversing.{AnswersAll, AnswersNext, TalkState, Talker, talker}
use Rattle.conversations.specs.Lines.{Says}
use Rattle.conversations.specs.Talking.{keeping}
use Rattle.conversations.specs.declared.line.Said.{Said}
use Rattle.conversations.specs.declared.line.Said.TheVariants.{Received}
use Rattle.conversations.specs.declared.line.TimedLine.{TimedLine}
use Rattle.hdlc.specs.DeframerState.{IsAfter}
use Rattle.raster.specs.Pages.{PagePixels}
use Rattle.signals.specs.declared.params.Caps.{Caps}
use Rattle.signals.specs.declared.params.Params.{Params}
use Rattle.stations.specs.AnswererStep.{new_answerer}
use Rattle.stations.specs.Inputs.{AnswererInput}
use Rattle.stations.specs.Laws.{Each}
use Rattle.stations.specs.Limiting.{LimitedFields}
use Rattle.stations.specs.Runs.{IsReadOf}
use Rattle.terminals.specs.Hearing.{heard_of}
use Rattle.terminals.specs.Stations.{AnswererLends}
use Rattle.terminals.specs.StationsAfter.{answerer_inputs}

-- the octets that were received, of what a line says
abbrev pub received_octets : Said → List ℕ
received_octets (Received channel kind bits octets) = octets.items
received_octets said = []

-- octets are those that a line says were received, or none
abbrev pub AreOfLine : List ℕ → List ℕ → Type 0
AreOfLine line octets = (octets ≡ []) ⊎ ((timed : TimedLine) × Says line timed × (octets ≡ received_octets timed.said))

-- octets are those of some of the lines, joined in order
abbrev pub AreOfLines : List (List ℕ) → List ℕ → Type 0
AreOfLines [] octets = octets ≡ []
AreOfLines (line ∷ lines) octets =
    (here : List ℕ) × (rest : List ℕ) × AreOfLine line here × AreOfLines lines rest × (octets ≡ here ++ rest)

-- the signals that an answerer hears in octets of the line: those of their good frames, in order
abbrev pub signals_in : List ℕ → List AnswererInput
signals_in octets = answerer_inputs (heard_of [] octets)

-- the conversation of a new answerer of these capabilities, which has heard nothing yet
pub record IsNewAnswerer (caps : Caps) (c : ConversationFields LimitedFields) : Type 0 where
  pub params : Params
  pub station : c.terminal.speaking.station.station ≡ new_answerer caps params
  pub told : c.terminal.speaking.station.told ≡ false
  pub framing : IsAfter c.terminal.framing [] 0

-- an answerer with limits talks, and its pages go to a store, which takes some lines and says something
abbrev pub storing : {P : Type 0} → StoreStep P → StoreStep P → (P → Said → Bool) → (P → List ℕ) → Talker LimitedFields P
storing stores refuses takes tells =
    talker limited_behaviour (keeping (λ old c said new after kept. StoresAll stores refuses c after old new kept) takes tells)
    (λ v turn bursts. AnswererLends v.station turn bursts)

-- Pages were stored in order, and each is what data fields of FCDs, joined, read as by the parameters of a DCS that the answerer allows;
-- all of these frames are good ones among the octets that the lines bring.
pub record StoresWhatIsSaid (P : Type 0) (stores : StoreStep P) (caps : Caps) (lines : List (List ℕ)) (before after : P) : Type 0 where
  pub octets : List ℕ
  pub of_lines : AreOfLines lines octets
  pub pages : List PagePixels
  pub stored : StoresEach stores before pages after
  pub read : Each (IsReadOf caps (signals_in octets)) pages

-- The law, whoever is on the line: after lines that an answerer has answered `StoresWhatIsSaid` holds of its store.
abbrev pub StoredIsSaid : (P : Type 0) → StoreStep P → StoreStep P → Type 0
StoredIsSaid P stores refuses =
    (takes : P → Said → Bool) (tells : P → List ℕ) (caps : Caps) (lines : List (List ℕ)) (old new : TalkState LimitedFields P) →
    IsNewAnswerer caps old.conversation → AnswersAll (storing stores refuses takes tells) lines old new → StoresWhatIsSaid P stores caps lines old.keeper new.keeper

-- The law with one line more, after which the call is over or goes on, and all of whose pages were kept: `StoresWhatIsSaid` holds of the
-- store.
abbrev pub LastIsSaid : (P : Type 0) → StoreStep P → StoreStep P → Type 0
LastIsSaid P stores refuses =
    (takes : P → Said → Bool) (tells : P → List ℕ) (caps : Caps) (lines : List (List ℕ)) (old mid new : TalkState LimitedFields P)
    (line : List ℕ) (over : Bool) → IsNewAnswerer caps old.conversation → AnswersAll (storing stores refuses takes tells) lines old mid →
    AnswersNext LimitedFields P (storing stores refuses takes tells) mid new line true over →
    StoresWhatIsSaid P stores caps (lines ++ line ∷ []) old.keeper new.keeper

-- The law for a last line of whose pages one was refused: `StoresWhatIsSaid` holds of the pages before that one.
abbrev pub RefusedIsLast : (P : Type 0) → StoreStep P → StoreStep P → Type 0
RefusedIsLast P stores refuses =
    (takes : P → Said → Bool) (tells : P → List ℕ) (caps : Caps) (lines : List (List ℕ)) (old mid new : TalkState LimitedFields P)
    (line : List ℕ) (over : Bool) → IsNewAnswerer caps old.conversation → AnswersAll (storing stores refuses takes tells) lines old mid →
    AnswersNext LimitedFields P (storing stores refuses takes tells) mid new line false over →
    (stored : P) × (page : PagePixels) × StoresWhatIsSaid P stores caps (lines ++ line ∷ []) old.keeper stored ×
    refuses stored page new.keeper

-- Pages were stored, and others are there after a line more, and each of both is what data fields of FCDs, joined, read as by the parameters
-- of a DCS that the answerer allows; all of these frames are good ones among the octets that the lines bring.
pub record HearsWhatIsSaid (P : Type 0) (stores : StoreStep P) (caps : Caps) (lines : List (List ℕ)) (before after : P)
    (there : List PagePixels) : Type 0 where
  pub octets : List ℕ
  pub of_lines : AreOfLines lines octets
  pub pages : List PagePixels
  pub stored : StoresEach stores before pages after
  pub read : Each (IsReadOf caps (signals_in octets)) (pages ++ there)

-- The law with one line more, that is taken: it holds of the pages that are in the answerer then, whatever is done with them.
abbrev pub LineIsSaid : (P : Type 0) → StoreStep P → StoreStep P → Type 0
LineIsSaid P stores refuses =
    (takes : P → Said → Bool) (tells : P → List ℕ) (caps : Caps) (lines : List (List ℕ)) (old mid : TalkState LimitedFields P)
    (line : List ℕ) (timed : TimedLine) (heard : ConversationFields LimitedFields) → IsNewAnswerer caps old.conversation →
    AnswersAll (storing stores refuses takes tells) lines old mid → Says line timed →
    TakesLine LimitedFields limited_behaviour mid.conversation timed heard →
    HearsWhatIsSaid P stores caps (lines ++ line ∷ []) old.keeper mid.keeper (pages_of (refused_so limited_behaviour heard))
