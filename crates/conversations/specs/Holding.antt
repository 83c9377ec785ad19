-- An answerer whose pages are stored by others: each stays in the answerer until it is kept.
use Rattle.std.specs.Prelude.{ℕ, ◌≡◌, ◌≢◌, [], ◌∷◌, Bool, true, false, List, Option, Some, None}
use Rattle.std.specs.Str.{bytes_eq}
use Rattle.conversations.specs.Answering.{StoreStep, limited_behaviour, pages_of}
use Rattle.conversations.specs.Conversations.{ConversationFields, hung_up_so, stopped_so, with_pages_taken}
use Rattle.conversations.specs.declared.line.Fate.TheVariants.{Kept, Lost}
use Rattle.conversations.specs.declared.line.Said.{Said}
use Rattle.conversations.specs.declared.line.Said.TheVariants.{Quiet, Busy, Received, NotReady, Ready, Missed, Told, Stop, End}
use Rattle.raster.specs.Pages.{PagePixels}
use Rattle.stations.specs.AnswererStep.{Answerer}
use Rattle.stations.specs.Inputs.{AnswererInput}
use Rattle.stations.specs.Limiting.{LimitedFields, is_full, limited_step}
use Rattle.stations.specs.declared.limiting.Limits.{Limits}
use Rattle.stations.specs.declared.turn.Turn.TheVariants.{Mcf}
use Rattle.terminals.specs.Stopping.{limited_cut_off}

-- a line about a page can come only while the page in that file is held
abbrev pub names_held : Option (List ℕ) → List ℕ → Bool
names_held None file = false
names_held (Some name) file = bytes_eq name file

-- the lines that can come while the page in this file is held, or none is
abbrev pub can_come : Option (List ℕ) → Said → Bool
can_come held (Told fate file) = names_held held file.items
can_come held Quiet = true
can_come held Busy = true
can_come held (Received channel kind bits octets) = true
can_come held NotReady = true
can_come held Ready = true
can_come held Missed = true
can_come held Stop = true
can_come held End = true

-- a page was handed over; or it was refused, and the answerer hangs up
abbrev pub HandsPage :
    {P : Type 0} → StoreStep P → StoreStep P → ConversationFields LimitedFields → PagePixels → ConversationFields LimitedFields → P → P →
    Bool → Type 0
HandsPage hands refuses old page new before after true = hands before page after × (new ≡ old)
HandsPage hands refuses old page new before after false = refuses before page after × (new ≡ hung_up_so limited_cut_off old)

-- nothing is done
abbrev pub StaysHeld :
    {P : Type 0} → ConversationFields LimitedFields → ConversationFields LimitedFields → P → P → Bool → Type 0
StaysHeld old new before after all = (new ≡ old) × (after ≡ before) × (all ≡ true)

-- the first page of the answerer is handed over, if it has one and none is held
abbrev pub HandsNext :
    {P : Type 0} → StoreStep P → StoreStep P → Option (List ℕ) → List PagePixels → ConversationFields LimitedFields →
    ConversationFields LimitedFields → P → P → Bool → Type 0
HandsNext hands refuses (Some name) pages old new before after all = StaysHeld old new before after all
HandsNext hands refuses None [] old new before after all = StaysHeld old new before after all
HandsNext hands refuses None (page ∷ pages) old new before after all = HandsPage hands refuses old page new before after all

-- the first page of the answerer counts as kept, if it has one
abbrev pub CountsFirst : {P : Type 0} → StoreStep P → List PagePixels → P → P → Type 0
CountsFirst counts [] before after = after ≡ before
CountsFirst counts (page ∷ pages) before after = counts before page after

-- What is done after a line. Once its page is kept it is counted, and leaves the answerer; if it is lost the call is stopped. After any other
-- line the first page of the answerer is handed over, if it has one and none is held.
abbrev pub HoldsPages :
    {P : Type 0} → StoreStep P → StoreStep P → StoreStep P → Option (List ℕ) → Said → ConversationFields LimitedFields →
    ConversationFields LimitedFields → P → P → Bool → Type 0
HoldsPages hands refuses counts held (Told Kept file) old new before after all =
    CountsFirst counts (pages_of old) before after × (new ≡ with_pages_taken old) × (all ≡ true)
HoldsPages hands refuses counts held (Told Lost file) old new before after all =
    (after ≡ before) × (new ≡ stopped_so limited_behaviour old) × (all ≡ true)
HoldsPages hands refuses counts held Quiet old new before after all =
    HandsNext hands refuses held (pages_of old) old new before after all
HoldsPages hands refuses counts held Busy old new before after all =
    HandsNext hands refuses held (pages_of old) old new before after all
HoldsPages hands refuses counts held (Received channel kind bits octets) old new before after all =
    HandsNext hands refuses held (pages_of old) old new before after all
HoldsPages hands refuses counts held NotReady old new before after all =
    HandsNext hands refuses held (pages_of old) old new before after all
HoldsPages hands refuses counts held Ready old new before after all =
    HandsNext hands refuses held (pages_of old) old new before after all
HoldsPages hands refuses counts held Missed old new before after all =
    HandsNext hands refuses held (pages_of old) old new before after all
HoldsPages hands refuses counts held Stop old new before after all =
    HandsNext hands refuses held (pages_of old) old new before after all
HoldsPages hands refuses counts held End old new before after all =
    HandsNext hands refuses held (pages_of old) old new before after all

-- a full answerer is busy
abbrev pub IsBusyIfFull : Limits → Answerer → Type 0
IsBusyIfFull limits s = is_full limits s.pages ≡ true → s.busy ≡ true

-- The law: an answerer that takes one page at a time is full once it has one. A full one stays busy and doesn't say MCF, whatever it hears:
-- so a page is confirmed only once it has left the answerer.
pub record HeldIsNotConfirmed : Type 0 where
  pub one : (limits : Limits) (page : PagePixels) (pages : List PagePixels) → limits.pages ≡ 1 → is_full limits (page ∷ pages) ≡ true
  pub busy : (limits : Limits) (s : Answerer) (input : AnswererInput) → IsBusyIfFull limits s → IsBusyIfFull limits (limited_step limits s input).next
  pub silent : (limits : Limits) (s : Answerer) (input : AnswererInput) → IsBusyIfFull limits s →
      is_full limits (limited_step limits s input).next.pages ≡ true → (limited_step limits s input).turn ≢ Mcf
