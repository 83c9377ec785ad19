-- Steps by which each page is kept before anything is said after it, and what the store has after them.
use Rattle.std.specs.Prelude.{◌≡◌, ◌≤◌, suc, List, [], ◌∷◌, length, Some}
use Rattle.conversations.specs.Answering.{pages_of}
use Rattle.signals.specs.declared.params.Caps.{Caps}
use Rattle.signals.specs.declared.params.Wish.{Wish}
use Rattle.stations.specs.Laws.{Each}
use Rattle.stations.specs.Layers.{Document, IsFullPage}
use Rattle.stations.specs.declared.limiting.Limits.{Limits}
use Rattle.stations.specs.declared.turn.End.TheVariants.{Normal}
use Rattle.joined_terminals.specs.Joining.{Begins}
use Rattle.joined_terminals.specs.Driven.{Driven, joined}
use Rattle.joined_terminals.specs.DrivenSafety.{IsSafeDriven}
use Rattle.joined_terminals.specs.Steps.{Does, Drives, Step}
use Rattle.joined_terminals.specs.Steps.Step.{answerer_gives, answerer_line, answerer_refuses, answerer_watches, caller_gives, caller_line}
use Rattle.joined_terminals.specs.Steps.Step.{caller_refuses, caller_watches, items_lost, page_lost, page_refused, hung_up}
use Rattle.joined_terminals.specs.Steps.Step.{pages_stored}

-- Where a step may be taken if each page is kept before anything is said after it: the answerer gives a burst only where no page is left in
-- it, and once a page was refused it gives bursts and does nothing else. A page that is held for others stays in the answerer, which says
-- RNR meanwhile: those steps are in `Held.antt`.
abbrev pub IsKept : Step → Driven → Type 0
IsKept (caller_line line) d = Unit {0}
IsKept (answerer_line line) d = d.unkept ≡ []
IsKept (caller_refuses line) d = Unit {0}
IsKept (answerer_refuses line) d = d.unkept ≡ []
IsKept caller_watches d = Unit {0}
IsKept answerer_watches d = d.unkept ≡ []
IsKept pages_stored d = d.unkept ≡ []
IsKept page_refused d = d.unkept ≡ []
IsKept page_lost d = d.unkept ≡ []
IsKept hung_up d = d.unkept ≡ []
IsKept (caller_gives sent sends) d = Unit {0}
IsKept (answerer_gives sent sends) d = pages_of d.answerer ≡ []
IsKept items_lost d = Unit {0}

-- steps lead from one state of both to another, one after the other, each from where it may be taken
abbrev pub DrivesKept : List Step → Driven → Driven → Type 0
DrivesKept [] old new = new ≡ old
DrivesKept (step ∷ more) old new = (mid : Driven) × IsKept step old × Does step old mid × DrivesKept more mid new

-- The law: these are steps as any are.
abbrev pub KeptAreDriven : Type 0
KeptAreDriven = (steps : List Step) (old new : Driven) → DrivesKept steps old new → Drives steps old new

-- What the sender, who deletes confirmed pages, can rely on even if the answerer's process ends at once: beside what holds after any steps,
-- each page that the caller counts confirmed is among those stored, and at most one more is, also where the store refused a page; and a
-- normal end of the caller means that all pages are stored.
pub record IsSafeStore (document : Document) (d : Driven) : Type 0 where
  pub driven : IsSafeDriven document d
  pub confirmed_is_stored : d.caller.terminal.speaking.station.station.page ≤ length d.stored
  pub stored_once : length d.stored ≤ suc d.caller.terminal.speaking.station.station.page
  pub caller_normal : d.caller.terminal.speaking.station.station.ending ≡ Some Normal → d.stored ≡ document

-- The law: from two conversations with new terminals, whatever their clocks are and whatever is watched, every list of steps by which pages
-- are kept before anything is said leads to where each confirmed page is stored.
abbrev pub ConfirmedAreStored : Type 0
ConfirmedAreStored =
    (document : Document) (wish : Wish) (caps : Caps) (limits : Limits) (steps : List Step) (first last : Driven) →
    Each IsFullPage document → Begins document wish caps limits (joined first) → DrivesKept steps first last → IsSafeStore document last
