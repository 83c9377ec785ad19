-- The headline of two conversations whose lines a driver joins.
use Rattle.std.specs.Prelude.{List}
use Rattle.signals.specs.declared.params.Caps.{Caps}
use Rattle.signals.specs.declared.params.Wish.{Wish}
use Rattle.stations.specs.Laws.{Each}
use Rattle.stations.specs.Layers.{Document, IsFullPage}
use Rattle.stations.specs.declared.limiting.Limits.{Limits}
use Rattle.line_sim.specs.PageMachine.{IsBeginning}
use Rattle.joined_terminals.specs.Joining.{Begins}
use Rattle.joined_terminals.specs.Safety.{IsSafeJoined}
use Rattle.joined_terminals.specs.Driven.{Driven, joined}
use Rattle.joined_terminals.specs.Steps.{Drives, Step}

-- Two conversations are safe: the pages stored are the first of the document; and the pages stored, refused after these, and still in the
-- answerer are as the terminals' headline says.
pub record IsSafeDriven (document : Document) (d : Driven) : Type 0 where
  pub stored : IsBeginning d.stored document
  pub all : IsSafeJoined document (joined d)

-- The law: from two conversations with new terminals, whatever their clocks are and whatever is watched, every list of steps leads to safe
-- ones.
abbrev pub ConversationsAreSafe : Type 0
ConversationsAreSafe =
    (document : Document) (wish : Wish) (caps : Caps) (limits : Limits) (steps : List Step) (first last : Driven) →
    Each IsFullPage document → Begins document wish caps limits (joined first) → Drives steps first last → IsSafeDriven document last
