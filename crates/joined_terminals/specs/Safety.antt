-- The headline of two joined terminals.
use Rattle.std.specs.Prelude.{◌++◌, List}
use Rattle.signals.specs.declared.params.Caps.{Caps}
use Rattle.signals.specs.declared.params.Wish.{Wish}
use Rattle.stations.specs.Laws.{Each}
use Rattle.stations.specs.Layers.{Document, IsFullPage}
use Rattle.stations.specs.declared.limiting.Limits.{Limits}
use Rattle.line_sim.specs.Headline.{IsSafe}
use Rattle.joined_terminals.specs.Happening.{Happening, Leads}
use Rattle.joined_terminals.specs.Joining.{Begins, Joined}
use Rattle.joined_terminals.specs.Octets.{LeadsTerminals, LineHappening, Terminals}

-- two joined terminals are safe: the pages taken and then those still there, the confirmed pages, and the ends of both stations are
abbrev pub IsSafeJoined : Document → Joined → Type 0
IsSafeJoined document j =
    IsSafe document (j.pages ++ j.answerer.station.station.pages) j.caller.station.station.page j.caller.station.station.ending
    j.answerer.station.station.ending

-- The law: whatever happens to two joined terminals, the pages taken and then those still there are the first of the caller's document,
-- pixel for pixel; each page that the caller counts confirmed is among them, and at most one more; and a normal end means all of them.
abbrev pub JoinedAreSafe : Type 0
JoinedAreSafe =
    (document : Document) (wish : Wish) (caps : Caps) (limits : Limits) (happens : List Happening) (first last : Joined) →
    Each IsFullPage document → Begins document wish caps limits first → Leads happens first last → IsSafeJoined document last

-- The law: the same of two terminals that hear the octets of the line.
abbrev pub TerminalsAreSafe : Type 0
TerminalsAreSafe =
    (document : Document) (wish : Wish) (caps : Caps) (limits : Limits) (happens : List LineHappening) (first last : Terminals) →
    Each IsFullPage document → Begins document wish caps limits first.joined → LeadsTerminals happens first last →
    IsSafeJoined document last.joined
