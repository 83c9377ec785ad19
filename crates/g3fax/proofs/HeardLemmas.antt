-- What a terminal has heard, and whether its call is stopped for it.
use Rattle.std.proofs.Common.{◌≡◌, ◌∙◌, ℕ, Bool, List, Option, Err, ap, refl}
use Rattle.terminals.specs.Figures.{figures_heard}
use Rattle.terminals.specs.Runs.{Hears, TerminalFields}
use Rattle.terminals.specs.Speaking.{BurstsOf, StepOf}
use Rattle.terminals.specs.Stopping.{stopped}
use Rattle.terminals.specs.Timed.{BringsIfTaken, SeesOctets, TimedFields}
use Rattle.terminals.specs.Watching.{SeesByIfTaken}
use Rattle.terminals.specs.declared.fault.HearFault.TheVariants.{NothingTaken}
use Rattle.terminals.specs.declared.figures.Figures.{Figures}
use Rattle.terminals.specs.declared.stopping.Shown.{Shown}
use Rattle.terminals.specs.declared.watching.Watched.{Watched}
use Rattle.g3fax.specs.Stations.{Behaviour}

parts_same : {S : Type 0} (old : TimedFields S) (terminal : TerminalFields S) (watched : Option Watched) (figures : Figures) (brought : Bool) →
    terminal ≡ old.terminal → watched ≡ old.watched → figures ≡ old.figures → brought ≡ old.brought →
    record old { terminal = terminal; watched = watched; figures = figures; brought = brought } ≡ old
parts_same old terminal watched figures brought p q r s = rw (p, q, r, s) refl

-- nothing has changed if no octet was taken
pub untaken : {S : Type 0} (steps : StepOf S) (lends : BurstsOf S) (shows : S → Shown → Type 0) (old new : TimedFields S) (octets : List ℕ) →
    Hears steps lends old.terminal octets new.terminal (Err NothingTaken) →
    SeesOctets S shows old.terminal octets old.watched new.watched (Err NothingTaken) →
    SeesByIfTaken figures_heard old.terminal.framing octets old.figures new.figures (Err NothingTaken) →
    BringsIfTaken old.terminal.framing new.terminal.framing old.brought new.brought (Err NothingTaken) →
    new ≡ record old { terminal = new.terminal; watched = new.watched; figures = new.figures; brought = new.brought } → new ≡ old
untaken steps lends shows old new octets same sees counts brings rest =
    rest ∙ parts_same old new.terminal new.watched new.figures new.brought same sees.sees counts brings

terminal_is : {S : Type 0} (b : Behaviour S) (was now : TerminalFields S) → now.framing ≡ was.framing →
    now.speaking ≡ stopped b.cut_off b.stop_says was.speaking →
    now ≡ record was { speaking = stopped b.cut_off b.stop_says was.speaking }
terminal_is b was now framing speaking = rw (← framing, ← speaking) refl

-- a terminal that was stopped, by its parts
pub stopped_is : {S : Type 0} (b : Behaviour S) (was now : TimedFields S) → now.terminal.framing ≡ was.terminal.framing →
    now.terminal.speaking ≡ stopped b.cut_off b.stop_says was.terminal.speaking → now ≡ record was { terminal = now.terminal } →
    now ≡ record was { terminal = record was.terminal { speaking = stopped b.cut_off b.stop_says was.terminal.speaking } }
stopped_is {S} b was now framing speaking rest =
    rest ∙ ap (λ (terminal : TerminalFields S). record was { terminal = terminal }) (terminal_is b was.terminal now.terminal framing speaking)
