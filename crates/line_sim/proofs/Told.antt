-- What holds of a world holds of what is told of it.
use Rattle.std.proofs.Common.{◌≡◌, ℕ, List, length, Option}
use Rattle.raster.specs.Pages.{PagePixels}
use Rattle.stations.specs.Layers.{Document}
use Rattle.stations.specs.CallerStep.{confirmed}
use Rattle.stations.specs.declared.turn.End.{End}
use Rattle.line_sim.specs.Line.{World}
use Rattle.line_sim.specs.Headline.{IsSafe, IsSafeWorld}
use Rattle.line_sim.specs.PageMachine.{first_state, Moves, page_state, shown}

pub safe_told :
    (document : Document) (w : World) (pages : List PagePixels) (confirms : ℕ) (caller_end answerer_end : Option End) →
    pages ≡ w.answerer.pages → confirms ≡ confirmed w.caller → caller_end ≡ w.caller.ending → answerer_end ≡ w.answerer.ending →
    IsSafeWorld document w → IsSafe document pages confirms caller_end answerer_end
safe_told document w pages confirms caller_end answerer_end p c e f h = rw (p, c, e, f) h

pub moves_told :
    (document : Document) (w : World) (pages : List PagePixels) (confirms : ℕ) (caller_end answerer_end : Option End) →
    pages ≡ w.answerer.pages → confirms ≡ confirmed w.caller → caller_end ≡ w.caller.ending → answerer_end ≡ w.answerer.ending →
    Moves (length document) first_state (shown w) → Moves (length document) first_state (page_state pages confirms caller_end answerer_end)
moves_told document w pages confirms caller_end answerer_end p c e f h = rw (p, c, e, f) h
