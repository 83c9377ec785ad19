-- Which end of a call is the wanted one.
use Rattle.std.specs.Prelude.{Bool, true, false, Option, Some, ◌&&◌}
use Rattle.stations.specs.declared.turn.End.{End}
use Rattle.stations.specs.declared.turn.End.TheVariants.{Normal}
use Rattle.line_sim.specs.declared.live.Ending.{Ending}

-- a call ended normally for a station
abbrev pub is_normal : Option End → Bool
is_normal (Some Normal) = true
is_normal _ = false

-- a call ended normally for both stations, so all its pages went over and both say so
abbrev pub ended_normally : Ending → Bool
ended_normally ending = is_normal ending.caller_end && is_normal ending.answerer_end
