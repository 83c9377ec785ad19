-- How many bursts the turn of a station has.
use Rattle.std.specs.Prelude.{◌≤◌, length}
use Rattle.stations.specs.AnswererStep.{Answerer, answerer_items}
use Rattle.stations.specs.Bursts.{bursts_of}
use Rattle.stations.specs.CallerStep.{Caller, caller_items}
use Rattle.stations.specs.declared.turn.Turn.{Turn}

-- law: a turn of a caller has two bursts at most
abbrev pub CallersSendTwo : Type 0
CallersSendTwo = (t : Caller) (turn : Turn) → length (bursts_of t.params.speed (caller_items t turn)) ≤ 2

-- law: a turn of an answerer has one burst at most
abbrev pub AnswerersSendOne : Type 0
AnswerersSendOne = (s : Answerer) (turn : Turn) → length (bursts_of s.params.speed (answerer_items s turn)) ≤ 1
