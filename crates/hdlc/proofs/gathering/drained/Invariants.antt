use Rattle.std.proofs.Common.{List, Bool}
use Rattle.hdlc.specs.Gathers.{Gathers, IsGathering}
use Rattle.hdlc.proofs.gathering.drained.Given as goal

abbrev pub invariant-loop-rest : goal.invariant-loop-rest
invariant-loop-rest l = record {
  sound : IsGathering l.rest;
  gathers : (gap : List Bool) → Gathers l.fn.buffer l.fn.state gap → Gathers l.buffer l.rest gap;
}

abbrev pub decreases-loop-rest : goal.decreases-loop-rest
decreases-loop-rest l = l.rest.part
