use Rattle.raster.proofs.painting.turn.Goals as goal

pub returns-clause-drawn : goal.returns-clause-drawn
returns-clause-drawn c k = rw (← c.reach-here.ensures.drawn k) (c.turn_within.ensures.drawn c.reach-here.new.octets k)
