-- No frame is open exactly where the store is empty.
use Rattle.stations.proofs.PageReads.{clear_tells}
use Rattle.stations.proofs.answerer.Answerer.is_clear.Goals as goal

pub returns : goal.returns
returns c = rw (← c.self.view_is) (clear_tells c.self.inside.block.frames.frames c.is_empty.result c.is_empty.ensures.store.places
    c.is_empty.ensures.empty)
