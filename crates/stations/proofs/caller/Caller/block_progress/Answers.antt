use Rattle.stations.proofs.BlocksDue.{progress_is}
use Rattle.stations.proofs.caller.Caller.block_progress.Goals as goal

pub returns : goal.returns
returns c = λ t r.
    progress_is c.args.self.now t _ c.place-place.result c.count-count.result c.resends-resends.result
    c.place-place.ensures c.count-count.ensures c.resends-resends.ensures r (c.in_ok-blocks.ensures.present.1 t r) c.in_ok-blocks.ensures.coded
