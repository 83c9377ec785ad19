use Rattle.std.proofs.Common.{[], ◌∷◌, ap, ◌∙◌}
use Rattle.stations.proofs.caller.Caller.pps_alone.Goals as goal

pub returns : goal.returns
returns c = λ t h.
    rw (c.in-Some.ensures.present.1 t h)
    (c.one.ensures ∙ ap (λ item. item ∷ []) (rw (c.number-page.ensures, c.place-place.ensures, c.block_end-ends.ensures) at
    (c.pps.ensures c.args.self.now.params)))
