use Rattle.stations.proofs.caller.Caller.burst.Goals as goal

pub returns : goal.returns
returns c = λ t h.
    rw (c.in-Some.ensures.present.1 t h) (rw (c.number-page.ensures, c.place-place.ensures, c.block_end-ends.ensures) at
    (c.burst.ensures c.args.self.now.params))
