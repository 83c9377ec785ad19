use Rattle.std.proofs.Common.{◌≡◌, ◌*◌, arith, ap, ◌∙◌, refl}
use Rattle.hdlc.proofs.GatheringLemmas.{begins}
use Rattle.hdlc.proofs.gap.Gap.gathering.Goals as goal

pub returns-clause-gathers : goal.returns-clause-gathers
returns-clause-gathers c gap old =
    let six : c.min.result ≡ c.args.self.now.ones = omega (arith, c.min.ensures, old.ones) in
    begins c.args.self.now _ gap old c.pending-pending.ensures.part (rw c.from.ensures c.pending-pending.ensures.pending.fits) (omega arith)
    (rw c.from.ensures c.pending-pending.ensures.window) (ap (λ n. n * 256) (c.from-2.ensures ∙ six)) refl
