use Rattle.std.proofs.Common.{◌<◌, ◌*◌, arith, length}
use Rattle.partial_page.proofs.StoreLemmas.{bit_of-set_bit}
use Rattle.partial_page.proofs.store.mark.Goals as goal

pub returns-then-marked : goal.returns-then-marked
returns-then-marked c k =
    let within : c.args.n < 8 * length c.args.octets.now = omega arith in
    rw c.if-marked.true (bit_of-set_bit c.args.octets.now c.args.n k within)
