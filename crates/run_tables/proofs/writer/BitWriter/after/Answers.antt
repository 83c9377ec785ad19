use Rattle.std.proofs.Common.{List, Bool, ◌≡◌, ap, arith, length}
use Rattle.raster.specs.Packed.{Bits}
use Rattle.run_tables.proofs.PendingLemmas.{held-octets}
use Rattle.run_tables.proofs.writer.BitWriter.after.Goals as goal

pub returns-clause-ok : goal.returns-clause-ok
returns-clause-ok c =
    let with_bits : List Bool → Bits = λ bits. record { order = c.args.order; bits = bits } in
    let all : c.len-at.result ≡ length c.args.octets.now.items = omega (arith, c.len-at.ensures, c.args.octets.now.ok.0) in
    rw (c.replace.ensures.value, all)
    (ap with_bits (held-octets c.args.order c.args.octets.now.items c.make_room.new.octets.items (c.make_room.ensures.same c.args.order)))
