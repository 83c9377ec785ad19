-- What the check asks of `two_dim_width`.
use Rattle.std.proofs.Common.{◌≡◌, ◌∙◌, ap, arith, length}
use Rattle.raster.specs.Packed.{bits_of}
use Rattle.run_tables.specs.Reading.{Reading}
use Rattle.page_files.proofs.OwnWidths.{length-bits}
use Rattle.page_files.proofs.own_widths.two_dim_width.Goals as goal

pub row_from-requires : goal.row_from-requires
row_from-requires c =
    let same : c.bit.new.self.bits ≡ bits_of c.args.order c.args.octets.now =
    ap (λ (r : Reading). r.bits) c.bit.ensures.after ∙ ap (λ (r : Reading). r.bits) c.at-reader.ensures in
    omega (arith, c.place.ensures.within, ap length same, length-bits c.args.order c.args.octets.now)
