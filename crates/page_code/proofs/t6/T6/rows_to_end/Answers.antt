-- What the check asks of `T6::rows_to_end`.
use Rattle.std.proofs.Common.{◌≤◌, ◌*◌, ap, arith, length}
use Rattle.raster.specs.Packed.{bits_of}
use Rattle.raster.proofs.PackedLemmas.{length-bits_in}
use Rattle.raster.specs.declared.coding.Coding.TheVariants.{T6}
use Rattle.page_code.specs.declared.page.Progress.{Progress}
use Rattle.page_code.proofs.PageReaders.{read_none, salvaged}
use Rattle.page_code.proofs.TwoDimensions.PageEnds.{ends_there, ends_within}
use Rattle.page_code.proofs.t6.T6.rows_to_end.Goals as goal

pub read_further-requires-clause-read : goal.read_further-requires-clause-read
read_further-requires-clause-read c = rw c.new-to.ensures (read_none T6 c.args.width (bits_of c.args.order c.args.octets.now))

pub no_row_begins-at_end-requires : goal.no_row_begins-at_end-requires
no_row_begins-at_end-requires c =
    let within : c.read_further.new.to.place ≤ length (bits_of c.args.order c.args.octets.now) = ends_within (bits_of c.args.order
    c.args.octets.now) c.new-to.result c.read_further.new.to c.in_ok-read_further.ensures.0 in
    omega (arith, within, length-bits_in c.args.order c.args.octets.now (8 * length c.args.octets.now))

pub returns-clause-rows : goal.returns-clause-rows
returns-clause-rows c = salvaged T6 c.args.width (bits_of c.args.order c.args.octets.now) c.new-to.result c.read_further.new.to c.requires
    (ap (λ (p : Progress). p.page.width) c.new-to.ensures) c.in_ok-read_further.ensures

pub returns-clause-bit : goal.returns-clause-bit
returns-clause-bit c = λ some. ends_there c.args.width (bits_of c.args.order c.args.octets.now) c.new-to.result c.read_further.new.to
    (ap (λ (p : Progress). p.page.width) c.new-to.ensures) c.in_ok-read_further.ensures.0 some
