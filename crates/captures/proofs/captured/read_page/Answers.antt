-- What the check asks of `read_page`.
use Rattle.std.proofs.Common.{subst}
use Rattle.raster.specs.Packed.{bits_of}
use Rattle.raster.specs.declared.packed.Order.TheVariants.{LsbFirst}
use Rattle.page_code.specs.PageReaders.{IsPageRead, IsPageRefused, IsRead}
use Rattle.page_code.specs.declared.page_reader.PageRead.{PageRead}
use Rattle.captures.proofs.CapturedSteps.{page_found, page_not_found}
use Rattle.captures.proofs.captured.read_page.Goals as goal

pub returns-in-Ok-Page-clause-found : goal.returns-in-Ok-Page-clause-found
returns-in-Ok-Page-clause-found c =
    let read : IsPageRead c.args.params.coding c.pixels-width.result c.args.params.fine (bits_of LsbFirst c.args.octets.now)
    c.in-Ok-Page.page c.in-Ok-Page._used =
    subst (λ (read : PageRead). IsRead c.args.params.coding c.pixels-width.result c.args.params.fine (bits_of LsbFirst c.args.octets.now)
    read) c.in-Ok-Page.field-0-is c.in-Ok-Page.ensures in
    page_found c.args.params c.args.mark c.args.octets.now c.in-Ok-Page.page c.pixels-width.result c.in-Ok-Page._used c.pixels-width.ensures
    read.reads.width_is read.reads.fine_is read.gives

pub returns-in-Ok-Refused-clause-found : goal.returns-in-Ok-Refused-clause-found
returns-in-Ok-Refused-clause-found c =
    let read : IsPageRefused c.args.params.coding c.pixels-width.result (bits_of LsbFirst c.args.octets.now) c.in-Ok-Refused.refused =
    (subst (λ (read : PageRead). IsRead c.args.params.coding c.pixels-width.result c.args.params.fine (bits_of LsbFirst c.args.octets.now)
    read) c.in-Ok-Refused.field-0-is c.in-Ok-Refused.ensures).0 in
    page_not_found c.args.params c.args.mark c.args.octets.now c.in-Ok-Refused.refused.fault c.pixels-width.result c.pixels-width.ensures
    read.gives
