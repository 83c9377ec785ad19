-- What the check asks of `salvage_rows`.
use Rattle.std.proofs.Common.{subst}
use Rattle.raster.specs.Packed.{bits_of}
use Rattle.page_code.specs.PageReaders.{HasRowsBefore, IsPageRead, IsPageRefused, IsRead}
use Rattle.page_code.specs.declared.page_reader.PageRead.{PageRead}
use Rattle.page_files.proofs.DecodedPages.{salvaged, whole}
use Rattle.page_files.proofs.decoding.salvage_rows.Goals as goal

pub returns-in-Page-clause-given : goal.returns-in-Page-clause-given
returns-in-Page-clause-given c = λ image writes.
    let form = c.args.form in
    let bits = bits_of form.order c.args.octets.now in
    let read : IsPageRead form.coding form.width form.fine bits c.in-Page.page c.in-Page.bits =
    subst (λ (read : PageRead). IsRead form.coding form.width form.fine bits read) c.in-Page.is c.in_ok-page.ensures.read in (
      whole form c.args.octets.now image c.in-Page.page writes form.coding c.in-Page.bits read.reads,
      c.new-lines.ensures.items,
    )

pub returns-in-Refused-clause-known : goal.returns-in-Refused-clause-known
returns-in-Refused-clause-known c =
    let form = c.args.form in
    let bits = bits_of form.order c.args.octets.now in
    (subst (λ (read : PageRead). IsRead form.coding form.width form.fine bits read) c.in-Refused.is c.in_ok-page.ensures.read).0

pub returns-in-Refused-clause-given : goal.returns-in-Refused-clause-given
returns-in-Refused-clause-given c = λ image writes.
    let form = c.args.form in
    let bits = bits_of form.order c.args.octets.now in
    let code = c.in-Refused.code in
    let page = c.in-Refused.page in
    let is : IsPageRefused form.coding form.width bits code × HasRowsBefore form.coding form.width form.fine bits code page =
    subst (λ (read : PageRead). IsRead form.coding form.width form.fine bits read) c.in-Refused.is c.in_ok-page.ensures.read in (
      salvaged form c.args.octets.now image page writes form.coding code.fault is.0.refuses is.0.memory c.from-fault.result
          c.from-fault.ensures is.1.width_is is.1.fine_is is.1.whole,
      c.new-lines.ensures.items,
    )
