-- What the check asks of `read_code`.
use Rattle.std.proofs.Common.{subst}
use Rattle.raster.specs.Packed.{bits_of}
use Rattle.page_code.specs.PageReaders.{IsPageRefused, IsRead}
use Rattle.page_code.specs.declared.page_reader.PageRead.{PageRead}
use Rattle.page_files.proofs.DecodedPages.{refused_code}
use Rattle.page_files.proofs.coded.read_code.Goals as goal

pub returns-in-Page-clause-read : goal.returns-in-Page-clause-read
returns-in-Page-clause-read c =
    let form = c.args.form in
    let bits = bits_of form.order c.args.octets.now in
    subst (λ (read : PageRead). IsRead form.coding form.width form.fine bits read) c.in-Page.is c.in_ok-page.ensures.read

pub returns-in-Refused-clause-known : goal.returns-in-Refused-clause-known
returns-in-Refused-clause-known c =
    let form = c.args.form in
    let bits = bits_of form.order c.args.octets.now in
    (subst (λ (read : PageRead). IsRead form.coding form.width form.fine bits read) c.in-Refused.is c.in_ok-page.ensures.read).0

pub returns-in-Refused-clause-refused : goal.returns-in-Refused-clause-refused
returns-in-Refused-clause-refused c =
    let form = c.args.form in
    let bits = bits_of form.order c.args.octets.now in
    let is : IsPageRefused form.coding form.width bits c.in-Refused.code =
    (subst (λ (read : PageRead). IsRead form.coding form.width form.fine bits read) c.in-Refused.is c.in_ok-page.ensures.read).0 in (
      c.from.ensures,
      refused_code form.coding form.order form.width c.args.octets.now c.in-Refused.code is c.from.result c.from.ensures,
    )
