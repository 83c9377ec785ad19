-- What the check asks of `salvage_page`.
use Rattle.std.proofs.Common.{◌<◌, ◌∙◌, ℕ, subst, sym}
use Rattle.raster.specs.Packed.{bits_of}
use Rattle.page_code.specs.PageReaders.{HasRowsBefore, IsPageRead, IsPageRefused, IsRead}
use Rattle.page_code.specs.declared.page_reader.PageRead.{PageRead}
use Rattle.page_files.proofs.DecodedPages.{refused_code}
use Rattle.page_files.proofs.DecodedRows.{has_row}
use Rattle.page_files.proofs.pages.salvage_page.Goals as goal

pub returns-in_ok-rows-in-Page-clause-salvaged : goal.returns-in_ok-rows-in-Page-clause-salvaged
returns-in_ok-rows-in-Page-clause-salvaged g c =
    let form = c.args.form in
    let bits = bits_of form.order c.args.octets.now in
    let page = c.in-Page.page in
    let read : IsPageRead form.coding form.width form.fine bits page c.in-Page.bits =
    subst (λ (read : PageRead). IsRead form.coding form.width form.fine bits read) c.in-Page.is c.in_ok-page.ensures.read in
    record {
      page = page;
      read = read.reads;
      rows_are = c.in_ok-rows-in-Page.ensures.rows;
      written = c.in_ok-rows-in-Page.ensures.written (has_row form.coding form.width bits page.rows c.in-Page.bits read.reads.reads);
    }

pub returns-in_ok-rows-in-Refused-clause-salvaged : goal.returns-in_ok-rows-in-Refused-clause-salvaged
returns-in_ok-rows-in-Refused-clause-salvaged g c =
    let form = c.args.form in
    let bits = bits_of form.order c.args.octets.now in
    let code = c.in-Refused.code in
    let page = c.in-Refused.page in
    let is : IsPageRefused form.coding form.width bits code × HasRowsBefore form.coding form.width form.fine bits code page =
    subst (λ (read : PageRead). IsRead form.coding form.width form.fine bits read) c.in-Refused.is c.in_ok-page.ensures.read in
    let rows = c.in_ok-rows-in-Refused.ensures.rows in
    record {
      refused = refused_code form.coding form.order form.width c.args.octets.now code is.0 c.from-fault.result c.from-fault.ensures;
      page = page;
      width_is = is.1.width_is;
      fine_is = is.1.fine_is;
      whole = is.1.whole;
      rows_are = rows;
      written = λ some. c.in_ok-rows-in-Refused.ensures.written (subst (λ (n : ℕ). 0 < n) rows some);
      not_written = λ zero. c.in_ok-rows-in-Refused.ensures.none (sym rows ∙ zero);
    }
