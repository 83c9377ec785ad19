-- What the check asks of `answer_decode`.
use Rattle.std.proofs.Common.{[], Some, length, subst}
use Rattle.raster.specs.Pages.{PagePixels}
use Rattle.page_files.specs.CodedPages.{WritesPage}
use Rattle.page_files.specs.Decodings.{GivesPage}
use Rattle.page_files.specs.declared.decoding.Broken.{Broken}
use Rattle.page_files.proofs.answer.answer_decode.Goals as goal

pub returns-clause-answered : goal.returns-clause-answered
returns-clause-answered c = λ image writes.
    let decoded = c.in_ok-decoded.decoded in
    let octets = c.args.octets.now in
    let given = c.in_ok-decoded.ensures.given image
    (subst (λ (page : PagePixels). WritesPage page (Some []) (Some image)) c.in_ok-answer.ensures.page writes) in
    record {
      read_to = decoded.read_to;
      rows = length decoded.page.rows;
      lines = decoded.lines.items;
      gives = subst (λ (b : Broken). GivesPage b c.args.form octets decoded.read_to (length decoded.page.rows) image decoded.lines.items)
          c.asked-broken.ensures given;
      tells = c.in_ok-answer.ensures.told;
    }
