-- What the check asks of `read_so`.
use Rattle.std.proofs.Common.{◌≡◌, ◌∙◌, ℕ, List, ap, inl, length, subst}
use Rattle.raster.specs.declared.row.Color.{Color}
use Rattle.page_files.specs.Decodings.{GivesPage}
use Rattle.page_files.specs.declared.decoding.Broken.{Broken}
use Rattle.commands.specs.Pages.{end_of}
use Rattle.commands.proofs.decode.each.pages.read_so.Goals as goal

pub returns-clause-read : goal.returns-clause-read
returns-clause-read c =
    let decoded = c.in-Ok.decoded in
    let left = c.args.left.now in
    let rows = length decoded.page.rows in
    let same : c.len-rows.result ≡ rows = c.len-rows.ensures.length ∙ ap (λ (l : List (List Color)). length l) c.rows.ensures.rows in
    inl (record {
      image = decoded.page;
      read_to = decoded.read_to;
      lines = decoded.lines.items;
      answer = c.in_ok-answer.answer.end;
      gives = λ text writes. subst (λ (b : Broken). GivesPage b left.form left.octets decoded.read_to rows text decoded.lines.items)
          c.asked-broken.ensures (c.in-Ok.ensures.given text writes);
      tells = c.in_ok-answer.ensures.told;
      end_is = c.end_of.ensures ∙ ap (λ (n : ℕ). end_of n decoded.read_to) same;
      rows_are = same;
      bits_are = c.bits_of.ensures;
      lacks_end = c.lacks_end.ensures;
      complete_is = c.is_answered.ensures;
    })
