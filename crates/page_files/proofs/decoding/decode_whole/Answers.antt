-- What the check asks of `decode_whole`.
use Rattle.page_files.proofs.DecodedPages.{whole}
use Rattle.page_files.proofs.decoding.decode_whole.Goals as goal

pub returns-clause-given : goal.returns-clause-given
returns-clause-given c = λ image writes. (
  whole c.args.form c.args.octets.now image c.in_ok-page.page writes c.args.form.coding c.in_ok-page.bits
      c.in_ok-page.ensures.read.reads,
  c.new-lines.ensures.items,
)
