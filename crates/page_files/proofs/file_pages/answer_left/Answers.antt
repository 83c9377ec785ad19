-- What the check asks of `answer_left`.
use Rattle.std.proofs.Common.{length}
use Rattle.page_files.proofs.TurnedPages.{tells_page}
use Rattle.page_files.proofs.file_pages.answer_left.Goals as goal

pub returns-in-Ok-clause-told : goal.returns-in-Ok-clause-told
returns-in-Ok-clause-told c = tells_page c.args.form c.args.options c.args.turned.now c.args.decoded.read_to
    (length c.args.decoded.page.rows) c.args.decoded.lines.items c.in-Ok.answer.told.items c.in-Ok.answer.end
    (rw c.msb_form.ensures at c.in-Ok.ensures.told)
