-- What the check asks of `lacks_left`.
use Rattle.page_files.proofs.TurnedPages.{lacks_end}
use Rattle.page_files.proofs.file_pages.lacks_left.Goals as goal

pub returns : goal.returns
returns c = lacks_end c.args.form c.args.turned.now c.args.read_to c.lacks_end.result (rw c.msb_form.ensures at c.lacks_end.ensures)
