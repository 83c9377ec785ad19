-- What the check asks of `bits_used`.
use Rattle.page_files.proofs.TurnedPages.{refuses_kept, same_bits}
use Rattle.page_files.proofs.file_pages.bits_used.Goals as goal

pub returns-in-Err-clause-known : goal.returns-in-Err-clause-known
returns-in-Err-clause-known c =
    rw (same_bits c.args.form.order c.args.turned.now) (rw c.msb_form.ensures at c.read_code.ensures.known)

pub returns-in-Err-clause-refused : goal.returns-in-Err-clause-refused
returns-in-Err-clause-refused c = refuses_kept c.read_code.new.kept c.args.form c.args.turned.now c.in-Err.fault
    (rw c.msb_form.ensures at c.in-Err.ensures.refused)
