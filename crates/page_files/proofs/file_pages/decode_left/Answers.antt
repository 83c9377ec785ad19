-- What the check asks of `decode_left`.
use Rattle.page_files.proofs.TurnedPages.{gives_page, refuses_decoding, same_bits}
use Rattle.std.proofs.Common.{length}
use Rattle.page_files.proofs.file_pages.decode_left.Goals as goal

pub returns-in-Ok-clause-known : goal.returns-in-Ok-clause-known
returns-in-Ok-clause-known c =
    rw (same_bits c.args.form.order c.args.turned.now) (rw c.msb_form.ensures at c.decode_page.ensures.known)

pub returns-in-Ok-clause-given : goal.returns-in-Ok-clause-given
returns-in-Ok-clause-given c image written =
    gives_page c.args.broken c.args.form c.args.turned.now c.in-Ok.decoded.read_to (length c.in-Ok.decoded.page.rows) image
    c.in-Ok.decoded.lines.items (rw c.msb_form.ensures at (c.in-Ok.ensures.given image written))

pub returns-in-Err-clause-known : goal.returns-in-Err-clause-known
returns-in-Err-clause-known c =
    rw (same_bits c.args.form.order c.args.turned.now) (rw c.msb_form.ensures at c.decode_page.ensures.known)

pub returns-in-Err-clause-refused : goal.returns-in-Err-clause-refused
returns-in-Err-clause-refused c = refuses_decoding c.args.broken c.args.form c.args.turned.now c.in-Err.fault
    (rw c.msb_form.ensures at c.in-Err.ensures.refused)
