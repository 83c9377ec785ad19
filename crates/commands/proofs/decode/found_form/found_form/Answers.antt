-- What the check asks of `found_form`.
use Rattle.std.proofs.Common.{◌≡◌, Ok, rules}
use Rattle.std.specs.Prelude.{IfSome}
use Rattle.commands.specs.FoundForms.{form_by, used_in}
use Rattle.page_files.specs.LaterPages.{BeginsWith}
use Rattle.commands.proofs.WaysFound.{found_begins}
use Rattle.commands.proofs.decode.found_form.found_form.Goals as goal

pub returns-in-Ok-clause-used : goal.returns-in-Ok-clause-used
returns-in-Ok-clause-used c =
    let octets = c.args.octets.now in
    let form = c.in-Ok.form in
    let is : form_by c.args.fine c.in_ok-unread.unread c.in_ok-found.found ≡ Ok form = search rules in
    let begins : IfSome (used_in c.in_ok-found.found) (BeginsWith form octets) =
    found_begins octets c.args.fine c.in_ok-unread.unread c.in_ok-found.found form c.in_ok-found.ensures.reads is in
    (rw c.used_in-used.ensures begins, c.in_ok-found.ensures.page)
