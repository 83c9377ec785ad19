use Rattle.std.proofs.Common.{arith}
use Rattle.page_files.proofs.LaterPages.{none_later}
use Rattle.page_files.proofs.later_pages.later_in.Goals as goal

pub returns-then-used-octets-clause-later : goal.returns-then-used-octets-clause-later
returns-then-used-octets-clause-later c = none_later c.args.form c.args.octets.now c.args.used (omega (arith, c.if-used-octets.true))
