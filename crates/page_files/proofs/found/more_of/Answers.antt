-- What the check asks of `more_of`.
use Rattle.std.proofs.Common.{rules}
use Rattle.page_files.proofs.Furthest.{stays}
use Rattle.page_files.proofs.found.more_of.Goals as goal

pub returns-then-not-has_begun-clause-most : goal.returns-then-not-has_begun-clause-most
returns-then-not-has_begun-clause-most c tried is =
    stays c.args.coding c.args.said c.args.octets.now tried c.args.one.now c.args.most (search rules) is
