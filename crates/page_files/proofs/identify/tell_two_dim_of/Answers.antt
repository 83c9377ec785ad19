-- What the check asks of `tell_two_dim_of`.
use Rattle.page_files.proofs.identify.tell_two_dim_of.Goals as goal

pub returns-clause-told : goal.returns-clause-told
returns-clause-told g c = rw c.order_name-order.ensures at c.in_ok-writeln.ensures.bytes
