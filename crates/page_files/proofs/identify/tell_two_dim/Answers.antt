-- What the check asks of `tell_two_dim`.
use Rattle.page_files.proofs.identify.tell_two_dim.Goals as goal

pub returns-clause-told : goal.returns-clause-told
returns-clause-told g c = (c.two_dim_width-said.result, c.two_dim_width-said.ensures, c.in_ok-tell_two_dim_width.ensures.told)
