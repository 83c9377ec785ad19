-- What the check asks of `try_both`.
use Rattle.page_files.proofs.Identifying.{one_dim_tried}
use Rattle.page_files.proofs.identify.try_both.Goals as goal

pub returns-clause-tried : goal.returns-clause-tried
returns-clause-tried c =
    one_dim_tried c.args.widths.now c.args.msb.now.octets c.in_ok-msb_said.msb_said c.in_ok-lsb_said.lsb_said
    c.new-results.result.tried.items c.try_own.new.results.tried.items c.try_own-2.new.results.tried.items c.new-results.ensures.tried
    (rw c.requires.msb at c.in_ok-msb_said.ensures.own) (rw c.requires.lsb at c.in_ok-lsb_said.ensures.own)
    (rw c.requires.msb at c.in_ok-msb_said.ensures.forms) (rw c.requires.lsb at c.in_ok-lsb_said.ensures.forms)
    c.in_ok-msb_said.ensures.each (rw c.requires.lsb at c.in_ok-lsb_said.ensures.each)
