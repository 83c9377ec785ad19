-- What the check asks of `try_ways`.
use Rattle.page_files.proofs.Identifying.{all_tried}
use Rattle.page_files.proofs.identify.try_ways.Goals as goal

pub returns-clause-tried : goal.returns-clause-tried
returns-clause-tried c =
    all_tried c.args.widths.now c.args.octets.now c.in_ok-results.said c.in_ok-results.results.tried.items
    c.try_widths.new.results.tried.items c.try_widths-2.new.results.tried.items (rw c.of-msb.ensures at c.in_ok-results.ensures.tried)
    (rw c.of-msb.ensures at c.in_ok-try_widths.ensures.forms) (rw c.of-lsb.ensures at c.in_ok-try_widths-2.ensures.forms)
    (rw c.of-msb.ensures at c.in_ok-try_widths.ensures.each) (rw c.of-lsb.ensures at c.in_ok-try_widths-2.ensures.each)
