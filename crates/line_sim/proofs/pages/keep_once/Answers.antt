use Rattle.line_sim.proofs.SamePages.{whole_let_go, within_again}
use Rattle.line_sim.proofs.pages.keep_once.Goals as goal

pub returns-clause-whole : goal.returns-clause-whole
returns-clause-whole c =
    whole_let_go c.args.same c.args.call.now c.take_pages-page.new.self (c.has_again.ensures.same c.if-not-has_again.false)
    c.take_pages-page.ensures.left

pub returns-clause-few : goal.returns-clause-few
returns-clause-few c few = within_again c.args.same c.args.call.now (c.has_again.ensures.same c.if-not-has_again.false)
