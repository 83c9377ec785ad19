-- What the check asks of `give_last`.
use Rattle.std.proofs.Common.{ap, length, ◌∙◌}
use Rattle.std.proofs.lemmas.Result.{on_ok_weaker}
use Rattle.page_code.proofs.OneDimension.Repairs.{gives_again}
use Rattle.page_code.proofs.one_dim.repair.give_last.Goals as goal

pub returns : goal.returns
returns c =
    on_ok_weaker c.push_again.result
    (gives_again c.args.page.now c.push_again.new.self c.len-count.result (c.len-count.ensures.length ∙ ap length c.rows.ensures.rows)
    c.rows.ensures.page) c.push_again.ensures.ok
