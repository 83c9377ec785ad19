use Rattle.joined_terminals.proofs.HeldPromised.{holding_answers, holding_breaks_off}
use Rattle.joined_terminals.proofs.laws.held_contracts_are_answers.Goals as goal

pub returns-clause-ok : goal.returns-clause-ok
returns-clause-ok g c =
    holding_answers _ g.P.PageHolder.hands g.P.PageHolder.refuses g.P.PageHolder.stores g.P.PageHolder.held

pub returns-clause-err : goal.returns-clause-err
returns-clause-err g c =
    holding_breaks_off _ g.P.PageHolder.hands g.P.PageHolder.refuses g.P.PageHolder.stores g.P.PageHolder.held
