use Rattle.joined_terminals.proofs.Promised.{callers_answer, callers_break_off, storing_answers, storing_breaks_off}
use Rattle.joined_terminals.proofs.laws.contracts_are_answers.Goals as goal

pub returns-clause-answerer : goal.returns-clause-answerer
returns-clause-answerer g c = storing_answers _ g.P.PageStore.stores g.P.PageStore.refuses

pub returns-clause-answerer_fails : goal.returns-clause-answerer_fails
returns-clause-answerer_fails g c = storing_breaks_off _ g.P.PageStore.stores g.P.PageStore.refuses

pub returns-clause-caller : goal.returns-clause-caller
returns-clause-caller g c = callers_answer _ g.K.Keeper.keeps

pub returns-clause-caller_fails : goal.returns-clause-caller_fails
returns-clause-caller_fails g c = callers_break_off _ g.K.Keeper.keeps
