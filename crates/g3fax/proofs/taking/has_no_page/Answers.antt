-- What the check asks of `has_no_page`.
use Rattle.std.proofs.Common.{◌≡◌, length, rules}
use Rattle.g3fax.proofs.TakingLemmas.{none_before}
use Rattle.g3fax.proofs.taking.has_no_page.Goals as goal

pub returns-then-not-is_empty : goal.returns-then-not-is_empty
returns-then-not-is_empty c = (
  λ no. absurd cc,
  λ none.
      let empty : length c.args.answering.now.waiting ≡ 0 = none_before c.args.answering.now.waiting _ none in
      search rules,
)
