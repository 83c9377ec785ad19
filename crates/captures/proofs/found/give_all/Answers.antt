-- What the check asks of `give_all`.
use Rattle.std.proofs.Common.{◌≡◌, ◌∷◌, List, length, ap, arith, subst, sym, rules, ◌∙◌}
use Rattle.captures.proofs.Following.{IsOnWay, all_are, goes_on}
use Rattle.captures.proofs.found.give_all.Goals as goal
use Rattle.captures.specs.declared.captured.Captured.{Captured}

pub loop-one-init : goal.loop-one-init
loop-one-init g c =
    let gives = c.into_iter-one-iterator.ensures.into_iter_gives in (
      subst (λ (l : List Captured). IsOnWay g.S.FoundStore.takes c.args.store.now c.args.found.items c.args.store.now l) (sym gives.0)
          (λ after is. is),
      let counted : c.args.found.len ≡ length c.args.found.items = search rules in
          gives.1 ∙ counted ∙ ap (λ (l : List Captured). length l) (sym gives.0),
    )

pub loop-one-preserved : goal.loop-one-preserved
loop-one-preserved g c =
    let at = c.loop-one in
    let steps : at.one-iterator.rest.items ≡ c.in-Some.one ∷ c.next.new.self.rest.items = c.in-Some.ensures.steps.0 in
    let way = subst (λ (l : List Captured).
    IsOnWay g.S.FoundStore.takes c.args.store.now c.args.found.items at.store l) steps at.invariant.0 in (
      goes_on _ _ _ _ _ _ _ way c.in_ok-take.ensures.taken,
      let was = at.invariant.1 in let gone = c.in-Some.ensures.steps.1 in let shorter = ap length steps in omega arith,
    )

pub returns-clause-given : goal.returns-clause-given
returns-clause-given g c =
    let at = c.loop-one in
    all_are _ _ _ _ _ at.invariant.0 (sym at.invariant.1 ∙ c.in-None.ensures.steps.0)
