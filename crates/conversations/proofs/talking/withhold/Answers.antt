-- What the check asks of `withhold`.
use Rattle.std.proofs.Common.{◌≡◌, true, false, rules, subst, sym}
use Rattle.std.proofs.lemmas.Result.{err_from_is_err_and}
use Rattle.std.specs.Prelude.{Bool, is_none}
use Rattle.std.specs.declared.alloc.AllocError.{AllocError}
use Rattle.conversations.proofs.Turns.{begins_to_give, gave_last, gave_more, gave_some, given_next, unsent}
use Rattle.conversations.proofs.talking.withhold.Goals as goal
use Rattle.conversations.specs.Talking.{Withholds}

pub loop-burst-init : goal.loop-burst-init
loop-burst-init g c = begins_to_give _ _ _

pub returns-then-is_none-clause-ok : goal.returns-then-is_none-clause-ok
returns-then-is_none-clause-ok g c =
    let given = given_next AllocError g.S.Station.sends g.S.Station.lends _ _ _ _ c.in_ok-next_burst.ensures in
    let none : is_none c.in_ok-next_burst.field-0 ≡ true = search rules in
    let late : c.args.late ≡ true = search rules in
    subst (λ (b : Bool). Withholds g.S.Station.sends g.S.Station.lends c.args.conversation.now b c.next_burst.new.self) (sym late)
    (gave_last _ _ _ c.loop-burst.conversation _ c.in_ok-next_burst.field-0 c.loop-burst.invariant given none)

pub loop-burst-preserved : goal.loop-burst-preserved
loop-burst-preserved g c =
    let given = given_next AllocError g.S.Station.sends g.S.Station.lends _ _ _ _ c.in_ok-next_burst.ensures in
    let some : is_none c.in_ok-next_burst.field-0 ≡ false = search rules in
    gave_more _ _ _ c.loop-burst.conversation _ c.in_ok-next_burst.field-0 c.loop-burst.invariant given some

pub returns-in_err-next_burst-clause-err : goal.returns-in_err-next_burst-clause-err
returns-in_err-next_burst-clause-err g c =
    let is = err_from_is_err_and c.from_residual.result c.from_residual.ensures.1 in
    rw is.1 (gave_some _ _ _ c.loop-burst.conversation _ c.loop-burst.invariant
    (unsent AllocError g.S.Station.sends g.S.Station.lends _ _ _ _ c.in_err-next_burst.ensures))
