-- What the check asks of `is_wrongly_spaced`.
use Rattle.std.proofs.Common.{◌∙◌, ◌&&◌, ap, arith, sym}
use Rattle.std.proofs.lemmas.Bool.{and_left, le-ltb, lt-ltb}
use Rattle.std.proofs.lemmas.Str.Pattern.{split_once_first}
use Rattle.std.specs.List.{after_first, before_first}
use Rattle.std.specs.Prelude.{None, Some}
use Rattle.calls.specs.Scripts.{has_space, is_badly_spaced, is_space}
use Rattle.calls.proofs.line_fault.is_wrongly_spaced.Goals as goal

pub returns-in-None : goal.returns-in-None
returns-in-None c =
    let none = split_once_first 32 c.args.line.now None c.in-None.ensures.cases (omega arith) in
    sym (and_left (has_space c.args.line.now) _ (le-ltb _ _ (omega (arith, none))))

pub returns-in-Some : goal.returns-in-Some
returns-in-Some c =
    let line = c.args.line.now in
    let some = split_once_first 32 line (Some (c.in-Some.before, c.in-Some.after)) c.in-Some.ensures.cases (omega arith) in
    c.is_badly_spaced.ensures
    ∙ (ap (λ x. is_badly_spaced x c.in-Some.after.now) some.1
    ∙ (ap (λ y. is_badly_spaced (before_first is_space line) y) some.2
    ∙ sym (ap (λ t. t && is_badly_spaced (before_first is_space line) (after_first is_space line)) (lt-ltb _ _ some.0))))
