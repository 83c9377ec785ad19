-- What the check asks of `width_in`.
use Rattle.std.specs.Prelude.{codes}
use Rattle.std.proofs.Common.{◌≡◌, ◌≤◌, Some, None, subst, rules}
use Rattle.clap.specs.Words.{found_of, rows_of}
use Rattle.faxtool.specs.Jobs.{ReadsNumber}
use Rattle.faxtool.proofs.JobLemmas.{width_made, width_none, width_outside}
use Rattle.faxtool.proofs.args.words.width_in.Goals as goal

pub returns-in-Some : goal.returns-in-Some
returns-in-Some c =
    let rows = rows_of (found_of c.args.matches.now) in
    let some : c.number_in.result ≡ Some c.in-Some.width = search rules in
    width_made rows c.in-Some.width (subst (ReadsNumber (codes "width") rows) some c.number_in.ensures) (search rules) (search rules)

pub returns-in_default : goal.returns-in_default
returns-in_default c =
    let rows = rows_of (found_of c.args.matches.now) in
    let some : c.number_in.result ≡ Some c.in-Some.width = search rules in
    let above : c.in-Some.width ≤ 2432 → ⊥ = search rules in
    width_outside rows c.in-Some.width (subst (ReadsNumber (codes "width") rows) some c.number_in.ensures) (λ least most. above most)

pub returns-in_default-2 : goal.returns-in_default-2
returns-in_default-2 c =
    let rows = rows_of (found_of c.args.matches.now) in
    let some : c.number_in.result ≡ Some c.in-Some.width = search rules in
    let below : 1 ≤ c.in-Some.width → ⊥ = search rules in
    width_outside rows c.in-Some.width (subst (ReadsNumber (codes "width") rows) some c.number_in.ensures) (λ least most. below least)

pub returns-in_default-3 : goal.returns-in_default-3
returns-in_default-3 c =
    let rows = rows_of (found_of c.args.matches.now) in
    let none : c.number_in.result ≡ None = search rules in
    width_none rows (subst (ReadsNumber (codes "width") rows) none c.number_in.ensures)
