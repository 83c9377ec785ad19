-- What the check asks of `skip_marked`.
use Rattle.std.proofs.Common.{ℕ, ◌≡◌, ◌<◌, ◌∙◌, List, Some, None, ap, drop, slice_index, subst, sym}
use Rattle.page_files.specs.Marks.{end_of_mark}
use Rattle.page_files.specs.TurnedPages.{msb_form}
use Rattle.page_files.proofs.TurnedPages.{after_mark, last_marked, same_mark}
use Rattle.page_files.proofs.file_pages.FilePages.skip_marked.Goals as goal

pub returns-in_default-clause-unmarked : goal.returns-in_default-clause-unmarked
returns-in_default-clause-unmarked c =
    let left : List ℕ = drop c.self.inside.first c.self.inside.octets.items in
    let is : c.left_from-left.result.now ≡ left =
    c.left_from-left.ensures.left ∙ ap (λ (xs : List ℕ). drop c.self.inside.first xs) c.deref.ensures.value in
    let none : end_of_mark (msb_form c.self.inside.form) left ≡ None =
    rw (c.msb_form.ensures, is) at (sym c.end_of_mark.ensures.end ∙ c.in_default.is) in
    rw (← c.self.view_is) (same_mark c.self.inside.form left ∙ none)

pub returns-in_default-later_in-clause-skipped : goal.returns-in_default-later_in-clause-skipped
returns-in_default-later_in-clause-skipped c =
    let left : List ℕ = drop c.self.inside.first c.self.inside.octets.items in
    let is : c.left_from-left.result.now ≡ left =
    c.left_from-left.ensures.left ∙ ap (λ (xs : List ℕ). drop c.self.inside.first xs) c.deref.ensures.value in
    let small : (j : ℕ) → slice_index left j < 256 =
    subst (λ (xs : List ℕ). (j : ℕ) → slice_index xs j < 256) is c.left_from-left.ensures.small in
    let used : end_of_mark (msb_form c.self.inside.form) left ≡ Some c.in-Some.used =
    rw (c.msb_form.ensures, is) at (sym c.end_of_mark.ensures.end ∙ c.in-Some.is) in
    rw (← c.self.view_is) (last_marked c.self.inside.form left c.in-Some.used small used
    (rw (c.msb_form-2.ensures, is) at c.in_default-later_in.ensures.later))

pub returns-clause-skipped : goal.returns-clause-skipped
returns-clause-skipped c =
    let left : List ℕ = drop c.self.inside.first c.self.inside.octets.items in
    let is : c.left_from-left.result.now ≡ left =
    c.left_from-left.ensures.left ∙ ap (λ (xs : List ℕ). drop c.self.inside.first xs) c.deref.ensures.value in
    let small : (j : ℕ) → slice_index left j < 256 =
    subst (λ (xs : List ℕ). (j : ℕ) → slice_index xs j < 256) is c.left_from-left.ensures.small in
    let used : end_of_mark (msb_form c.self.inside.form) left ≡ Some c.in-Some.used =
    rw (c.msb_form.ensures, is) at (sym c.end_of_mark.ensures.end ∙ c.in-Some.is) in
    rw (← c.self.view_is) (after_mark c.self.inside.form left
    (drop c.clear_before-self-inside.result c.clear_before-self-inside.new.octets.items) c.in-Some.used c.in-Some-later_in.start small used
    (rw (c.msb_form-2.ensures, is) at c.in-Some-later_in.ensures.later)
    c.clear_before-self-inside.ensures.from)
