-- What the check asks of `pass_read`.
use Rattle.std.proofs.Common.{ℕ, ◌≡◌, ◌<◌, ◌∙◌, List, ap, drop, slice_index, subst}
use Rattle.page_files.specs.LaterPages.{BeginsWith}
use Rattle.page_files.specs.TurnedPages.{msb_form}
use Rattle.page_files.proofs.TurnedPages.{after_page, last_page, turned_page}
use Rattle.page_files.proofs.file_pages.FilePages.pass_read.Goals as goal

pub returns-in_default-clause-passed : goal.returns-in_default-clause-passed
returns-in_default-clause-passed c =
    let left : List ℕ = drop c.self.inside.first c.self.inside.octets.items in
    let is : c.left_from-left.result.now ≡ left =
    c.left_from-left.ensures.left ∙ ap (λ (xs : List ℕ). drop c.self.inside.first xs) c.deref.ensures.value in
    let small : (j : ℕ) → slice_index left j < 256 =
    subst (λ (xs : List ℕ). (j : ℕ) → slice_index xs j < 256) is c.left_from-left.ensures.small in
    let begins : BeginsWith (msb_form c.self.inside.form) left c.args.used =
    turned_page c.self.inside.form left c.args.used (rw (← c.self.view_is) at c.requires) in
    rw (← c.self.view_is) (last_page c.self.inside.form left c.args.used small begins
    (rw (c.msb_form.ensures, is) at c.in_default.ensures.later))

pub returns-clause-passed : goal.returns-clause-passed
returns-clause-passed c =
    let left : List ℕ = drop c.self.inside.first c.self.inside.octets.items in
    let is : c.left_from-left.result.now ≡ left =
    c.left_from-left.ensures.left ∙ ap (λ (xs : List ℕ). drop c.self.inside.first xs) c.deref.ensures.value in
    let small : (j : ℕ) → slice_index left j < 256 =
    subst (λ (xs : List ℕ). (j : ℕ) → slice_index xs j < 256) is c.left_from-left.ensures.small in
    let begins : BeginsWith (msb_form c.self.inside.form) left c.args.used =
    turned_page c.self.inside.form left c.args.used (rw (← c.self.view_is) at c.requires) in
    rw (← c.self.view_is) (after_page c.self.inside.form left
    (drop c.clear_before-self-inside.result c.clear_before-self-inside.new.octets.items) c.args.used c.in-Some.start small begins
    (rw (c.msb_form.ensures, is) at c.in-Some.ensures.later)
    c.clear_before-self-inside.ensures.from)
