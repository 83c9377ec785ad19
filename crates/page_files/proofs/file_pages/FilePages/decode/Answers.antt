-- What the check asks of `decode`.
use Rattle.std.proofs.Common.{ℕ, ◌≡◌, ◌∙◌, List, ap, drop}
use Rattle.page_files.proofs.file_pages.FilePages.decode.Goals as goal

pub returns-clause-given : goal.returns-clause-given
returns-clause-given c =
    let is : c.left_from-left.result.now ≡ drop c.self.inside.first c.self.inside.octets.items =
    c.left_from-left.ensures.left ∙ ap (λ (xs : List ℕ). drop c.self.inside.first xs) c.deref.ensures.value in
    rw (← c.self.view_is) (rw is at c.decode_left.ensures.given)
