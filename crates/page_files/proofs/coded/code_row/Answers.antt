-- What the check asks of `code_row`.
use Rattle.std.proofs.Common.{◌++◌, ◌∷◌, ◌∙◌, [], ℕ, List, ap, append_assoc, subst, sym}
use Rattle.page_code.specs.RowCoders.{CodesRows}
use Rattle.page_files.proofs.coded.code_row.Goals as goal

pub returns-clause-more : goal.returns-clause-more
returns-clause-more c = λ rows first stands.
    let held = c.args.held.now.items in
    let out = c.in_ok-move_octets.ensures.ok in
    subst (λ (octets : List ℕ). CodesRows c.move_octets.new.self (rows ++ c.args.row.now ∷ []) octets)
    (append_assoc first held out.octets ∙ ap (λ (octets : List ℕ). first ++ octets) (sym out.joined))
    (out.stands (rows ++ c.args.row.now ∷ []) (first ++ held) (c.in_ok-push_row.ensures.2.one_more rows (first ++ held) stands))
