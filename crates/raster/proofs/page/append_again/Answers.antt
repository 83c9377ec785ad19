use Rattle.std.proofs.Common.{◌≡◌, ◌++◌, ◌∷◌, [], List, subst, sym, ℕ}
use Rattle.std.proofs.lemmas.Result.{on_ok_weaker}
use Rattle.raster.specs.declared.page.RowAt.{RowAt}
use Rattle.raster.specs.Stored.{PushedAgain}
use Rattle.raster.proofs.StoredLemmas.{push_same}
use Rattle.raster.proofs.page.append_again.Goals as goal

pub returns-clause-ok : goal.returns-clause-ok
returns-clause-ok c =
    let again : List ℕ → List RowAt → Type 0 = λ new next.
    PushedAgain c.args.width c.args.at c.args.octets.now.items new c.args.rows.now.items next in
    on_ok_weaker c.push_reserved.result
    (λ rows. subst (again c.push_reserved.new.octets.items) (sym rows)
    (subst (λ (new : List ℕ). again new (c.args.rows.now.items ++ c.index-place.result.now ∷ [])) (sym c.push_reserved.ensures.octets)
    (push_same c.args.width c.args.octets.now.items c.args.rows.now.items c.args.at c.index-place.result.now c.requires.stored
    c.requires.room c.requires.at c.index-place.ensures)))
    c.push_reserved.ensures.rows
