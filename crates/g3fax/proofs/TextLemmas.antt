-- Texts as C has them.
use Rattle.std.proofs.Common.{◌≡◌, ℕ, List, [], ◌∷◌, Bool, true, false, cond, nat_eq, refl}
use Rattle.g3fax.specs.Texts.{all_ended, ended, text_by}

-- the text of a number by a table of ended texts is that of the table, ended
pub ended_by : (rows : List (ℕ × List ℕ)) (other : List ℕ) (number : ℕ) →
    text_by (all_ended rows) (ended other) number ≡ ended (text_by rows other number)
ended_by [] other number = refl
ended_by (row ∷ rows) other number = one (nat_eq number row.0) (ended_by rows other number)
  where
    one : (is : Bool) → text_by (all_ended rows) (ended other) number ≡ ended (text_by rows other number) →
        cond is (ended row.1) (text_by (all_ended rows) (ended other) number) ≡ ended (cond is row.1 (text_by rows other number))
    one true rest = refl
    one false rest = rest
