-- The law of the two-dimensional code, in the words of its trait.
use Rattle.std.proofs.Common.{◌++◌, suc, arith, ◌≡◌, List, [], ◌∷◌, length}
use Rattle.std.specs.List.{AllByRecursion}
use Rattle.std.specs.Prelude.{All}
use Rattle.page_code.specs.TwoDimensions.Modes.{ReadsAsPage}
use Rattle.page_code.specs.PageCodes.{ReadsItsCode}
use Rattle.page_code.specs.TwoDimensions.Code.{page_code}
use Rattle.page_code.proofs.TwoDimensions.Laws.{reads_pages_exactly}
use Rattle.page_code.proofs.TwoDimensions.Prescribed.{reads_own_code}

-- what holds at each place holds of each
by_recursion : {X : Type 0} (P : X → Type 0) (xs : List X) → All P xs → AllByRecursion P xs
by_recursion P [] all = tt
by_recursion P (x ∷ xs) all = (all 0 x (omega arith), by_recursion P xs (λ k d h. all (suc k) d (omega arith)))

-- the law of the code
pub reads_its_code : ReadsItsCode page_code ReadsAsPage
reads_its_code width rows rest wide some few all = (reads_pages_exactly width (page_code width rows ++ rest) rows (length (page_code width
    rows)) wide).0 (reads_own_code width rows rest wide some few (by_recursion (λ row. length row ≡ width) rows all))
