-- What is written of repaired rows, and when a line of a page ends.
use Rattle.std.proofs.Common.{◌≡◌, ◌+◌, ℕ, zero, suc, Bool, true, false, List, ◌∷◌, ◌++◌, refl, ap, sym, ◌∙◌}
use Rattle.std.proofs.Common.{arith}
use Rattle.std.proofs.Common.{subst}
use Rattle.std.specs.Fmt.{digits}
use Rattle.std.specs.Prelude.{slice_index_or, slice_set}
use Rattle.page_code.specs.OneDimension.Pages.{eol_word}
use Rattle.page_files.specs.RepairsMean.{RowsAreListed, TornIsOneBitOff}

pub rows_are_listed : RowsAreListed
unfolding digits
rows_are_listed = record { none = refl; one = refl; two = refl }

-- the bit after 0 bits, before others
bit_there : (zeros : ℕ) (rest : List Bool) → slice_index_or (eol_word zeros ++ rest) zeros false ≡ true
bit_there zero rest = refl
bit_there (suc zeros) rest = bit_there zeros rest

-- with a 0 in its place the 0 bits before it and after it are in a row
bit_gone : (zeros more : ℕ) (rest : List Bool) →
    slice_set (eol_word zeros ++ (eol_word more ++ rest)) zeros false ≡ eol_word (zeros + suc more) ++ rest
bit_gone zero more rest = let same : suc more ≡ 0 + suc more = omega arith in ap (λ (n : ℕ). eol_word n ++ rest) same
bit_gone (suc zeros) more rest =
    let same : suc (zeros + suc more) ≡ suc zeros + suc more = omega arith in
    ap (λ (bits : List Bool). false ∷ bits) (bit_gone zeros more rest) ∙ ap (λ (n : ℕ). eol_word n ++ rest) same

pub torn_is_one_bit_off : TornIsOneBitOff
torn_is_one_bit_off x used (zeros, more, rest, early, enough, is, used_is) = record {
  place = zeros;
  early = early;
  wrong = subst (λ (bits : List Bool). slice_index_or bits zeros false ≡ true) (sym is) (bit_there zeros (eol_word more ++ rest));
  right = (
    zeros + suc more,
    rest,
    omega (arith, enough),
    subst (λ (bits : List Bool). slice_set bits zeros false ≡ eol_word (zeros + suc more) ++ rest) (sym is) (bit_gone zeros more rest),
    omega (arith, used_is),
  );
}
