-- A row that no EOL follows.
use Rattle.std.proofs.Common.{◌≡◌, ◌≤◌, ℕ, Bool, true, false, List, [], ◌∷◌, ◌++◌, zero, suc, refl, ap, sym, ◌∙◌, subst, arith}
use Rattle.std.proofs.Common.{append_assoc, drop}
use Rattle.std.proofs.lemmas.Bool.{both_ways}
use Rattle.std.specs.Prelude.{replicate}
use Rattle.raster.specs.declared.row.Color.{Color}
use Rattle.raster.specs.Words.{number_bits}
use Rattle.run_tables.specs.Reading.{Reading, rest_of}
use Rattle.run_tables.specs.RowReading.{ReadsRow}
use Rattle.run_tables.specs.Texts.{begins}
use Rattle.page_code.specs.OneDimension.Pages.{EolBegins}
use Rattle.page_files.specs.Refusals.{HasNoEol}

begins_zeros : (k count : ℕ) (y : List Bool) → k ≤ count → begins (replicate k false) (replicate count false ++ y) ≡ true
begins_zeros zero count y h = refl
begins_zeros (suc k) zero y h = absurd (omega (arith, h))
begins_zeros (suc k) (suc count) y h = begins_zeros k count y (omega (arith, h))

-- an EOL begins with 11 bits of 0
eol_zeros : (x : List Bool) → EolBegins x → begins (replicate 11 false) x ≡ true
eol_zeros x (count, rest, most, is) =
    ap (begins (replicate 11 false)) (is ∙ append_assoc (replicate count false) (true ∷ []) rest)
    ∙ begins_zeros 11 count (true ∷ [] ++ rest) most

eleven : number_bits 11 0 ≡ replicate 11 false
eleven = refl

-- a row is read up to a place, and the bits from there on don't begin with 11 bits of 0
pub no_eol_there : (width : ℕ) (old new : Reading) (row : List Color) (place : ℕ) (zeros : Bool) → ReadsRow width old new row
    → new.place ≡ place → zeros ≡ begins (number_bits 11 0) (rest_of new) → zeros ≡ false → HasNoEol width old.bits place
no_eol_there width old new row place zeros read at is none = record {
  start = old.place;
  row = row;
  used = read.used;
  reads = read.reads;
  ends = sym (ap (λ (r : Reading). r.place) read.after) ∙ at;
  none = λ eol. both_ways zeros none
      (is ∙ (ap (λ word. begins word (rest_of new)) eleven ∙ eol_zeros (rest_of new) (subst EolBegins (sym here) eol)));
}
  where
    here : rest_of new ≡ drop place old.bits
    here = ap (λ (bits : List Bool). drop new.place bits) (ap (λ (r : Reading). r.bits) read.after) ∙ ap (λ k. drop k old.bits) at
