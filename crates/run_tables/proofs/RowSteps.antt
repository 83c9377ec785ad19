-- The runs of a row, one after the other.
use Rattle.std.proofs.Common.{ℕ, ◌≡◌, ◌≤◌, ◌-◌, ◌<◌, ◌++◌, ◌∷◌, [], List, length, replicate, arith, ap, sym, ◌∙◌, length-append}
use Rattle.std.specs.Prelude.{Ok}
use Rattle.std.proofs.lemmas.List.{length-replicate}
use Rattle.raster.specs.declared.row.Color.{Color}
use Rattle.raster.specs.declared.row.Color.TheVariants.{White}
use Rattle.raster.specs.Pixels.{other}
use Rattle.raster.specs.Runs.{colored}
use Rattle.raster.proofs.RowLemmas.{colored_push, follows_push, length-colored}
use Rattle.run_tables.specs.CodeReading.{ReadsRunWithin}
use Rattle.run_tables.specs.declared.fault.CodeFaultKind.TheVariants.{RunTooLong}
use Rattle.run_tables.specs.Reading.{Reading, rest_of}
use Rattle.run_tables.specs.RowFronts.{run_ended, reading}
use Rattle.run_tables.specs.RowFronts.RowState.{inside, whole}
use Rattle.run_tables.specs.RowReading.{IsInRow, RowRuns}
use Rattle.run_tables.proofs.RowReads.{within_row, row_read, run_on}

-- one run more
pub in_row_more : (width : ℕ) (old mid new : Reading) (runs : List ℕ) (color : Color) (room run : ℕ) → 0 < room
    → IsInRow width old mid runs color room → ReadsRunWithin color room RunTooLong mid new (Ok run)
    → IsInRow width old new (runs ++ run ∷ []) (other color) (room - run) × (mid.place < new.place) × (run ≤ room)
in_row_more width old mid new runs color room run some row reads =
    let drawn : List Color = colored White runs in
    let within = within_row color room mid new (Ok run) reads in
    let more = colored_push runs run color row.follows in
    let on = run_on width drawn room color mid new run row.left some within in (
      record {
        bits = within.1 ∙ row.bits;
        within = within.3;
        left = omega (
          arith,
          row.left,
          within.0,
          ap length more,
          length-append drawn (replicate run color),
          length-replicate run color,
        );
        follows = follows_push runs run color row.follows;
        reads = row.reads ∙ (on ∙ ap (λ (p : List Color). reading width (run_ended whole inside width p (other color)) new.place (rest_of
            new)) (sym more));
      },
      within.2,
      within.0,
    )

-- a row with no pixels left is whole
pub row_ended : (width : ℕ) (old new : Reading) (runs : List ℕ) (color : Color) (room : ℕ) → room ≡ 0
    → IsInRow width old new runs color room
    → RowRuns width old new runs (Ok tt)
row_ended width old new runs color room none row =
    let full : length (colored White runs) ≡ width = omega (arith, row.left) in (
      row.bits,
      row.within,
      sym (length-colored White runs) ∙ full,
      row.reads ∙ row_read width (colored White runs) color new full,
    )
