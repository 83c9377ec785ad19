-- Pages that were coded by hand, by computing.
use Rattle.std.proofs.Common.{[], ◌∷◌, ◌++◌, None, arith, refl}
use Rattle.std.specs.Prelude.{codes}
use Rattle.raster.specs.declared.row.Color.TheVariants.{White, Black}
use Rattle.run_tables.specs.Codes.{code_word, text}
use Rattle.run_tables.specs.RowFronts.{run_items, after_code, look_code}
use Rattle.run_tables.specs.RowFronts.RunItem.{run_item}
use Rattle.run_tables.specs.RowFronts.RowState.{inside}
use Rattle.run_tables.proofs.CodeLooks.{listed_at}
use Rattle.page_code.specs.OneDimension.Fronts.PageItem.{eol}
use Rattle.page_code.specs.OneDimension.Fronts.PageState.{first, row_start}
use Rattle.page_code.specs.OneDimension.OwnRuns.{own_runs}
use Rattle.page_code.specs.OneDimension.Fronts.{bits_of_five}
use Rattle.page_code.specs.OneDimension.Fronts.{reading as one_dim_reading}
use Rattle.page_code.specs.TwoDimensions.Code.{page_code}
use Rattle.page_code.specs.TwoDimensions.Fronts.{after_mode, after_run, look_mode, look_run}
use Rattle.page_code.specs.TwoDimensions.Fronts.{reading as t6_reading}
use Rattle.page_code.specs.TwoDimensions.Positions.{change_from, b1_of}
use Rattle.page_code.specs.WorkedPages.{AreOneDimPages, AreOpenRows, AreT6Pages}

pub one_dim_pages : AreOneDimPages
unfolding one_dim_reading code_word run_items after_code look_code bits_of_five own_runs
one_dim_pages = record {
  bare = refl;
  zeros = refl;
  one_eol = refl;
  filled_eol = refl;
  lead = refl;
  short_eol = refl;
  two_eols = refl;
  seven_eols = refl;
  written = refl;
}

pub open_rows : AreOpenRows
unfolding code_word after_code
open_rows = record {
  no_pixels = record {
    start = 12;
    pixels = [];
    used = 18;
    begins = (
      row_start [],
      (omega arith, refl),
      (2, refl, omega arith),
      (
        eol 11 ∷ [],
        text (codes "00110101" ++ codes "0000110111" ++ codes "0011"),
        (row_start [], (omega arith, refl), refl),
        refl,
        refl,
        omega arith,
      ),
    );
    leads = record {
      items = run_item White 0 ∷ run_item Black 0 ∷ [];
      rest = text (codes "0011");
      walk = (
        inside [] Black None,
        record { stands = listed_at White 104 0 (omega arith); leads = refl },
        (inside [] White None, record { stands = listed_at Black 104 0 (omega arith); leads = refl }, refl),
      );
      spelled = refl;
      place_is = refl;
    };
    at_is = refl;
    left_is = refl;
  };
  white = record {
    start = 0;
    pixels = White ∷ White ∷ [];
    used = 4;
    begins = (first, refl, (1, refl, omega arith), ([], text (codes "0111" ++ codes "0"), refl, refl, refl, omega arith));
    leads = record {
      items = run_item White 2 ∷ [];
      rest = text (codes "0");
      walk = (
        inside (White ∷ White ∷ []) Black None,
        record { stands = listed_at White 104 2 (omega arith); leads = refl },
        refl,
      );
      spelled = refl;
      place_is = refl;
    };
    at_is = refl;
    left_is = refl;
  };
  fill = ([], refl);
}

pub t6_pages : AreT6Pages
unfolding t6_reading page_code code_word run_items b1_of change_from after_mode after_run look_mode look_run
t6_pages = record { blank_written = refl; stripe_written = refl; again_written = refl; right_written = refl; right_read = refl }
