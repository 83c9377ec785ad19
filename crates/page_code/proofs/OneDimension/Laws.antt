-- The laws of pages in the one-dimensional code.
use Rattle.std.proofs.Common.{ℕ, suc, ◌≡◌, ◌+◌, inr, Bool, List, [], ◌∷◌, ◌++◌, length, refl, ◌∙◌, arith, length-append, append_assoc}
use Rattle.std.specs.Prelude.{All}
use Rattle.raster.specs.declared.row.Color.{Color}
use Rattle.raster.specs.Pixels.{IsWidth}
use Rattle.run_tables.specs.declared.fault.CodeFaultKind.TheVariants.{BadCode}
use Rattle.run_tables.specs.RunWords.{SpellsRow}
use Rattle.run_tables.proofs.FrontWalks.{refused_at, fronts_nested}
use Rattle.run_tables.proofs.RowSpelling.{own_runs_spell}
use Rattle.page_code.specs.OneDimension.OwnRuns.{own_runs}
use Rattle.page_code.specs.OneDimension.Pages.{eol_word, eol_words, AreEols, SpellsLater, row_words, rows_words, rtc, page_words}
use Rattle.page_code.specs.OneDimension.Fronts.{item_word, Step, look, reading}
use Rattle.page_code.specs.OneDimension.Fronts.PageState.{first}
use Rattle.page_code.specs.OneDimension.Laws.{ReadsExactly, RefusesNoPage, RefusesAtLongest, OneFront, ReadsCode}
use Rattle.page_code.proofs.OneDimension.OwnRuns.{own_runs_own}
use Rattle.page_code.proofs.OneDimension.Look.{finds}
use Rattle.page_code.proofs.OneDimension.ReadsAll.{reads_all}
use Rattle.page_code.proofs.OneDimension.ReadsOnly.{reads_only}

pub reads_pages_exactly : ReadsExactly
reads_pages_exactly width x page used wide = (
  λ e. reads_only width x page used wide e,
  λ reads. reads_all width x page
      used (omega (arith, wide.0)) wide.1 reads,
)

pub refuses_no_page : RefusesNoPage
refuses_no_page width x place kind page used wide e reads = let read = reads_all width x page used (omega (arith, wide.0)) wide.1 reads in
    cc

pub refuses_at_longest : RefusesAtLongest
unfolding reading
refuses_at_longest width x place kind e = refused_at item_word (Step width) (look width) BadCode (finds width) first x place kind e

pub one_front : OneFront
one_front width x items others one two = fronts_nested item_word (Step width) (look width) BadCode (finds width) first x items others one
    two

-- The code of a page

row_spells : (width : ℕ) (row : List Color) → IsWidth width → length row ≡ width → SpellsRow row (row_words row)
row_spells width row some wide = own_runs_spell row (own_runs row) (rw wide some) (own_runs_own row)

later_spells : (width : ℕ) (rows : List (List Color)) → IsWidth width → All (λ row. length row ≡ width) rows
    → SpellsLater width rows (rows_words rows)
later_spells width [] some all = refl
later_spells width (row ∷ rows) some all =
    let wide : length row ≡ width = all 0 [] (omega arith) in (
      11,
      row_words row,
      rows_words rows,
      omega arith,
      row_spells width row some wide,
      wide,
      later_spells width rows some (λ k d h. all (suc
          k) d (omega (arith, h))),
      refl,
    )

pub reads_code : ReadsCode
reads_code width [] rest wide some few all = absurd (omega (arith, some))
reads_code width (row ∷ rows) rest wide some few all =
    let lead : List Bool = eol_word 11 in
    let front : List Bool = row_words row in
    let after : List Bool = rows_words rows in
    let bits : List Bool = front ++ after in
    let full : length row ≡ width = all 0 [] (omega arith) in
    let later = later_spells width rows wide (λ k d h. all (suc k) d (omega (arith, h))) in
    let split : page_words (row ∷ rows) ++ rest ≡ lead ++ (bits ++ (eol_words rtc ++ rest)) =
    append_assoc (lead ++ bits) (eol_words rtc) rest ∙ append_assoc lead bits (eol_words rtc ++ rest) in
    let used : length (page_words (row ∷ rows)) ≡ length lead + length bits + length (eol_words rtc) = omega (
      arith,
      length-append (lead ++
          bits) (eol_words rtc),
      length-append lead bits,
    ) in
    let eols : AreEols 6 (eol_words rtc ++ rest) rtc rest = record {
      long = (
        omega arith,
        (
          omega arith,
          (
            omega arith,
            (
              omega arith,
              (
                omega
                    arith,
                (omega arith, tt),
              ),
            ),
          ),
        ),
      );
      few = omega arith;
      split = refl;
      no_more = λ h. absurd (omega (arith, h));
    } in
    reads_all width (page_words (row ∷ rows) ++ rest) (row ∷ rows) (length (page_words (row ∷ rows)))
    (omega (arith, wide.0)) wide.1 (record {
      lead = lead;
      bits = bits;
      rest = eol_words rtc ++ rest;
      last = length (eol_words rtc);
      few = few;
      leads = inr (11, omega arith, refl);
      rows = record {
        row = row;
        later = rows;
        front = front;
        after = after;
        rows_are = refl;
        spells = row_spells width row wide full;
        wide = full;
        each = later;
        split = refl;
      };
      ends = inr (inr (rtc, rest, eols, omega arith, refl));
      split = split;
      used_is = used;
    })
