-- What spells a page is read as it.
use Rattle.std.proofs.Common.{ltb, ℕ, ◌≡◌, ◌+◌, ◌<◌, ◌≤◌, inl, inr, Bool, List, [], ◌∷◌, ◌++◌, length, Some, None, refl, ap, sym, ◌∙◌}
use Rattle.std.proofs.Common.{arith, cond, length-append, append_assoc}
use Rattle.std.specs.Prelude.{Ok}
use Rattle.std.proofs.lemmas.List.{length_push, append-nil}
use Rattle.raster.specs.declared.row.Color.{Color}
use Rattle.raster.specs.declared.row.Color.TheVariants.{White}
use Rattle.run_tables.specs.declared.fault.CodeFaultKind.TheVariants.{TooManyCodedRows}
use Rattle.run_tables.specs.Fronts.{Walk, spell}
use Rattle.run_tables.specs.Fronts.Look.{stop, refuse}
use Rattle.run_tables.specs.RunWords.{SpellsRow}
use Rattle.run_tables.proofs.FrontWalks.{Way, way_none, way_on, way_by, walk_on, spell-append}
use Rattle.page_code.specs.OneDimension.Pages.{eol_word, eol_words, AreEols, IsLead, SpellsLater, IsEnd, ReadsAs}
use Rattle.page_code.specs.OneDimension.Fronts.{PageItem, item_word, PageState, Step, zeros_before, bits_of_eols, bits_of_five, ends_with}
use Rattle.page_code.specs.OneDimension.Fronts.{look_in_row, look, reading, read_page}
use Rattle.page_code.specs.OneDimension.Fronts.PageItem.{eol}
use Rattle.page_code.specs.OneDimension.Fronts.PageState.{first, row_start, row_end}
use Rattle.page_code.proofs.OneDimension.ZerosBefore.{zeros_eol, zeros_none, eols_counted}
use Rattle.page_code.proofs.OneDimension.Look.{by_eol_there}
use Rattle.page_code.proofs.OneDimension.RowInPage.{put_row, reading_walk, reading_stop}

abbrev pub PageWay : ℕ → PageState → PageState → List Bool → Type 0
PageWay width s t bits = Way item_word (Step width) s t bits

pub later_way : (width : ℕ) (later rows : List (List Color)) (bits : List Bool) → 0 < width → width ≤ 2432
    → length rows + length later ≤ 20000 → SpellsLater width later bits → PageWay width (row_end rows) (row_end (rows ++ later)) bits
later_way width [] rows bits some wide few spells = rw (spells, append-nil) (way_none item_word (Step width) (row_end rows))
later_way width (row ∷ later) rows bits some wide few spells =
    let lead = way_by item_word (Step width) (row_end rows) (row_start rows) (eol spells.0) (spells.3, refl) in
    let one = put_row width (row_start rows) rows row spells.1 some wide (omega arith, refl) spells.5 spells.4 in
    let more = later_way width later (rows ++ row ∷ []) spells.2 some wide (omega (arith, length_push rows row)) spells.6 in
    let regroup : (rows ++ row ∷ []) ++ later ≡ rows ++ row ∷ later = append_assoc rows (row ∷ []) later in
    rw spells.7 (way_on item_word (Step width) (row_end rows) (row_start rows) (row_end (rows ++ row ∷ later)) (eol_word spells.0) (spells.1
    ++ spells.2) lead
    (way_on item_word (Step width) (row_start rows) (row_end (rows ++ row ∷ [])) (row_end (rows ++ row ∷ later)) spells.1 spells.2 one (rw
    regroup at more)))

pub lead_way : (width : ℕ) (row : List Color) (lead front : List Bool) → 0 < width → width ≤ 2432 → IsLead lead → length row ≡ width
    → SpellsRow row front → PageWay width first (row_end (row ∷ [])) (lead ++ front)
lead_way width row lead front some wide (inl e) full spells = rw e (put_row width first [] row front some wide refl full spells)
lead_way width row lead front some wide (inr e) full spells =
    rw e.2 (way_on item_word (Step width) first (row_start []) (row_end (row ∷ [])) (eol_word e.0) front (way_by item_word (Step width)
    first (row_start []) (eol e.0) (e.1, refl)) (put_row width (row_start []) [] row front some wide (omega arith, refl) full spells))

pub ends_some : (rows : List (List Color)) (more : ℕ) → 0 < length rows → ends_with rows more ≡ stop rows more
ends_some [] more h = absurd (omega (arith, h))
ends_some (row ∷ rows) more h = refl

-- the items before the place where the page's end is seen, and the bits from there
record EndWay (width : ℕ) (rows : List (List Color)) (x : List Bool) (used : ℕ) : Type 0 where
  items : List PageItem
  state : PageState
  rest : List Bool
  more : ℕ
  walk : Walk (Step width) (row_end rows) items state
  split : x ≡ spell item_word items ++ rest
  seen : look width state rest ≡ stop rows more
  used_is : used ≡ length (spell item_word items) + more

five_are : (x : List Bool) → bits_of_five x ≡ bits_of_eols 5 x
unfolding bits_of_five
five_are x = refl

end_way : (width : ℕ) (rows : List (List Color)) (x : List Bool) (used : ℕ) → 0 < length rows → IsEnd x used → EndWay width rows x used
end_way width rows x used some (inl end) =
    let none : zeros_before x ≡ None = zeros_none x end.0 in
    record {
      items = [];
      state = row_end rows;
      rest = x;
      more = 0;
      walk = refl;
      split = refl;
      seen = rw none refl;
      used_is = omega (
        arith,
        end.1,
      );
    }
end_way width rows x used some (inr (inl end)) =
    let none : zeros_before end.1 ≡ None = zeros_none end.1 end.4 in
    record {
      items = eol end.0 ∷ [];
      state = row_start rows;
      rest = end.1;
      more = 0;
      walk = (row_start rows, (end.2, refl), refl);
      split = end.3 ∙ ap (λ l. l ++ end.1) (sym (append-nil (eol_word end.0)));
      seen = rw none (ends_some rows 0 some);
      used_is = omega (arith, end.5, ap length (append-nil (eol_word end.0)));
    }
end_way width rows x used some (inr (inr end)) = counted end.0 end.2 end.3 end.4
  where
    counted : (eols : List ℕ) → AreEols 6 x eols end.1 → 2 ≤ length eols → used ≡ length (eol_words eols) → EndWay width rows x used
    counted [] are two is = absurd (omega arith)
    counted (a ∷ []) are two is = absurd (omega arith)
    counted (a ∷ b ∷ eols) are two is =
        let y : List Bool = (eol_word b ++ eol_words eols) ++ end.1 in
        let alone : (eol_word a ++ []) ++ y ≡ eol_word a ++ y = ap (λ l. l ++ y) (append-nil (eol_word a)) in
        let split : x ≡ eol_word a ++ y = are.split ∙ append_assoc (eol_word a) (eol_word b ++ eol_words eols) end.1 in
        let later : AreEols 5 y (b ∷ eols) end.1 = record {
          long = are.long.1;
          few = omega (arith, are.few);
          split = refl;
          no_more = λ h.
              are.no_more (omega arith);
        } in
        let count : bits_of_five y ≡ length (eol_words (b ∷ eols)) = five_are y ∙ eols_counted 5 y (b ∷ eols) end.1 later in
        let here : zeros_before y ≡ Some b = ap zeros_before (append_assoc (eol_word b) (eol_words eols) end.1) ∙
        zeros_eol b (eol_words eols ++ end.1) in
        let seen : look width (row_start rows) y ≡ stop rows (length (eol_words (b ∷ eols))) = by_eol_there y b (ends_with rows 0) (λ n.
        ends_with rows (bits_of_five y)) (cond (ltb (length rows) 20000) (look_in_row width rows [] White None y) (refuse
        TooManyCodedRows)) here are.long.1.0 ∙ (ap (ends_with rows) count ∙ ends_some rows (length (eol_words (b ∷ eols))) some) in
        record {
          items = eol a ∷ [];
          state = row_start rows;
          rest = y;
          more = length (eol_words (b ∷ eols));
          walk = (row_start rows, (are.long.0, refl), refl);
          split = split ∙ sym alone;
          seen = seen;
          used_is = omega (arith, is, length-append (eol_word a) (eol_words (b ∷ eols)), ap length (append-nil (eol_word a)));
        }

-- what is spelled is read
pub reads_all : (width : ℕ) (x : List Bool) (page : List (List Color)) (used : ℕ) → 0 < width → width ≤ 2432 → ReadsAs width x page used
    → read_page width x ≡ Ok (page, used)
reads_all width x page used some wide reads =
    let rows = reads.rows in
    let all : List (List Color) = rows.row ∷ rows.later in
    let few : length all ≤ 20000 = rw rows.rows_are at reads.few in
    let lead : List Bool = reads.lead in
    let begun = lead_way width rows.row lead rows.front some wide reads.leads rows.wide rows.spells in
    let way : PageWay width first (row_end all) ((lead ++ rows.front) ++ rows.after) = way_on item_word (Step width) first (row_end
    (rows.row ∷ [])) (row_end all) (lead ++ rows.front) rows.after begun (later_way width rows.later (rows.row ∷ []) rows.after some
    wide (omega arith) rows.each) in
    let end = end_way width all reads.rest reads.last (omega arith) reads.ends in
    let items : List PageItem = way.items ++ end.items in
    let walk = walk_on item_word (Step width) way.items end.items first (row_end all) end.state way.walk end.walk in
    let words : spell item_word items ≡ ((lead ++ rows.front) ++ rows.after) ++ spell item_word end.items = spell-append item_word (Step
    width) way.items end.items ∙ ap (λ l. l ++ spell item_word end.items) way.spelled in
    let regroup : (lead ++ rows.front) ++ rows.after ≡ lead ++ reads.bits = append_assoc lead rows.front rows.after ∙
    ap (λ l. lead ++ l) (sym rows.split) in
    let split : spell item_word items ++ end.rest ≡ x =
    ap (λ l. l ++ end.rest) words ∙ (append_assoc ((lead ++ rows.front) ++ rows.after) (spell item_word end.items) end.rest ∙
    (ap (λ l. ((lead ++ rows.front) ++ rows.after) ++ l) (sym end.split) ∙ (ap (λ l. l ++ reads.rest) regroup ∙
    (append_assoc lead reads.bits reads.rest ∙ sym reads.split)))) in
    let places : 0 + length (spell item_word items) + end.more ≡ used = omega (
      arith,
      ap length words,
      length-append ((lead ++ rows.front)
          ++ rows.after) (spell item_word end.items),
      ap length regroup,
      length-append lead reads.bits,
      reads.used_is,
      end.used_is,
    ) in
    let read : read_page width x ≡ Ok (all, 0 + length (spell item_word items) + end.more) = ap (reading width first 0) (sym split) ∙
    (reading_walk width items first end.state 0 end.rest walk ∙
    reading_stop width end.state (0 + length (spell item_word items)) end.rest all end.more end.seen) in
    rw (rows.rows_are, ← places) read
