-- Run codes lead to the row that they spell.
use Rattle.std.proofs.Common.{ℕ, ◌≡◌, ◌+◌, ◌-◌, ◌*◌, ◌/◌, ◌%◌, ◌<◌, ◌≤◌, inl, inr, Bool, true, false, List, [], ◌∷◌, ◌++◌, length}
use Rattle.std.proofs.Common.{replicate, Some, None, refl, ap, ◌∙◌, arith, cond, nat_eq}
use Rattle.std.specs.Prelude.{Option, Ok, Contains}
use Rattle.std.proofs.lemmas.Bool.{lt-ltb, le-ltb, eqb-true, eqb-false, cases_lt}
use Rattle.raster.specs.declared.row.Color.{Color}
use Rattle.raster.specs.declared.row.Color.TheVariants.{White}
use Rattle.raster.specs.Pixels.{other}
use Rattle.run_tables.specs.Codes.{code_word, run_words, run_at}
use Rattle.run_tables.specs.RunWords.{SpellsRow}
use Rattle.run_tables.specs.RowFronts.{item_word, run_items, allowed, amount, run_ended, after_code, RowState, row_begin, Step}
use Rattle.run_tables.specs.RowFronts.RunItem.{run_item}
use Rattle.run_tables.specs.RowFronts.RowState.{inside, whole}
use Rattle.run_tables.proofs.FrontWalks.{Way, way_none, way_on, way_by}
use Rattle.run_tables.proofs.CodeLooks.{listed_at}
use Rattle.run_tables.proofs.RowSpelling.{SpellsRuns, spells_runs, count_push, run_at_low, run_at_high}

abbrev pub RowWay : ℕ → RowState → RowState → List Bool → Type 0
RowWay width s t bits = Way item_word (Step width) s t bits

low_stands : (color : Color) (makeup : Option ℕ) (n : ℕ) → n < 64 → Contains (allowed color makeup) (run_item color n)
low_stands color None n h = rw (run_at_low n h) at (listed_at color 104 n (omega arith))
low_stands color (Some m) n h = rw (run_at_low n h) at (listed_at color 64 n h)

low_leads : (width : ℕ) (pixels : List Color) (color : Color) (makeup : Option ℕ) (n : ℕ) → n < 64
    → length pixels + (amount makeup + n) ≤ width
    → after_code whole inside width pixels color makeup n ≡ Ok (run_ended whole inside width (pixels ++ replicate (amount makeup + n) color)
    (other color))
unfolding after_code
low_leads width pixels color makeup n low fits = rw (le-ltb width (length pixels + (amount makeup + n)) fits, lt-ltb n 64 low) refl

pub high_leads : (width : ℕ) (pixels : List Color) (color : Color) (n : ℕ) → 64 ≤ n → length pixels + (0 + n) ≤ width
    → after_code whole inside width pixels color None n ≡ Ok (inside pixels color (Some n))
unfolding after_code
high_leads width pixels color n high fits = rw (le-ltb width (length pixels + (0 + n)) fits, le-ltb n 64 high) refl

pub run_way : (width : ℕ) (pixels : List Color) (color : Color) (n : ℕ) → width ≤ 2432 → length pixels + n ≤ width
    → RowWay width (inside pixels color None) (run_ended whole inside width (pixels ++ replicate n color) (other color)) (run_words color n)
run_way width pixels color n wide fits = elim (cases_lt n 64) [
  | inl low ↦
      let same : 0 + n ≡ n = omega arith in
      let leads = low_leads width pixels color None n low (omega arith) in
      rw (lt-ltb n 64 low) (way_by item_word (Step width) (inside pixels color None) (run_ended whole inside width (pixels ++ replicate n
      color) (other color)) (run_item color n) (record {
        stands = low_stands color None n low;
        leads = leads ∙
            ap (λ m. Ok (run_ended whole inside width (pixels ++ replicate m color) (other color))) same;
      }))
  | inr up ↦
      let whole_run : 64 * (n / 64) + n % 64 ≡ n = omega arith in
      let same : 63 + n / 64 - 63 ≡ n / 64 = omega arith in
      let place : run_at (63 + n / 64) ≡ 64 * (n / 64) = run_at_high (63 + n / 64) (omega arith) ∙ ap (λ k. 64 * k) same in
      let stands : Contains (run_items color 104) (run_item color (64 * (n / 64))) = rw place at (listed_at color 104 (63 + n / 64) (omega
      arith)) in
      let leads = low_leads width pixels color (Some (64 * (n / 64))) (n % 64) (omega arith) (omega arith) in
      let next : RowState = run_ended whole inside width (pixels ++ replicate n color) (other color) in
      let between : RowState = inside pixels color (Some (64 * (n / 64))) in
      rw (le-ltb n 64 up) (way_on item_word (Step width) (inside pixels color None) between next (code_word color (64 * (n / 64)))
      (code_word color (n % 64))
      (way_by item_word (Step width) (inside pixels color None) between (run_item color (64 * (n / 64))) (record {
        stands = stands;
        leads =
            high_leads width pixels color (64 * (n / 64)) (omega arith) (omega arith);
      }))
      (way_by item_word (Step width) between next (run_item color (n % 64)) (record {
        stands = low_stands color (Some (64 * (n / 64))) (n %
            64) (omega arith);
        leads = leads ∙
            ap (λ m. Ok (run_ended whole inside width (pixels ++ replicate m color) (other color))) whole_run;
      })))
]

runs_way : (width : ℕ) (runs : List ℕ) (pixels : List Color) (color : Color) (row : List Color) (bits : List Bool) → width ≤ 2432
    → length pixels < width → SpellsRuns width pixels color runs row bits → RowWay width (inside pixels color None) (whole row) bits
runs_way width [] pixels color row bits wide short spells = absurd (omega (arith, ap length spells.0, spells.1))
runs_way width (n ∷ runs) pixels color row bits wide short spells =
    rw spells.3 (way_on item_word (Step width) (inside pixels color None) (run_ended whole inside width (pixels ++ replicate n color) (other
    color)) (whole row) (run_words color n) spells.0 (run_way width pixels color n wide spells.2)
    (after (nat_eq (length (pixels ++ replicate n color)) width) refl (λ h. runs_way width runs (pixels ++ replicate n color) (other color)
    row spells.0 wide h spells.4)))
  where
    ended : (js : List ℕ) → length (pixels ++ replicate n color) ≡ width
        → SpellsRuns width (pixels ++ replicate n color) (other color) js row spells.0
        → (pixels ++ replicate n color ≡ row) × (spells.0 ≡ [])
    ended [] full tail = (tail.0, tail.2)
    ended (j ∷ js) full tail = absurd (omega (arith, tail.1))

    after : (b : Bool) → nat_eq (length (pixels ++ replicate n color)) width ≡ b → (length (pixels ++ replicate n color) < width
        → RowWay width (inside (pixels ++ replicate n color) (other color) None) (whole row) spells.0)
        → RowWay width (cond b (whole (pixels ++ replicate n color)) (inside (pixels ++ replicate n color) (other color) None)) (whole row)
        spells.0
    after true is again =
        let end = ended runs (eqb-true (length (pixels ++ replicate n color)) width is) spells.4 in
        rw (end.0, end.1) (way_none item_word (Step width) (whole row))
    after false is again = again (omega (
      arith,
      count_push pixels n color,
      spells.2,
      eqb-false (length (pixels ++ replicate n color)) width
          is,
    ))

-- the codes of a row's code words lead to the row
pub row_way : (width : ℕ) (row : List Color) (bits : List Bool) → 0 < width → width ≤ 2432 → length row ≡ width → SpellsRow row bits
    → RowWay width row_begin (whole row) bits
row_way width row bits some wide full spells = runs_way width (spells.before ++ spells.last ∷ []) [] White row bits wide some (rw full at
    (spells_runs row bits spells))
