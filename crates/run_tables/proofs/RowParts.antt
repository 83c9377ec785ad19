-- Whole codes of a row, by its runs: where the codes of a walk lead, and which codes lead there.
use Rattle.std.proofs.Common.{ltb, ℕ, ◌≡◌, ◌+◌, ◌<◌, ◌≤◌, ◌⊎◌, inl, inr, Bool, true, false, List, [], ◌∷◌, ◌++◌, length, replicate}
use Rattle.std.proofs.Common.{Some, None, refl, ap, sym, ◌∙◌, arith, cond, nat_eq, append_assoc, sum}
use Rattle.std.specs.Prelude.{Option, Ok, Err, Contains}
use Rattle.std.proofs.lemmas.Bool.{ltb-true, ltb-false, eqb-false, ne_eqb}
use Rattle.std.proofs.lemmas.Grind.{common_steps}
use Rattle.std.proofs.lemmas.List.{append-nil}
use Rattle.raster.specs.declared.row.Color.{Color}
use Rattle.raster.specs.declared.row.Color.TheVariants.{White}
use Rattle.raster.specs.Pixels.{other}
use Rattle.raster.specs.Runs.{colored}
use Rattle.raster.proofs.RowLemmas.{length-colored}
use Rattle.run_tables.specs.declared.fault.CodeFaultKind.TheVariants.{RunTooLong}
use Rattle.run_tables.specs.declared.reader.Among.{Among}
use Rattle.run_tables.specs.declared.reader.Among.TheVariants.{AllCodes, TerminatingCodes}
use Rattle.run_tables.specs.Codes.{InTable, code_word, run_words}
use Rattle.run_tables.specs.CodeReading.{first_runs, runs_among}
use Rattle.run_tables.specs.Fronts.{Walk, spell}
use Rattle.run_tables.specs.Kinds.{color_after, AreRuns, IsRowPart}
use Rattle.run_tables.specs.RowFronts.{RunItem, item_word, run_items, codes_after, amount, run_ended, after_code, RowState, row_begin, Step}
use Rattle.run_tables.specs.RowFronts.RunItem.{run_item}
use Rattle.run_tables.specs.RowFronts.RowState.{inside, whole}
use Rattle.run_tables.specs.RunWords.{runs_words}
use Rattle.run_tables.proofs.CodeKinds.{may_listed, listed_may}
use Rattle.run_tables.proofs.CodeLemmas.{run_words_low}
use Rattle.run_tables.proofs.CodeLooks.{item_color, item_run, run_item_at}
use Rattle.run_tables.proofs.FrontWalks.{way_none, way_on, way_by}
use Rattle.run_tables.proofs.RowKinds.{among_after}
use Rattle.run_tables.proofs.RowSpelling.{count_push}
use Rattle.run_tables.proofs.RowWays.{RowWay, run_way, high_leads}
use Rattle.run_tables.proofs.RunReads.{low_run, sum_words}

short_end : (width : ℕ) (pixels : List Color) (color : Color) → length pixels < width
    → run_ended whole inside width pixels color ≡ inside pixels color None
short_end width pixels color h = rw (ne_eqb (length pixels) width (λ e. omega arith)) refl

-- ---- runs lead on

runs_lead : (width : ℕ) (runs : List ℕ) (pixels : List Color) (color : Color) → width ≤ 2432 → length pixels + sum runs < width
    → RowWay width (inside pixels color None) (inside (pixels ++ colored color runs) (color_after color runs) None) (runs_words color runs)
runs_lead width [] pixels color wide short = rw append-nil (way_none item_word (Step width) (inside pixels color None))
runs_lead width (run ∷ runs) pixels color wide short =
    let more : List Color = pixels ++ replicate run color in
    let count : length more ≡ length pixels + run = count_push pixels run color in
    let sum_is : sum (run ∷ runs) ≡ run + sum runs = grind (arith, common_steps) in
    let fits : length more + sum runs < width = omega arith in
    let first : RowWay width (inside pixels color None) (inside more (other color) None) (run_words color run) = rw (short_end width more
    (other color) (omega arith)) at (run_way width pixels color run wide (omega arith)) in
    let later = runs_lead width runs more (other color) wide fits in
    let same : more ++ colored (other color) runs ≡ pixels ++ colored color (run ∷ runs) = append_assoc pixels (replicate run color)
    (colored (other color) runs) in
    way_on item_word (Step width) (inside pixels color None) (inside more (other color) None) (inside (pixels ++ colored color (run ∷
    runs)) (color_after color (run ∷ runs)) None) (run_words color run) (runs_words (other color) runs) first (rw same at later)

-- the pixels of a state, with those of a make-up code
abbrev pub PartWay : ℕ → List Bool → ℕ → Color → Among → Type 0
PartWay width front so_far color among = (pixels : List Color) × (makeup : Option ℕ) × RowWay width row_begin (inside pixels color makeup)
    front × (so_far ≡ length pixels + amount makeup) × (among ≡ among_after makeup)

runs_way : (width : ℕ) (front : List Bool) (so_far : ℕ) (color : Color) → width ≤ 2432 → AreRuns width front so_far color
    → (pixels : List Color) × RowWay width row_begin (inside pixels color None) front × (so_far ≡ length pixels)
runs_way width front so_far color wide part =
    let way = runs_lead width part.runs [] White wide (omega (arith, part.short, part.sum_is)) in (
      colored White part.runs,
      rw (part.words, part.color_is) way,
      part.sum_is ∙ sym (length-colored White part.runs),
    )

pub part_way : (width : ℕ) (front : List Bool) (so_far : ℕ) (color : Color) (among : Among) → width ≤ 2432
    → IsRowPart width front so_far color among → PartWay width front so_far color among
part_way width front so_far color AllCodes wide part =
    let there = runs_way width front so_far color wide part in
    (there.0, None, there.1, omega (arith, there.2), refl)
part_way width front so_far color TerminatingCodes wide part =
    let there = runs_way width part.before part.pixels color wide part.runs in
    let in_list = may_listed color AllCodes part.makeup part.word part.listed in
    let step : Step width (inside there.0 color None) (run_item color part.makeup) (inside there.0 color (Some part.makeup)) = record {
      stands = run_item_at color 104 part.makeup in_list.0;
      leads = high_leads width there.0 color part.makeup part.long (omega (arith, there.2, part.sum_is, part.within));
    } in
    let last : RowWay width (inside there.0 color None) (inside there.0 color (Some part.makeup)) (code_word color part.makeup) = way_by
    item_word (Step width) (inside there.0 color None) (inside there.0 color (Some part.makeup)) (run_item color part.makeup) step in (
      there.0,
      Some part.makeup,
      rw (part.words, in_list.1) (way_on item_word (Step width) row_begin (inside there.0 color None) (inside there.0 color (Some
          part.makeup)) part.before (code_word color part.makeup) there.1 last),
      omega (arith, there.2, part.sum_is),
      refl,
    )

-- ---- codes are runs

-- what may come after runs: nothing, or a make-up code within the width
abbrev EndsPart : ℕ → ℕ → Color → List Bool → ℕ → Among → Type 0
EndsPart width pixels color end so_far AllCodes = (end ≡ []) × (so_far ≡ pixels)
EndsPart width pixels color end so_far TerminatingCodes = (makeup : ℕ) × InTable color makeup end × (64 ≤ makeup)
    × (so_far ≡ pixels + makeup) × (so_far ≤ width)

-- from so many pixels on, the bits are whole runs that don't fill the width, and perhaps a make-up code
record RunsFrom (width start : ℕ) (first : Color) (bits : List Bool) (so_far : ℕ) (color : Color) (among : Among) : Type 0 where
  runs : List ℕ
  end : List Bool
  words : bits ≡ runs_words first runs ++ end
  color_is : color ≡ color_after first runs
  short : start + sum runs < width
  ends : EndsPart width (start + sum runs) color end so_far among

-- the same after a make-up code: nothing, or a terminating code and then such runs
abbrev RestFrom : ℕ → ℕ → ℕ → Color → List Bool → ℕ → Color → Among → Type 0
RestFrom width start high first bits so_far color among =
    ((bits ≡ []) × (so_far ≡ start + high) × (color ≡ first) × (among ≡ TerminatingCodes)) ⊎ ((low : ℕ) × (more : List Bool) × (low < 64)
    × (bits ≡ code_word first low ++ more) × RunsFrom width (start + (high + low)) (other first) more so_far color among)

abbrev From : ℕ → RowState → List Bool → ℕ → Color → Among → Type 0
From width (inside pixels first None) bits so_far color among = RunsFrom width (length pixels) first bits so_far color among
From width (inside pixels first (Some high)) bits so_far color among = RestFrom width (length pixels) high first bits so_far color among
From width (whole row) bits so_far color among = ⊥

-- a state that codes lead to
abbrev IsReady : ℕ → RowState → Type 0
IsReady width (inside pixels color None) = length pixels < width
IsReady width (inside pixels color (Some high)) = length pixels + high ≤ width
IsReady width (whole row) = Unit {0}

-- one run more before the others
run_before : (width start : ℕ) (first : Color) (run : ℕ) (bits : List Bool) (so_far : ℕ) (color : Color) (among : Among)
    → RunsFrom width (start + run) (other first) bits so_far color among
    → RunsFrom width start first (run_words first run ++ bits) so_far color among
run_before width start first run bits so_far color among later =
    let sum_is : sum (run ∷ later.runs) ≡ run + sum later.runs = grind (arith, common_steps) in
    let same : start + run + sum later.runs ≡ start + sum (run ∷ later.runs) = omega arith in
    record {
      runs = run ∷ later.runs;
      end = later.end;
      words = ap (λ l. run_words first run ++ l) later.words ∙ sym (append_assoc (run_words first run) (runs_words (other first) later.runs)
          later.end);
      color_is = later.color_is;
      short = omega (arith, later.short);
      ends = rw same at later.ends;
    }

-- a terminating code ended a run
run_over : (width : ℕ) (pixels : List Color) (first : Color) (run : ℕ) (m : RowState) (bits : List Bool) (so_far : ℕ) (color : Color)
    (among : Among) → run_ended whole inside width (pixels ++ replicate run first) (other first) ≡ m → From width m bits so_far color among
    → RunsFrom width (length pixels + run) (other first) bits so_far color among
run_over width pixels first run m bits so_far color among led from = seen (nat_eq (length (pixels ++ replicate run first)) width) (rw led
    from)
  where
    seen : (b : Bool) → From width (cond b (whole (pixels ++ replicate run first)) (inside (pixels ++ replicate run first) (other first)
        None)) bits so_far color among → RunsFrom width (length pixels + run) (other first) bits so_far color among
    seen true from = absurd from
    seen false from = rw (count_push pixels run first) at from

code_from : (width : ℕ) (pixels : List Color) (first : Color) (makeup : Option ℕ) (run : ℕ) (m : RowState) (bits : List Bool) (so_far :
    ℕ) (color : Color) (among : Among) → IsReady width (inside pixels first makeup)
    → Contains (first_runs (codes_after makeup)) run → after_code whole inside width pixels first makeup run ≡ Ok m
    → From width m bits so_far color among
    → From width (inside pixels first makeup) (code_word first run ++ bits) so_far color among
unfolding after_code
code_from width pixels first makeup run m bits so_far color among ready stands e from = seen makeup ready stands from (ltb width (length
    pixels + (amount makeup + run))) (ltb run 64) refl refl e
  where
    seen : (o : Option ℕ) → IsReady width (inside pixels first o) → Contains (first_runs (codes_after o)) run
        → From width m bits so_far color among → (a b : Bool) → ltb width (length pixels + (amount o + run)) ≡ a → ltb run 64 ≡ b
        → cond a (Err RunTooLong) (cond b (Ok (run_ended whole inside width (pixels ++ replicate (amount o + run) first) (other first)))
        (Ok (inside pixels first (Some run)))) ≡ Ok m → From width (inside pixels first o) (code_word first run ++ bits) so_far color among
    seen o ready stands from true b is is' e = cc
    seen None ready stands from false true is is' e =
        let same : 0 + run ≡ run = omega arith in
        let led : run_ended whole inside width (pixels ++ replicate (0 + run) first) (other first) ≡ m = cc in
        let later = run_over width pixels first run m bits so_far color among (rw same at led) from in
        rw (run_words_low first run (ltb-true run 64 is')) at (run_before width (length pixels) first run bits so_far color among later)
    seen None ready stands from false false is is' e =
        let led : inside pixels first (Some run) ≡ m = cc in
        let up : 64 ≤ run = ltb-false run 64 is' in
        let listed : Contains (runs_among AllCodes) run = stands in
        elim (rw (← led) at from) [
          | inl none ↦ rw (none.0, append-nil) (record {
            runs = [];
            end = code_word first run;
            words = refl;
            color_is = none.2;
            short = omega (arith, up, ltb-false width (length pixels + (0 + run)) is);
            ends = rw (none.3, none.2) (
              run,
              listed_may first AllCodes run listed,
              up,
              omega (arith, none.1),
              omega (arith, none.1, ltb-false width (length pixels + (0 + run)) is),
            );
          })
          | inr low ↦
              let both = run_before width (length pixels) first (run + low.0) low.1 so_far color among low.4 in
              rw (low.3, ← append_assoc, ← (sum_words first run low.0 listed up low.2).1) both
        ]
    seen (Some high) ready stands from false true is is' e =
        let led : run_ended whole inside width (pixels ++ replicate (high + run) first) (other first) ≡ m = cc in
        inr (run, bits, ltb-true run 64 is', refl, run_over width pixels first (high + run) m bits so_far color among led from)
    seen (Some high) ready stands from false false is is' e = absurd (omega (arith, ltb-false run 64 is', low_run run stands))

code_ready : (width : ℕ) (pixels : List Color) (color : Color) (makeup : Option ℕ) (run : ℕ) (m : RowState)
    → after_code whole inside width pixels color makeup run ≡ Ok m → IsReady width m
unfolding after_code
code_ready width pixels color makeup run m e = seen (ltb width (length pixels + (amount makeup + run))) (ltb run 64) refl e
  where
    over : (b : Bool) → nat_eq (length (pixels ++ replicate (amount makeup + run) color)) width ≡ b
        → length pixels + (amount makeup + run) ≤ width → IsReady width (cond b (whole (pixels ++ replicate (amount makeup + run)
        color)) (inside (pixels ++ replicate (amount makeup + run) color) (other color) None))
    over true is fits = tt
    over false is fits = omega (
      arith,
      fits,
      count_push pixels (amount makeup + run) color,
      eqb-false (length (pixels ++ replicate (amount makeup + run) color)) width is,
    )

    seen : (a b : Bool) → ltb width (length pixels + (amount makeup + run)) ≡ a
        → cond a (Err RunTooLong) (cond b (Ok (run_ended whole inside width (pixels ++ replicate (amount makeup + run) color) (other
        color))) (Ok (inside pixels color (Some run)))) ≡ Ok m → IsReady width m
    seen true b is e = cc
    seen false true is e =
        let led : run_ended whole inside width (pixels ++ replicate (amount makeup + run) color) (other color) ≡ m = cc in
        rw (← led) (over (nat_eq (length (pixels ++ replicate (amount makeup + run) color)) width) refl (ltb-false width (length pixels +
        (amount makeup + run)) is))
    seen false false is e =
        let led : inside pixels color (Some run) ≡ m = cc in
        rw (← led) (omega (arith, ltb-false width (length pixels + (amount makeup + run)) is))

at_end : (width : ℕ) (pixels : List Color) (color : Color) (makeup : Option ℕ) → IsReady width (inside pixels color makeup)
    → From width (inside pixels color makeup) [] (length pixels + amount makeup) color (among_after makeup)
at_end width pixels color None ready = record {
  runs = [];
  end = [];
  words = refl;
  color_is = refl;
  short = omega (arith, ready);
  ends = (refl, refl);
}
at_end width pixels color (Some high) ready = inl (refl, refl, refl, refl)

walk_from : (width : ℕ) (codes : List RunItem) (s : RowState) (pixels : List Color) (color : Color) (makeup : Option ℕ) → IsReady width s
    → Walk (Step width) s codes (inside pixels color makeup)
    → From width s (spell item_word codes) (length pixels + amount makeup) color (among_after makeup)
walk_from width [] s pixels color makeup ready walk = rw walk (at_end width pixels color makeup (rw walk at ready))
walk_from width (code ∷ codes) (whole row) pixels color makeup ready walk = absurd walk.1
walk_from width (run_item d n ∷ codes) (inside p c o) pixels color makeup ready walk =
    let same : d ≡ c = item_color c (codes_after o) d n walk.1.stands in
    let stands : Contains (run_items c (codes_after o)) (run_item c n) = rw same at walk.1.stands in
    let later = walk_from width codes walk.0 pixels color makeup (code_ready width p c o n walk.0 walk.1.leads) walk.2 in
    rw same (code_from width p c o n walk.0 (spell item_word codes) (length pixels + amount makeup) color (among_after makeup) ready
    (item_run c (codes_after o) n stands) walk.1.leads later)

part_from_runs : (width : ℕ) (bits : List Bool) (so_far : ℕ) (color : Color) (among : Among)
    → RunsFrom width 0 White bits so_far color among → IsRowPart width bits so_far color among
part_from_runs width bits so_far color AllCodes from = record {
  runs = from.runs;
  words = from.words ∙ (ap (λ l. runs_words White from.runs ++ l) from.ends.0 ∙ append-nil (runs_words White from.runs));
  sum_is = omega (arith, from.ends.1);
  color_is = from.color_is;
  short = omega (arith, from.short, from.ends.1);
}
part_from_runs width bits so_far color TerminatingCodes from = record {
  before = runs_words White from.runs;
  pixels = sum from.runs;
  makeup = from.ends.0;
  word = from.end;
  runs = record {
    runs = from.runs;
    words = refl;
    sum_is = refl;
    color_is = from.color_is;
    short = omega (arith, from.short);
  };
  listed = from.ends.1;
  long = from.ends.2;
  words = from.words;
  sum_is = omega (arith, from.ends.3);
  within = from.ends.4;
}

-- codes that lead into a row are such a part of it
pub part_from : (width : ℕ) (codes : List RunItem) (pixels : List Color) (color : Color) (makeup : Option ℕ) → 0 < width
    → Walk (Step width) row_begin codes (inside pixels color makeup)
    → IsRowPart width (spell item_word codes) (length pixels + amount makeup) color (among_after makeup)
part_from width codes pixels color makeup some walk = part_from_runs width (spell item_word codes) (length pixels + amount makeup) color
    (among_after makeup) (walk_from width codes row_begin pixels color makeup some walk)
