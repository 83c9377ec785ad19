-- A row's code words, from any place of the row on: what its runs are, and what completes it.
use Rattle.std.proofs.Common.{ltb, ℕ, suc, ◌≡◌, ◌+◌, ◌-◌, ◌*◌, ◌/◌, ◌%◌, ◌<◌, ◌≤◌, inl, inr, Bool, true, false, List, [], ◌∷◌, ◌++◌, length}
use Rattle.std.proofs.Common.{replicate, Some, None, refl, ap, sym, ◌∙◌, arith, cond, nat_eq, length-append, append_assoc}
use Rattle.std.specs.Prelude.{Option, Ok, Err, All}
use Rattle.std.proofs.lemmas.Bool.{ltb-true, ltb-false, lt-ltb, le-ltb, eqb-true, eqb-false, cases_lt}
use Rattle.std.proofs.lemmas.List.{append-nil, length-replicate}
use Rattle.raster.specs.declared.row.Color.{Color}
use Rattle.raster.specs.declared.row.Color.TheVariants.{White}
use Rattle.raster.specs.Pixels.{other, IsWidth}
use Rattle.raster.specs.Runs.{colored, AreOwnRuns}
use Rattle.run_tables.specs.declared.fault.CodeFaultKind.TheVariants.{RunTooLong}
use Rattle.run_tables.specs.Codes.{code_word, run_words, run_at}
use Rattle.run_tables.specs.RunWords.{runs_words, SpellsRow}
use Rattle.run_tables.specs.RowFronts.{RunItem, item_word, codes_after, amount, run_ended, after_code, CodeStep, RowState, row_begin}
use Rattle.run_tables.specs.RowFronts.RunItem.{run_item}
use Rattle.run_tables.specs.RowFronts.RowState.{inside, whole}
use Rattle.run_tables.proofs.CodeLemmas.{runs_fit}
use Rattle.run_tables.proofs.CodeLooks.{listed}

-- runs from a place of the row to its end, and their code words
abbrev pub SpellsRuns : ℕ → List Color → Color → List ℕ → List Color → List Bool → Type 0
SpellsRuns width pixels color [] row bits = (pixels ≡ row) × (length row ≡ width) × (bits ≡ [])
SpellsRuns width pixels color (run ∷ runs) row bits =
    (rest : List Bool) × (length pixels < width) × (length pixels + run ≤ width) × (bits ≡ run_words color run ++ rest)
    × SpellsRuns width (pixels ++ replicate run color) (other color) runs row rest

count_run : (pixels : List Color) (run : ℕ) (color : Color) (later : List Color)
    → length (pixels ++ (replicate run color ++ later)) ≡ length pixels + run + length later
count_run pixels run color later = omega (
  arith,
  length-append pixels (replicate run color ++ later),
  length-append (replicate run color)
      later,
  length-replicate run color,
)

pub count_push : (pixels : List Color) (run : ℕ) (color : Color) → length (pixels ++ replicate run color) ≡ length pixels + run
count_push pixels run color = omega (arith, length-append pixels (replicate run color), length-replicate run color)

ends_above : (before : List ℕ) (last : ℕ) (color : Color) → 0 < last → 0 < length (colored color (before ++ last ∷ []))
ends_above [] last color above = omega (arith, length-append (replicate last color) [], length-replicate last color)
ends_above (run ∷ before) last color above = omega (
  arith,
  length-append (replicate run color) (colored (other color) (before ++ last ∷
      [])),
  ends_above before last (other color) above,
)

pub runs_from_row : (before : List ℕ) (last width : ℕ) (pixels : List Color) (color : Color) (row : List Color) (bits : List Bool)
    → 0 < last → length row ≡ width → pixels ++ colored color (before ++ last ∷ []) ≡ row
    → bits ≡ runs_words color (before ++ last ∷ []) → SpellsRuns width pixels color (before ++ last ∷ []) row bits
runs_from_row [] last width pixels color row bits above wide covers words =
    let sum : length pixels + last + 0 ≡ width = sym (count_run pixels last color []) ∙ (ap length covers ∙ wide) in
    ([], omega arith, omega arith, words, (ap (λ l. pixels ++ l) (sym (append-nil (replicate last color))) ∙ covers, wide, refl))
runs_from_row (run ∷ before) last width pixels color row bits above wide covers words =
    let later : List Color = colored (other color) (before ++ last ∷ []) in
    let sum : length pixels + run + length later ≡ width = sym (count_run pixels run color later) ∙ (ap length covers ∙ wide) in
    let some : 0 < length later = ends_above before last (other color) above in (
      runs_words (other color) (before ++ last ∷ []),
      omega arith,
      omega arith,
      words,
      runs_from_row before last width (pixels ++ replicate
          run color) (other color) row (runs_words (other color) (before ++ last ∷ [])) above wide
          (append_assoc pixels (replicate run color)
          later ∙ covers) refl,
    )

-- runs to the end of a row, the last of them above 0
pub record RunsToEnd (width : ℕ) (pixels : List Color) (color : Color) (row : List Color) (bits : List Bool) : Type 0 where
  pub before : List ℕ
  pub last : ℕ
  pub above : 0 < last
  pub covers : row ≡ pixels ++ colored color (before ++ last ∷ [])
  pub words : bits ≡ runs_words color (before ++ last ∷ [])
  pub wide : length row ≡ width

pub row_from_runs : (runs : List ℕ) (width : ℕ) (pixels : List Color) (color : Color) (row : List Color) (bits : List Bool)
    → length pixels < width → SpellsRuns width pixels color runs row bits → RunsToEnd width pixels color row bits
row_from_runs [] width pixels color row bits short spells = absurd (omega (arith, ap length spells.0, spells.1))
row_from_runs (run ∷ runs) width pixels color row bits short spells = elim (cases_lt (length (pixels ++ replicate run color)) width) [
  | inl less ↦
      let later = row_from_runs runs width (pixels ++ replicate run color) (other color) row spells.0 less spells.4 in
      record {
        before = run ∷ later.before;
        last = later.last;
        above = later.above;
        covers = later.covers ∙
            append_assoc pixels (replicate run color) (colored (other color) (later.before ++ later.last ∷ []));
        words = spells.3 ∙
            ap (λ l. run_words color run ++ l) later.words;
        wide = later.wide;
      }
  | inr full ↦ ended runs full spells.4
]
  where
    ended : (js : List ℕ) → width ≤ length (pixels ++ replicate run color)
        → SpellsRuns width (pixels ++ replicate run color) (other color) js row spells.0 → RunsToEnd width pixels color row bits
    ended [] full tail = record {
      before = [];
      last = run;
      above = omega (arith, count_push pixels run color);
      covers = sym tail.0 ∙
          ap (λ l. pixels ++ l) (sym (append-nil (replicate run color)));
      words = spells.3 ∙
          ap (λ l. run_words color run ++ l) tail.2;
      wide = tail.1;
    }
    ended (j ∷ js) full tail = absurd (omega (arith, tail.1))

pub spells_runs : (row : List Color) (bits : List Bool) → (spells : SpellsRow row bits)
    → SpellsRuns (length row) [] White (spells.before ++ spells.last ∷ []) row bits
spells_runs row bits spells = runs_from_row spells.before spells.last (length row) [] White row bits spells.above refl (sym spells.covers)
    spells.words

-- a row's own runs spell it
last_above : (run : ℕ) (runs : List ℕ) → (runs ≡ [] → 0 < run) → All (λ n. 0 < n) runs
    → (before : List ℕ) × (last : ℕ) × (0 < last) × (run ∷ runs ≡ before ++ last ∷ [])
last_above run [] some all = ([], run, some refl, refl)
last_above run (m ∷ runs) some all =
    let there = last_above m runs (λ e. all 0 0 (omega arith)) (λ k d h. all (suc k) d (omega (arith, h))) in
    (run ∷ there.0, there.1, there.2, ap (λ l. run ∷ l) there.3)

pub own_runs_spell : (row : List Color) (runs : List ℕ) → IsWidth (length row) → AreOwnRuns row runs → SpellsRow row (runs_words White runs)
own_runs_spell row [] wide own = absurd (omega (arith, wide.0, ap length own.spelled))
own_runs_spell row (run ∷ runs) wide own =
    let there = last_above run runs (λ e. alone runs e own.spelled) own.later in
    record {
      before = there.0;
      last = there.1;
      above = there.2;
      most = runs_fit row (there.0 ++ there.1 ∷ []) wide.1 (own.spelled ∙ ap (colored White) there.3);
      covers = own.spelled ∙
          ap (colored White) there.3;
      words = ap (runs_words White) there.3;
    }
  where
    alone : (js : List ℕ) → js ≡ [] → row ≡ colored White (run ∷ js) → 0 < run
    alone [] e spelled = omega (arith, wide.0, ap length spelled, length-append (replicate run White) [], length-replicate run White)
    alone (j ∷ js) e spelled = cc

-- what is left of a run's code words, perhaps after its make-up code
abbrev pub IsRunRest : Color → Option ℕ → ℕ → List Bool → Type 0
IsRunRest color None run bits = bits ≡ run_words color run
IsRunRest color (Some makeup) run bits = (makeup ≤ run) × (run < makeup + 64) × (bits ≡ code_word color (run - makeup))

pub rest_low : (color : Color) (makeup : Option ℕ) (run : ℕ) → run < 64 → IsRunRest color makeup (amount makeup + run) (code_word color run)
rest_low color None run h =
    let same : 0 + run ≡ run = omega arith in
    rw (same, lt-ltb run 64 h) refl
rest_low color (Some makeup) run h =
    let same : makeup + run - makeup ≡ run = omega arith in
    (omega arith, omega arith, rw same refl)

pub rest_high : (color : Color) (q n : ℕ) (bits : List Bool) → 0 < q → IsRunRest color (Some (64 * q)) n bits
    → IsRunRest color None n (code_word color (64 * q) ++ bits)
rest_high color q n bits h rest =
    let a : n / 64 ≡ q = omega (arith, rest.0, rest.1) in
    let b : n % 64 ≡ n - 64 * q = omega (arith, rest.0, rest.1) in
    let c : 64 ≤ n = omega (arith, rest.0) in
    rw (rest.2, le-ltb n 64 c, a, b) refl

pub run_at_low : (k : ℕ) → k < 64 → run_at k ≡ k
run_at_low k h = rw (lt-ltb k 64 h) refl

pub run_at_high : (k : ℕ) → 64 ≤ k → run_at k ≡ 64 * (k - 63)
run_at_high k h = rw (le-ltb k 64 h) refl

-- bits that complete the row: the rest of a run, and the runs to the row's end
pub record Completes (width : ℕ) (pixels : List Color) (color : Color) (makeup : Option ℕ) (row : List Color) (bits : List Bool) : Type 0
  where
    pub run : ℕ
    pub runs : List ℕ
    pub one : List Bool
    pub others : List Bool
    pub word : IsRunRest color makeup run one
    pub fits : length pixels + run ≤ width
    pub spells : SpellsRuns width (pixels ++ replicate run color) (other color) runs row others
    pub split : bits ≡ one ++ others

abbrev pub Left : ℕ → RowState → List Color → List Bool → Type 0
Left width (inside pixels color makeup) row bits = Completes width pixels color makeup row bits
Left width (whole pixels) row bits = (pixels ≡ row) × (bits ≡ [])

landed : (width : ℕ) (pixels : List Color) (color : Color) (makeup : Option ℕ) (m : ℕ) (t : RowState) (row : List Color) (bits : List Bool)
    → m < 64 → length pixels + (amount makeup + m) ≤ width
    → run_ended whole inside width (pixels ++ replicate (amount makeup + m) color) (other color) ≡ t → Left width t row bits
    → Completes width pixels color makeup row (code_word color m ++ bits)
landed width pixels color makeup m t row bits low fits led left = seen (nat_eq (length (pixels ++ replicate (amount makeup + m) color))
    width) refl (rw led left)
  where
    seen : (b : Bool) → nat_eq (length (pixels ++ replicate (amount makeup + m) color)) width ≡ b
        → Left width (cond b (whole (pixels ++ replicate (amount makeup + m) color)) (inside (pixels ++ replicate (amount makeup + m) color)
        (other color) None)) row bits → Completes width pixels color makeup row (code_word color m ++ bits)
    seen true is left = record {
      run = amount makeup + m;
      runs = [];
      one = code_word color m;
      others = [];
      word = rest_low color makeup m
          low;
      fits = fits;
      spells = (
        left.0,
        ap length (sym left.0) ∙
            eqb-true (length (pixels ++ replicate (amount makeup + m) color)) width is,
        refl,
      );
      split = ap (λ l. code_word color m ++ l) left.1;
    }
    seen false is left =
        let short : length (pixels ++ replicate (amount makeup + m) color) < width = omega (
          arith,
          count_push pixels (amount makeup + m)
              color,
          fits,
          eqb-false (length (pixels ++ replicate (amount makeup + m) color)) width is,
        ) in
        record {
          run = amount makeup + m;
          runs = left.run ∷ left.runs;
          one = code_word color m;
          others = left.one ++ left.others;
          word =
              rest_low color makeup m low;
          fits = fits;
          spells = (
            left.others,
            short,
            left.fits,
            ap (λ l. l ++ left.others) left.word,
            left.spells,
          );
          split = ap (λ l. code_word color m ++ l) left.split;
        }

raised : (width : ℕ) (pixels : List Color) (color : Color) (q : ℕ) (row : List Color) (bits : List Bool) → 0 < q
    → Completes width pixels color (Some (64 * q)) row bits → Completes width pixels color None row (code_word color (64 * q) ++ bits)
raised width pixels color q row bits h left =
    let front : List Bool = code_word color (64 * q) in
    record {
      run = left.run;
      runs = left.runs;
      one = front ++ left.one;
      others = left.others;
      word = rest_high color q left.run left.one h
          left.word;
      fits = left.fits;
      spells = left.spells;
      split = ap (λ l. front ++ l) left.split ∙
          sym (append_assoc front left.one left.others);
    }

run_left : (width : ℕ) (pixels : List Color) (color : Color) (makeup : Option ℕ) (k : ℕ) (t : RowState) (row : List Color) (bits : List
    Bool) → k < codes_after makeup → after_code whole inside width pixels color makeup (run_at k) ≡ Ok t → Left width t row bits
    → Completes width pixels color makeup row (code_word color (run_at k) ++ bits)
unfolding after_code
run_left width pixels color makeup k t row bits within e left = seen (ltb width (length pixels + (amount makeup + run_at k))) (ltb (run_at
    k) 64) refl refl e
  where
    up : (o : Option ℕ) → k < codes_after o → 64 ≤ run_at k → inside pixels color (Some (run_at k)) ≡ t
        → Completes width pixels color o row (code_word color (run_at k) ++ bits)
    up (Some h) l big led = absurd (omega (arith, run_at_low k l))
    up None l big led = elim (cases_lt k 64) [
      | inl low ↦ absurd (omega (arith, run_at_low k low))
      | inr high ↦
          let at : run_at k ≡ 64 * (k - 63) = run_at_high k high in
          rw at (raised width pixels color (k - 63) row bits (omega arith) (rw (← led, at) at left))
    ]

    seen : (a b : Bool) → ltb width (length pixels + (amount makeup + run_at k)) ≡ a → ltb (run_at k) 64 ≡ b
        → cond a (Err RunTooLong) (cond b (Ok (run_ended whole inside width (pixels ++ replicate (amount makeup + run_at k) color) (other
        color))) (Ok (inside pixels color (Some (run_at k))))) ≡ Ok t
        → Completes width pixels color makeup row (code_word color (run_at k) ++ bits)
    seen true b is is' e = cc
    seen false true is is' e =
        let led : run_ended whole inside width (pixels ++ replicate (amount makeup + run_at k) color) (other color) ≡ t = cc in
        landed width pixels color makeup (run_at k) t row bits (ltb-true (run_at k) 64 is') (ltb-false width (length pixels + (amount makeup
        + run_at k)) is) led left
    seen false false is is' e =
        let led : inside pixels color (Some (run_at k)) ≡ t = cc in
        up makeup within (ltb-false (run_at k) 64 is') led

-- a code before what completes the row
pub code_left : (width : ℕ) (pixels : List Color) (color : Color) (makeup : Option ℕ) (code : RunItem) (t : RowState) (row : List Color)
    (bits : List Bool) → CodeStep whole inside width pixels color makeup code t → Left width t row bits
    → Completes width pixels color makeup row (item_word code ++ bits)
code_left width pixels color makeup (run_item d n) t row bits step left =
    let one = listed color (codes_after makeup) (run_item d n) step.stands in
    let same : d ≡ color = cc in
    let run : n ≡ run_at one.0 = cc in
    rw (same, run) (run_left width pixels color makeup one.0 t row bits one.1 (rw run at step.leads) left)

-- what completes a row from its beginning spells it
pub row_spelled : (width : ℕ) (row : List Color) (bits : List Bool) → IsWidth width → Left width row_begin row bits
    → SpellsRow row bits × (length row ≡ width)
row_spelled width row bits wide left =
    let some : 0 < width = omega (arith, wide.0) in
    let ends = row_from_runs (left.run ∷ left.runs) width [] White row bits some (
      left.others,
      some,
      left.fits,
      left.split ∙
          ap (λ l. l ++ left.others) left.word,
      left.spells,
    ) in (
      record {
        before = ends.before;
        last = ends.last;
        above = ends.above;
        most = runs_fit row (ends.before ++ ends.last ∷ []) (omega (arith, ends.wide, wide.1)) ends.covers;
        covers = ends.covers;
        words = ends.words;
      },
      ends.wide,
    )
