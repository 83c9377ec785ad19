-- What is seen in a row is refused exactly as the bits there say, whatever automaton the row's codes are items of.
use Rattle.std.proofs.Common.{ltb, ℕ, ◌≡◌, ◌+◌, ◌<◌, Bool, true, false, List, ◌++◌, length, replicate, Some, None, refl, ap, sym, ◌∙◌}
use Rattle.std.proofs.Common.{arith, cond, inl, inr, ◌⊎◌}
use Rattle.std.specs.Prelude.{Option, Result, Ok, Err}
use Rattle.std.proofs.lemmas.Bool.{ltb-true, lt-ltb}
use Rattle.std.proofs.lemmas.List.{length-replicate}
use Rattle.raster.specs.declared.row.Color.{Color}
use Rattle.raster.specs.declared.row.Color.TheVariants.{White}
use Rattle.raster.specs.Pixels.{other}
use Rattle.run_tables.specs.declared.fault.CodeFaultKind.{CodeFaultKind}
use Rattle.run_tables.specs.declared.fault.CodeFaultKind.TheVariants.{RunTooLong}
use Rattle.run_tables.specs.declared.reader.Among.{Among}
use Rattle.run_tables.specs.declared.reader.Among.TheVariants.{AllCodes, TerminatingCodes}
use Rattle.run_tables.specs.Codes.{code_word}
use Rattle.run_tables.specs.CodeReading.{first_runs, runs_among, kind_among}
use Rattle.run_tables.specs.Fronts.{Look}
use Rattle.run_tables.specs.Fronts.Look.{refuse}
use Rattle.run_tables.specs.Kinds.{CodeKind, PassesWidth, RowKind}
use Rattle.run_tables.specs.RowFronts.{RunItem, codes_after, amount, run_ended, after_code, judged}
use Rattle.run_tables.specs.RowFronts.{look_code, look, RowState}
use Rattle.run_tables.specs.RowFronts.RunItem.{run_item}
use Rattle.run_tables.specs.RowFronts.RowState.{inside, whole}
use Rattle.run_tables.specs.Texts.{pick}
use Rattle.run_tables.proofs.CodeKinds.{begins_next, next_begins, code_kind, kind_none, kind_is}
use Rattle.run_tables.proofs.CodeLooks.{kind_by_cut, sees_picked, sees_none}
use Rattle.run_tables.proofs.CodePicks.{none_picked}
use Rattle.run_tables.proofs.CodeReads.{pick_stands, stands_pick, none_stands}

-- which codes may come, after a make-up code or not
abbrev pub among_after : Option ℕ → Among
among_after None = AllCodes
among_after (Some makeup) = TerminatingCodes

listed_after : (makeup : Option ℕ) → first_runs (codes_after makeup) ≡ runs_among (among_after makeup)
listed_after None = refl
listed_after (Some makeup) = refl

kind_after : (color : Color) (makeup : Option ℕ) (x : List Bool)
    → kind_by_cut color (codes_after makeup) x ≡ kind_among color (among_after makeup) x
kind_after color None x = refl
kind_after color (Some n) x = refl

pub code_row_kind : (width so_far : ℕ) (color : Color) (among : Among) (x : List Bool) (kind : CodeFaultKind) → CodeKind color among x kind
    → RowKind width so_far color among x kind
code_row_kind width so_far color among x RunTooLong is = absurd is
code_row_kind width so_far color among x kind is = is

pub row_code_kind : (width so_far : ℕ) (color : Color) (among : Among) (x : List Bool) (kind : CodeFaultKind)
    → RowKind width so_far color among x kind
    → CodeKind color among x kind ⊎ ((kind ≡ RunTooLong) × PassesWidth width so_far color among x)
row_code_kind width so_far color among x RunTooLong is = inr (refl, is)
row_code_kind width so_far color among x kind is = inl is

module _ {State : Type 0} (full : List Color → State) (next : List Color → Color → Option ℕ
    → State) (width : ℕ) (pixels : List Color) (color : Color) (makeup : Option ℕ) where
  pub after_refused : (run : ℕ) (kind : CodeFaultKind) → after_code full next width pixels color makeup run ≡ Err kind
      → (kind ≡ RunTooLong) × (width < length pixels + (amount makeup + run))
  unfolding after_code
  after_refused run kind e = seen (ltb width (length pixels + (amount makeup + run))) (ltb run 64) refl e
    where
      seen : (a b : Bool) → ltb width (length pixels + (amount makeup + run)) ≡ a
          → ◌≡◌ {A = Result State CodeFaultKind} (cond a (Err RunTooLong) (cond b (Ok (run_ended full next width (pixels ++ replicate
          (amount makeup + run) color) (other color))) (Ok (next pixels color (Some run))))) (Err kind)
          → (kind ≡ RunTooLong) × (width < length pixels + (amount makeup + run))
      seen true b is e = (cc, ltb-true width (length pixels + (amount makeup + run)) is)
      seen false true is e = cc
      seen false false is e = cc

  pub after_long : (run : ℕ) → width < length pixels + (amount makeup + run)
      → after_code full next width pixels color makeup run ≡ Err RunTooLong
  unfolding after_code
  after_long run long = rw (lt-ltb width (length pixels + (amount makeup + run)) long) refl

module _ {State Item Answer : Type 0} (item : RunItem → Item) (full : List Color → State) (next : List Color → Color → Option ℕ
    → State) (width : ℕ) (pixels : List Color) (color : Color) (makeup : Option ℕ) where
  judged_refused : (i : Item) (r : Result State CodeFaultKind) (kind : CodeFaultKind)
      → judged {Answer = Answer} i r ≡ refuse kind → r ≡ Err kind
  judged_refused i (Ok t) kind e = cc
  judged_refused i (Err k) kind e =
      let same : k ≡ kind = cc in
      ap (λ (j : CodeFaultKind). Err j) same

  -- what is seen where this run was picked
  sees : (x : List Bool) (run : ℕ) → pick (code_word color) (runs_among (among_after makeup)) x ≡ Some run
      → look_code {Answer = Answer} item full next width pixels color makeup x ≡ judged (item (run_item color run)) (after_code full next
      width pixels color makeup run)
  sees x run e = sees_picked item full next width pixels color makeup x (Some run) (ap (λ (runs : List ℕ). pick (code_word color) runs
      x) (listed_after makeup) ∙ e)

  -- what is seen where no code is
  none_seen : (x : List Bool) → pick (code_word color) (runs_among (among_after makeup)) x ≡ None
      → look_code {Answer = Answer} item full next width pixels color makeup x ≡ refuse (kind_among color (among_after makeup) x)
  none_seen x none = sees_none item full next width pixels color makeup x (ap (λ (runs : List ℕ). pick (code_word color) runs
      x) (listed_after makeup) ∙ none) ∙ ap (λ (k : CodeFaultKind). refuse k) (kind_after color makeup x)

  pub kind_seen : (x : List Bool) (kind : CodeFaultKind)
      → look_code {Answer = Answer} item full next width pixels color makeup x ≡ refuse kind
      → RowKind width (length pixels + amount makeup) color (among_after makeup) x kind
  kind_seen x kind e = by (pick (code_word color) (runs_among (among_after makeup)) x) refl
    where
      by : (o : Option ℕ) → pick (code_word color) (runs_among (among_after makeup)) x ≡ o
          → RowKind width (length pixels + amount makeup) color (among_after makeup) x kind
      by None none =
          let same : ◌≡◌ {A = Look State Item Answer CodeFaultKind} (refuse (kind_among color (among_after makeup) x)) (refuse kind) = sym
          (none_seen x none) ∙ e in
          let kind_is : kind_among color (among_after makeup) x ≡ kind = cc in
          rw (← kind_is) (code_row_kind width (length pixels + amount makeup) color (among_after makeup) x (kind_among color (among_after
          makeup) x) (code_kind color (among_after makeup) x (none_stands color (among_after makeup) x none)))
      by (Some run) found =
          let there = after_refused full next width pixels color makeup run kind
          (judged_refused (item (run_item color run)) (after_code full next width pixels color makeup
          run) kind (sym (sees x run found) ∙ e)) in
          rw there.0 (
            run,
            next_begins color (among_after makeup) x run (stands_pick color (among_after makeup) x run found),
            omega (arith, there.1),
          )

  pub kind_sees : (x : List Bool) (kind : CodeFaultKind)
      → RowKind width (length pixels + amount makeup) color (among_after makeup) x kind
      → look_code {Answer = Answer} item full next width pixels color makeup x ≡ refuse kind
  kind_sees x kind is = elim (row_code_kind width (length pixels + amount makeup) color (among_after makeup) x kind is) [
    | inl code ↦
        none_seen x (none_picked color (among_after makeup) x (kind_none color (among_after makeup) x kind code)) ∙
        ap (λ (k : CodeFaultKind). refuse k) (kind_is color (among_after makeup) x kind code)
    | inr long ↦
        let run : ℕ = long.1.0 in
        let found = pick_stands color (among_after makeup) x run (begins_next color (among_after makeup) x run long.1.1) in
        sees x run found ∙ (ap (judged {Answer = Answer} (item (run_item color run)))
        (after_long full next width pixels color makeup run (omega (
          arith,
          long.1.2,
        ))) ∙ ap (λ (k : CodeFaultKind). refuse k) (sym long.0))
  ]

-- one place has one kind
one_by : (width so_far : ℕ) (color : Color) (makeup : Option ℕ) (x : List Bool) (a b : CodeFaultKind)
    → length (replicate so_far White) + amount makeup ≡ so_far → RowKind width so_far color (among_after makeup) x a
    → RowKind width so_far color (among_after makeup) x b → a ≡ b
one_by width so_far color makeup x a b sum one two =
    let first : look width (inside (replicate so_far White) color makeup) x ≡ refuse a = kind_sees (λ code. code) whole inside width
    (replicate so_far White) color makeup x a (rw sum one) in
    let second : look width (inside (replicate so_far White) color makeup) x ≡ refuse b = kind_sees (λ code. code) whole inside width
    (replicate so_far White) color makeup x b (rw sum two) in
    let same : ◌≡◌ {A = Look RowState RunItem (List Color) CodeFaultKind} (refuse a) (refuse b) = sym first ∙ second in
    cc

pub one_row_kind : (width so_far : ℕ) (color : Color) (among : Among) (x : List Bool) (a b : CodeFaultKind)
    → RowKind width so_far color among x a → RowKind width so_far color among x b → a ≡ b
one_row_kind width so_far color AllCodes x a b one two = one_by width so_far color None x a b (omega (
  arith,
  length-replicate so_far
      White,
)) one two
one_row_kind width so_far color TerminatingCodes x a b one two = one_by width so_far color (Some 0) x a b (omega (
  arith,
  length-replicate
      so_far White,
)) one two
