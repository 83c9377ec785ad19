-- Whole codes of a row go on to a row, and what is refused after them doesn't.
use Rattle.std.proofs.Common.{ℕ, ◌≡◌, ◌+◌, ◌-◌, ◌<◌, ◌≤◌, ◌⊎◌, inl, inr, Bool, List, [], ◌∷◌, ◌++◌, length, refl, ap, sym, ◌∙◌, arith, sum}
use Rattle.std.proofs.Common.{append_assoc}
use Rattle.std.proofs.lemmas.Bool.{cases_lt}
use Rattle.std.proofs.lemmas.Grind.{common_steps}
use Rattle.std.proofs.lemmas.List.{append-nil}
use Rattle.raster.specs.declared.row.Color.{Color}
use Rattle.raster.specs.declared.row.Color.TheVariants.{White}
use Rattle.raster.specs.Pixels.{other, IsWidth}
use Rattle.raster.specs.Runs.{colored}
use Rattle.raster.proofs.RowLemmas.{length-colored}
use Rattle.run_tables.specs.declared.fault.CodeFaultKind.TheVariants.{BadCode, RunTooLong}
use Rattle.run_tables.specs.declared.reader.Among.{Among}
use Rattle.run_tables.specs.declared.reader.Among.TheVariants.{AllCodes, TerminatingCodes}
use Rattle.run_tables.specs.Codes.{InTable, code_word, run_words}
use Rattle.run_tables.specs.KindLaws.{FrontsGoOn}
use Rattle.run_tables.specs.Kinds.{MayCome, EndsInCode, CodeKind, color_after, AreRuns, EndsWithMakeUp, IsRowPart}
use Rattle.run_tables.specs.Kinds.{IsRefusedRow}
use Rattle.run_tables.specs.RowLaws.{ReadsAsRow}
use Rattle.run_tables.specs.RunWords.{runs_words, SpellsRow}
use Rattle.run_tables.proofs.CodeKinds.{may_listed}
use Rattle.run_tables.proofs.CodeLemmas.{runs_fit}
use Rattle.run_tables.proofs.RowRefusals.{not_both}
use Rattle.run_tables.proofs.RunReads.{sum_words}

-- ---- one run more

sum_push : (runs : List ℕ) (last : ℕ) → sum (runs ++ last ∷ []) ≡ sum runs + last
sum_push [] last = grind (arith, common_steps)
sum_push (run ∷ runs) last = grind (arith, common_steps, sum_push runs last)

words_more : (color : Color) (runs : List ℕ) (last : ℕ)
    → runs_words color (runs ++ last ∷ []) ≡ runs_words color runs ++ run_words (color_after color runs) last
words_more color [] last = append-nil (run_words color last)
words_more color (run ∷ runs) last =
    ap (λ l. run_words color run ++ l) (words_more (other color) runs last) ∙
    sym (append_assoc (run_words color run) (runs_words (other color) runs) (run_words (color_after (other color) runs) last))

color_more : (color : Color) (runs : List ℕ) (last : ℕ) → color_after color (runs ++ last ∷ []) ≡ other (color_after color runs)
color_more color [] last = refl
color_more color (run ∷ runs) last = color_more (other color) runs last

-- ---- a row is completed

-- bits that complete a row of the width
abbrev pub Completed : ℕ → List Bool → Type 0
Completed width front = (row : List Color) × (more : List Bool) × SpellsRow row (front ++ more) × (length row ≡ width)

-- the bits after some
completed_after : (width : ℕ) (front mid : List Bool) → Completed width (front ++ mid) → Completed width front
completed_after width front mid later = (later.0, mid ++ later.1, rw append_assoc at later.2, later.3)

-- runs that fill the width
full_runs : (width : ℕ) (runs : List ℕ) (last : ℕ) (bits : List Bool) → width ≤ 2432 → 0 < last → sum runs + last ≡ width
    → bits ≡ runs_words White runs ++ run_words (color_after White runs) last
    → SpellsRow (colored White (runs ++ last ∷ [])) bits × (length (colored White (runs ++ last ∷ [])) ≡ width)
full_runs width runs last bits wide above full words =
    let long : length (colored White (runs ++ last ∷ [])) ≡ width = length-colored White (runs ++ last ∷ []) ∙ (sum_push runs last ∙
    full) in (
      record {
        before = runs;
        last = last;
        above = above;
        most = runs_fit (colored White (runs ++ last ∷ [])) (runs ++ last ∷ []) (omega (arith, wide, long)) refl;
        covers = refl;
        words = words ∙ sym (words_more White runs last);
      },
      long,
    )

runs_go_on : (width : ℕ) (front : List Bool) (so_far : ℕ) (color : Color) → width ≤ 2432 → AreRuns width front so_far color
    → Completed width front
runs_go_on width front so_far color wide part =
    let last : ℕ = width - so_far in
    let there = full_runs width part.runs last (front ++ run_words color last) wide (omega (arith, part.short)) (omega (
      arith,
      part.sum_is,
      part.short,
    )) (ap (λ l. l ++ run_words color last) part.words ∙ ap (λ c. runs_words White part.runs ++ run_words c last)
    part.color_is) in
    (colored White (part.runs ++ last ∷ []), run_words color last, there.0, there.1)

-- a make-up code, and the terminating code of 0
makeup_words : (color : Color) (makeup : ℕ) (word : List Bool) → InTable color makeup word → 64 ≤ makeup
    → word ++ code_word color 0 ≡ run_words color makeup
makeup_words color makeup word listed long =
    let there = may_listed color AllCodes makeup word listed in
    let same : makeup + 0 ≡ makeup = omega arith in
    ap (λ w. w ++ code_word color 0) there.1 ∙
    (sym (sum_words color makeup 0 there.0 long (omega arith)).1 ∙ ap (run_words color) same)

makeup_goes_on : (width : ℕ) (front : List Bool) (so_far : ℕ) (color : Color) → width ≤ 2432 → EndsWithMakeUp width front so_far color
    → Completed width front
makeup_goes_on width front so_far color wide part = elim (cases_lt so_far width) [
  | inl short ↦
      completed_after width front (code_word color 0) (runs_go_on width (front ++ code_word color 0) so_far (other color) wide (record {
        runs = runs ++ part.makeup ∷ [];
        words = words ∙ sym (words_more White runs part.makeup);
        sum_is = part.sum_is ∙ (ap (λ n. n + part.makeup) part.runs.sum_is ∙ sym (sum_push runs part.makeup));
        color_is = ap other part.runs.color_is ∙ sym (color_more White runs part.makeup);
        short = short;
      }))
  | inr full ↦
      let there = full_runs width runs part.makeup (front ++ code_word color 0) wide (omega (arith, part.long)) (omega (
        arith,
        part.sum_is,
        part.runs.sum_is,
        part.within,
        full,
      )) words in
      (colored White (runs ++ part.makeup ∷ []), code_word color 0, there.0, there.1)
]
  where
    runs : List ℕ
    runs = part.runs.runs

    words : front ++ code_word color 0 ≡ runs_words White runs ++ run_words (color_after White runs) part.makeup
    words =
        ap (λ l. l ++ code_word color 0) part.words ∙
        (append_assoc part.before part.word (code_word color 0) ∙
        (ap (λ l. part.before ++ l) (makeup_words color part.makeup part.word part.listed part.long) ∙
        (ap (λ l. l ++ run_words color part.makeup) part.runs.words ∙
        ap (λ c. runs_words White runs ++ run_words c part.makeup) part.runs.color_is)))

pub part_goes_on : (width : ℕ) (front : List Bool) (so_far : ℕ) (color : Color) (among : Among) → IsWidth width
    → IsRowPart width front so_far color among → Completed width front
part_goes_on width front so_far color AllCodes wide part = runs_go_on width front so_far color wide.1 part
part_goes_on width front so_far color TerminatingCodes wide part = makeup_goes_on width front so_far color wide.1 part

-- ---- what is refused doesn't go on

too_long : (width : ℕ) (front : List Bool) (so_far : ℕ) (color : Color) (among : Among) (run : ℕ) (word : List Bool) → IsWidth width
    → IsRowPart width front so_far color among → MayCome color among run word → width < so_far + run → (more : List Bool) (row
    : List Color) (used : ℕ) → ¬ ReadsAsRow width (front ++ (word ++ more)) row used
too_long width front so_far color among run word wide part may long more row used reads = not_both width (front ++ (word ++ more)) row used
    (length front) RunTooLong wide reads (record {
      front = front;
      rest = word ++ more;
      so_far = so_far;
      color = color;
      among = among;
      split = refl;
      part = part;
      place_is = refl;
      kind_is = (run, (word, more, may, refl), long);
    })

-- of two beginnings of the same bits the second begins the first, or the first is a proper beginning of the second
beginnings : (rest more word tail : List Bool) → rest ++ more ≡ word ++ tail
    → ((left : List Bool) × (rest ≡ word ++ left)) ⊎ ((bit : Bool) × (left : List Bool) × (word ≡ rest ++ bit ∷ left))
beginnings [] more [] tail e = inl ([], refl)
beginnings [] more (b ∷ word) tail e = inr (b, word, refl)
beginnings (a ∷ rest) more [] tail e = inl (a ∷ rest, refl)
beginnings (a ∷ rest) more (b ∷ word) tail e =
    let bit : a ≡ b = cc in
    let later : rest ++ more ≡ word ++ tail = cc in
    elim (beginnings rest more word tail later) [
      | inl begun ↦ inl (begun.0, rw bit (ap (λ l. b ∷ l) begun.1))
      | inr cut ↦ inr (cut.0, cut.1, rw bit (ap (λ l. b ∷ l) cut.2))
    ]

-- bits that end in a code do so with fewer of them
ends_before : (color : Color) (among : Among) (rest more : List Bool) → EndsInCode color among (rest ++ more) → EndsInCode color among rest
ends_before color among rest [] ends = (ends.0, ends.1, ends.2, ends.3, ends.4, rw append-nil at ends.5)
ends_before color among rest (bit ∷ more) ends = (
  ends.0,
  ends.1,
  bit,
  more ++ ends.2 ∷ ends.3,
  ends.4,
  ends.5 ∙ append_assoc rest (bit ∷ more) (ends.2 ∷ ends.3),
)

-- no code stays none when bits follow
pub none_more : (color : Color) (among : Among) (rest more : List Bool) → CodeKind color among rest BadCode
    → CodeKind color among (rest ++ more) BadCode
none_more color among rest more is = (
  λ run b. elim (beginnings rest more b.0 b.1 b.3) [
    | inl begun ↦ is.0 run (b.0, begun.0, b.2, begun.1)
    | inr cut ↦ is.1 (run, b.0, cut.0, cut.1, b.2, cut.2)
  ],
  λ ends. is.1 (ends_before color among rest more ends),
)

no_code : (width : ℕ) (x : List Bool) (place : ℕ) → IsWidth width → IsRefusedRow width x place BadCode → (more : List Bool) (row
    : List Color) (used : ℕ) → ¬ ReadsAsRow width (x ++ more) row used
no_code width x place wide refused more row used reads = not_both width (x ++ more) row used place BadCode wide reads (record {
  front = refused.front;
  rest = refused.rest ++ more;
  so_far = refused.so_far;
  color = refused.color;
  among = refused.among;
  split = ap (λ l. l ++ more) refused.split ∙ append_assoc refused.front refused.rest more;
  part = refused.part;
  place_is = refused.place_is;
  kind_is = none_more refused.color refused.among refused.rest more refused.kind_is;
})

pub fronts_go_on : FrontsGoOn
fronts_go_on = record {
  goes_on = λ width front so_far color among wide part. part_goes_on width front so_far color among wide part;
  too_long = λ width front so_far color among run word wide part may long more row used reads. too_long width front so_far color among run
      word wide part may long more row used reads;
  no_code = λ width x place wide refused more row used reads. no_code width x place wide refused more row used reads;
}
