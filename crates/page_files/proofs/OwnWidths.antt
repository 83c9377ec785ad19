-- The runs of the first row of T.4, and that a page says its width.
use Rattle.std.proofs.Common.{ℕ, ◌≡◌, ◌+◌, ◌*◌, ◌/◌, ◌%◌, ◌<◌, ◌≤◌, Bool, true, List, [], ◌∷◌, ◌++◌, Some, None, All, length}
use Rattle.std.proofs.Common.{drop, length-append, sum, inl, inr, refl, ap, sym, ◌∙◌, subst, arith, append_assoc}
use Rattle.std.proofs.lemmas.Grind.{common_steps}
use Rattle.std.specs.Prelude.{◌↔◌, Contains, IsTrue, Ok, nat_le}
use Rattle.std.proofs.lemmas.Bool.{cases_Bool, cases_lt, false≢true, le-leb, lt-leb}
use Rattle.std.proofs.lemmas.List.{append-nil, drop-drop, drop_at}
use Rattle.std.proofs.lemmas.List.Elements.{All-push}
use Rattle.raster.specs.declared.row.Color.{Color}
use Rattle.raster.specs.declared.row.Color.TheVariants.{White}
use Rattle.raster.specs.Packed.{bits_of}
use Rattle.raster.specs.Pixels.{other}
use Rattle.raster.specs.declared.packed.Order.{Order}
use Rattle.raster.proofs.RowLemmas.{length-colored}
use Rattle.run_tables.specs.Codes.{code_word, run_words}
use Rattle.run_tables.specs.CodeReading.{ReadsRun}
use Rattle.run_tables.specs.Reading.{Reading}
use Rattle.run_tables.specs.RowFronts.{run_items}
use Rattle.run_tables.specs.RowFronts.RunItem.{run_item}
use Rattle.run_tables.specs.RunWords.{runs_words}
use Rattle.run_tables.specs.Texts.{begins}
use Rattle.run_tables.proofs.BeginsLemmas.{begins_own, begins_split}
use Rattle.run_tables.proofs.CodeLemmas.{run_at_high, run_at_low, run_words_high, run_words_low}
use Rattle.run_tables.proofs.CodeLooks.{code_positive, listed_at}
use Rattle.run_tables.proofs.NumberLemmas.{begins_within, length-rest}
use Rattle.page_code.specs.OneDimension.Fronts.{CodeBegins, zeros_before}
use Rattle.page_code.specs.OneDimension.Pages.{AreEols, EolBegins, IsEnd, IsLead, SpellsLater, eol_word, eol_words}
use Rattle.page_code.specs.OneDimension.Repairs.{EndsPage, EolOf}
use Rattle.page_code.proofs.OneDimension.LineEnds.{code_no_end, none_some, zeros_end}
use Rattle.page_code.proofs.OneDimension.Look.{code_stands}
use Rattle.page_code.proofs.OneDimension.ZerosBefore.{length-eol, zeros_eol, zeros_split}
use Rattle.page_files.specs.OwnWidths.{HasRuns, NoRunBegins, PagesSayWidths, RowSays, SaysWidth, color_after}

-- the first code of a run's code words, and the bits after it
record HasFirst (color : Color) (run : ℕ) : Type 0 where
  code : ℕ
  more : List Bool
  stands : Contains (run_items color 104) (run_item color code)
  words : run_words color run ≡ code_word color code ++ more

first_code_of : (color : Color) (run : ℕ) → run ≤ 2623 → HasFirst color run
first_code_of color run most = elim (cases_lt run 64) [
  | inl low ↦ record {
    code = run;
    more = [];
    stands = subst (λ (n : ℕ). Contains (run_items color 104) (run_item color n)) (run_at_low run low)
        (listed_at color 104 run (omega (arith, low)));
    words = run_words_low color run low ∙ sym (append-nil (code_word color run));
  }
  | inr high ↦ record {
    code = 64 * (run / 64);
    more = code_word color (run % 64);
    stands = subst (λ (n : ℕ). Contains (run_items color 104) (run_item color n)) (run_at_high (run / 64) (omega (arith, high)))
        (listed_at color 104 (63 + run / 64) (omega (arith, most)));
    words = run_words_high color run high;
  }
]

-- a run has a bit or more
pub run_positive : (color : Color) (run : ℕ) → run ≤ 2623 → 0 < length (run_words color run)
run_positive color run most =
    let first = first_code_of color run most in
    let some : 0 < length (code_word color first.code) = code_positive color None (run_item color first.code) first.stands in
    rw first.words (omega (arith, some, length-append (code_word color first.code) first.more))

-- where a run begins, the row doesn't end
run_no_end : (color : Color) (run : ℕ) (x : List Bool) → run ≤ 2623 → begins (run_words color run) x ≡ true → ¬ EndsPage x
run_no_end color run x most there =
    let first = first_code_of color run most in
    let rest : List Bool = drop (length (run_words color run)) x in
    let split : x ≡ code_word color first.code ++ (first.more ++ rest) =
    begins_split (run_words color run) x there ∙ (ap (λ (l : List Bool). l ++ rest) first.words
    ∙ append_assoc (code_word color first.code) first.more rest) in
    code_no_end x (subst CodeBegins (sym split)
    (code_stands color (run_item color first.code) (first.more ++ rest) first.stands))

-- where runs begin, the row doesn't end
starts : (run : ℕ) (runs : List ℕ) (rest : List Bool) → run ≤ 2623 → ¬ EndsPage (runs_words White (run ∷ runs) ++ rest)
starts run runs rest most = run_no_end White run (runs_words White (run ∷ runs) ++ rest) most
    (subst (λ (l : List Bool). begins (run_words White run) l ≡ true)
    (sym (append_assoc (run_words White run) (runs_words (other White) runs) rest))
    (begins_own (run_words White run) (runs_words (other White) runs ++ rest)))

-- where the row ends, no run begins
pub no_run : (color : Color) (x : List Bool) → EndsPage x → NoRunBegins color x
no_run color x ends run most = elim (cases_Bool (begins (run_words color run) x)) [
  | inl there ↦ absurd (run_no_end color run x most there ends)
  | inr none ↦ none
]

-- one run more

runs_push : (color : Color) (runs : List ℕ) (run : ℕ)
    → runs_words color (runs ++ run ∷ []) ≡ runs_words color runs ++ run_words (color_after color runs) run
runs_push color [] run = append-nil (run_words color run)
runs_push color (one ∷ runs) run = ap (λ (l : List Bool). run_words color one ++ l) (runs_push (other color) runs run)
    ∙ sym (append_assoc (run_words color one) (runs_words (other color) runs) (run_words (color_after (other color) runs) run))

color_push : (color : Color) (runs : List ℕ) (run : ℕ) → color_after color (runs ++ run ∷ []) ≡ other (color_after color runs)
color_push color [] run = refl
color_push color (one ∷ runs) run = color_push (other color) runs run

sum_push : (runs : List ℕ) (run : ℕ) → sum (runs ++ run ∷ []) ≡ sum runs + run
sum_push [] run = grind (arith, common_steps)
sum_push (one ∷ runs) run = let later = sum_push runs run in grind (arith, common_steps, later)

-- these runs of the first row were read, up to a place
pub record AreRead (bits : List Bool) (start place : ℕ) (color : Color) (pixels : ℕ) : Type 0 where
  pub runs : List ℕ
  pub most : All (λ run. run ≤ 2623) runs
  pub split : drop start bits ≡ runs_words White runs ++ drop place bits
  pub color_is : color ≡ color_after White runs
  pub pixels_are : pixels ≡ sum runs
  pub few : pixels ≤ 2623 * place

-- none was
pub none_read : (bits : List Bool) (start : ℕ) → AreRead bits start start White 0
none_read bits start = record {
  runs = [];
  most = λ k d within. absurd (omega (arith, within));
  split = refl;
  color_is = refl;
  pixels_are = refl;
  few = omega arith;
}

-- one more was
pub one_read : (bits : List Bool) (start place : ℕ) (color : Color) (pixels run : ℕ) → AreRead bits start place color pixels → run ≤ 2623
    → begins (run_words color run) (drop place bits) ≡ true
    → AreRead bits start (place + length (run_words color run)) (other color) (pixels + run)
one_read bits start place color pixels run read most there = record {
  runs = read.runs ++ run ∷ [];
  most = All-push (λ (n : ℕ). n ≤ 2623) read.runs run read.most most;
  split = read.split ∙ (ap (λ (l : List Bool). runs_words White read.runs ++ l) here
      ∙ (sym (append_assoc (runs_words White read.runs) (run_words color run) (drop (place + length (run_words color run)) bits))
      ∙ ap (λ (l : List Bool). l ++ drop (place + length (run_words color run)) bits)
      (ap (λ (c : Color). runs_words White read.runs ++ run_words c run) read.color_is ∙ sym (runs_push White read.runs run))));
  color_is = ap other read.color_is ∙ sym (color_push White read.runs run);
  pixels_are = ap (λ (n : ℕ). n + run) read.pixels_are ∙ sym (sum_push read.runs run);
  few = let some = run_positive color run most in omega (arith, read.few, most, some);
}
  where
    here : drop place bits ≡ run_words color run ++ drop (place + length (run_words color run)) bits
    here = begins_split (run_words color run) (drop place bits) there
        ∙ ap (λ (l : List Bool). run_words color run ++ l) (drop-drop (length (run_words color run)) place bits)

-- how many bits octets have
pub length-bits : (order : Order) (octets : List ℕ) → length (bits_of order octets) ≡ 8 * length octets
length-bits order octets = omega (arith, length-rest order octets 0)

-- a reader read one more
pub record HasRead (order : Order) (octets : List ℕ) (start : ℕ) (color : Color) (pixels run : ℕ) (old new : Reading) : Type 0 where
  pub same : new.bits ≡ bits_of order octets
  pub read : AreRead (bits_of order octets) start new.place (other color) (pixels + run)
  pub further : old.place < new.place
  pub within : new.place ≤ 8 * length octets
  pub most : run ≤ 2623

pub has_read : (order : Order) (octets : List ℕ) (start : ℕ) (color : Color) (pixels run : ℕ) (old new : Reading)
    → old.bits ≡ bits_of order octets → ReadsRun color old new (Ok run) → AreRead (bits_of order octets) start old.place color pixels
    → HasRead order octets start color pixels run old new
has_read order octets start color pixels run old new is reads read = record {
  same = ap (λ (r : Reading). r.bits) reads.2 ∙ is;
  read = subst (λ (n : ℕ). AreRead (bits_of order octets) start n (other color) (pixels + run)) (sym next)
      (one_read (bits_of order octets) start old.place color pixels run read reads.0 there);
  further = omega (arith, next, some);
  within = omega (arith, next, some, fits, length-rest order octets old.place);
  most = reads.0;
}
  where
    next : new.place ≡ old.place + length (run_words color run)
    next = ap (λ (r : Reading). r.place) reads.2

    there : begins (run_words color run) (drop old.place (bits_of order octets)) ≡ true
    there = subst (λ (l : List Bool). begins (run_words color run) (drop old.place l) ≡ true) is reads.1

    some : 0 < length (run_words color run)
    some = run_positive color run reads.0

    fits : length (run_words color run) ≤ length (drop old.place (bits_of order octets))
    fits = begins_within (run_words color run) (drop old.place (bits_of order octets)) there

-- all were
all_read : (bits : List Bool) (start place : ℕ) (color : Color) (pixels : ℕ) (read : AreRead bits start place color pixels)
    → NoRunBegins color (drop place bits) → HasRuns bits start read.runs (drop place bits)
all_read bits start place color pixels read none = record {
  most = read.most;
  split = read.split;
  no_more = subst (λ (c : Color). NoRunBegins c (drop place bits)) read.color_is none;
}

pub row_says : (bits : List Bool) (start place : ℕ) (color : Color) (pixels : ℕ) → AreRead bits start place color pixels
    → NoRunBegins color (drop place bits) → EndsPage (drop place bits) → RowSays bits start (Some pixels)
row_says bits start place color pixels read none ends =
    (read.runs, drop place bits, all_read bits start place color pixels read none, ends, read.pixels_are)

pub row_says_nothing : (bits : List Bool) (start place : ℕ) (color : Color) (pixels : ℕ) → AreRead bits start place color pixels
    → NoRunBegins color (drop place bits) → ¬ EndsPage (drop place bits) → RowSays bits start None
row_says_nothing bits start place color pixels read none goes_on =
    (read.runs, drop place bits, all_read bits start place color pixels read none, goes_on)

-- where a row ends

pub some_ends : (x : List Bool) (zeros : ℕ) → zeros_before x ≡ Some zeros → IsTrue (nat_le 11 zeros) ↔ EndsPage x
some_ends x zeros is = elim (cases_lt zeros 11) [
  | inl few ↦ rw (lt-leb 11 zeros few) (λ none. absurd (false≢true none), λ ends. absurd (code_no_end x (zeros, is, few) ends))
  | inr long ↦ rw (le-leb 11 zeros long) (λ yes. inr (eol long), λ ends. refl)
]
  where
    eol : 11 ≤ zeros → EolBegins x
    eol long = let split = zeros_split x zeros is in (zeros, split.0, long, split.1)

pub none_ends : (x : List Bool) → zeros_before x ≡ None → IsTrue true ↔ EndsPage x
none_ends x is = (λ yes. zeros_end x is, λ ends. refl)

-- the EOL that bits begin with

pub first_eol : (x : List Bool) (zeros : ℕ) → zeros_before x ≡ Some zeros → 11 ≤ zeros → EolOf x (zeros + 1)
first_eol x zeros is long = let there = zeros_split x zeros is in (zeros, there.0, long, there.1, refl)

pub no_first_eol : (x : List Bool) (zeros : ℕ) → zeros_before x ≡ Some zeros → zeros < 11 → ¬ EolBegins x
no_first_eol x zeros is few eol = code_no_end x (zeros, is, few) (inr eol)

pub no_eol : (x : List Bool) → zeros_before x ≡ None → ¬ EolBegins x
no_eol x is eol = none_some (zeros_before x) eol.0 is (ap zeros_before eol.3 ∙ zeros_eol eol.0 eol.1)

-- A page says its width

-- the row ends after its code
row_ends : (width : ℕ) (later : List (List Color)) (after rest : List Bool) (last : ℕ) → SpellsLater width later after → IsEnd rest last
    → EndsPage (after ++ rest)
row_ends width [] after rest last is ends = subst (λ (l : List Bool). EndsPage (l ++ rest)) (sym is) (page_ends ends)
  where
    by_eols : (eols : List ℕ) (left : List Bool) → AreEols 6 rest eols left → 2 ≤ length eols → EndsPage rest
    by_eols [] left are some = absurd (omega (arith, some))
    by_eols (count ∷ more) left are some =
        inr (count, eol_words more ++ left, are.long.0, are.split ∙ append_assoc (eol_word count) (eol_words more) left)

    page_ends : IsEnd rest last → EndsPage rest
    page_ends (inl bare) = inl bare.0
    page_ends (inr (inl one)) = inr (one.0, one.1, one.2, one.3)
    page_ends (inr (inr many)) = by_eols many.0 many.1 many.2 many.3
row_ends width (row ∷ rows) after rest last is ends = inr (
  is.0,
  (is.1 ++ is.2) ++ rest,
  is.3,
  ap (λ (l : List Bool). l ++ rest) is.7 ∙ append_assoc (eol_word is.0) (is.1 ++ is.2) rest,
)

-- runs of which the last is above 0 have a first one
first_begins : (before : List ℕ) (last : ℕ) (rest : List Bool) → All (λ run. run ≤ 2623) (before ++ last ∷ [])
    → ¬ EndsPage (runs_words White (before ++ last ∷ []) ++ rest)
first_begins [] last rest most = starts last [] rest (most 0 0 (omega arith))
first_begins (run ∷ runs) last rest most = starts run (runs ++ last ∷ []) rest (most 0 0 (omega arith))

pub pages_say_widths : PagesSayWidths
pages_say_widths width bits rows used wide reads begins = by_lead reads.leads
  where
    runs : List ℕ
    runs = reads.rows.spells.before ++ reads.rows.spells.last ∷ []

    rest : List Bool
    rest = reads.rows.after ++ reads.rest

    ends : EndsPage rest
    ends = row_ends width reads.rows.later reads.rows.after reads.rest reads.last reads.rows.each reads.ends

    there : drop (length reads.lead) bits ≡ runs_words White runs ++ rest
    there = ap (drop (length reads.lead)) reads.split ∙ (drop_at reads.lead (reads.bits ++ reads.rest) (length reads.lead) refl
        ∙ (ap (λ (l : List Bool). l ++ reads.rest) reads.rows.split ∙ (append_assoc reads.rows.front reads.rows.after reads.rest
        ∙ ap (λ (l : List Bool). l ++ rest) reads.rows.spells.words)))

    says : RowSays bits (length reads.lead) (Some width)
    says = (
      runs,
      rest,
      record { most = reads.rows.spells.most; split = there; no_more = no_run (color_after White runs) rest ends },
      ends,
      sym reads.rows.wide ∙ (ap length reads.rows.spells.covers ∙ length-colored White runs),
    )

    by_lead : IsLead reads.lead → SaysWidth bits (Some width)
    by_lead (inl none) = absurd (first_begins reads.rows.spells.before reads.rows.spells.last rest reads.rows.spells.most
        (inr (subst EolBegins (ap (λ (l : List Bool). drop (length l) bits) (sym none) ∙ there) begins)))
    by_lead (inr eol) = inl (
      length reads.lead,
      (
        eol.0,
        reads.bits ++ reads.rest,
        eol.1,
        reads.split
            ∙ ap (λ (l : List Bool). l ++ (reads.bits ++ reads.rest)) eol.2,
        ap length eol.2 ∙ length-eol eol.0,
      ),
      says,
    )
