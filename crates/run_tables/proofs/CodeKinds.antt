-- Why no code is there, in the words of the tables: what picking and cutting find, and what is answered of codes and runs.
use Rattle.std.proofs.Common.{◌≡◌, ℕ, ◌+◌, ◌*◌, ◌/◌, ◌%◌, ◌<◌, ◌≤◌, Bool, true, List, [], ◌∷◌, ◌++◌, length, drop, refl, ap}
use Rattle.std.proofs.Common.{zero, suc, get_or, sym, ◌∙◌, arith, inl, inr, length-append, append_assoc}
use Rattle.std.specs.Prelude.{Contains, Result, Ok, Err, ◌↔◌}
use Rattle.std.proofs.lemmas.Bool.{cases_Bool, cases_lt, or_cases, or_right, false≢true}
use Rattle.std.proofs.lemmas.List.{append-nil, drop_at}
use Rattle.std.proofs.lemmas.List.FromFn.{get_or-map-range_with_len, length-map-range_with_len}
use Rattle.raster.specs.declared.row.Color.{Color}
use Rattle.run_tables.specs.declared.fault.CodeFault.{CodeFault}
use Rattle.run_tables.specs.declared.fault.CodeFaultKind.{CodeFaultKind}
use Rattle.run_tables.specs.declared.fault.CodeFaultKind.TheVariants.{BadCode, Truncated}
use Rattle.run_tables.specs.declared.reader.Among.{Among}
use Rattle.run_tables.specs.declared.reader.Among.TheVariants.{AllCodes, TerminatingCodes}
use Rattle.run_tables.specs.declared.reader.RunCode.{RunCode}
use Rattle.run_tables.specs.declared.reader.RunCode.TheVariants.{MakeUp, Terminating}
use Rattle.run_tables.specs.Codes.{InTable, code_word, run_at, run_words}
use Rattle.run_tables.specs.CodeReading.{first_runs, runs_among, kind_among, IsNext, ReadsCode, RefusesCode, ReadsRunCode}
use Rattle.run_tables.specs.CodeReading.{RefusesRun, ReadsRun}
use Rattle.run_tables.specs.Kinds.{MayCome, BeginsWithCode, EndsInCode, CodeKind, IsRefusedCode, IsRefusedRun}
use Rattle.run_tables.specs.Reading.{Reading, rest_of, after}
use Rattle.run_tables.specs.Texts.{begins, is_cut}
use Rattle.run_tables.proofs.BeginsLemmas.{begins_own, begins_split}
use Rattle.run_tables.proofs.CodeReads.{one_stands}
use Rattle.run_tables.proofs.RowReadings.{table_words}
use Rattle.run_tables.proofs.RowSpelling.{run_at_high}
use Rattle.run_tables.proofs.RunReads.{listed_at, low_run, run_begins, rest_after}

-- which runs are listed
run_listed : (count run : ℕ) → Contains (first_runs count) run → (k : ℕ) × (k < count) × (run ≡ run_at k)
unfolding first_runs
run_listed count run c =
    let within : c.0 < count = omega (arith, c.1, length-map-range_with_len run_at 0 count) in
    (c.0, within, sym c.2 ∙ get_or-map-range_with_len run_at 0 count c.0 c.0 run within (omega arith))

-- a code that may come is listed, with its code word
pub may_listed : (color : Color) (among : Among) (run : ℕ) (word : List Bool) → MayCome color among run word
    → Contains (runs_among among) run × (word ≡ code_word color run)
may_listed color AllCodes run word may =
    let at = (table_words color run word).0 may in
    (rw at.2 (listed_at 104 at.0 at.1), at.3 ∙ ap (code_word color) (sym at.2))
may_listed color TerminatingCodes run word may =
    let at = (table_words color run word).0 may.0 in
    let low : at.0 < 64 = elim (cases_lt at.0 64) [
      | inl l ↦ l
      | inr g ↦ absurd (omega (arith, may.1, at.2, run_at_high at.0 g))
    ] in
    (rw at.2 (listed_at 64 at.0 low), at.3 ∙ ap (code_word color) (sym at.2))

pub listed_may : (color : Color) (among : Among) (run : ℕ) → Contains (runs_among among) run → MayCome color among run (code_word color run)
listed_may color AllCodes run listed =
    let at = run_listed 104 run listed in
    (table_words color run (code_word color run)).1 (at.0, at.1, at.2, ap (code_word color) at.2)
listed_may color TerminatingCodes run listed =
    let at = run_listed 64 run listed in (
      (table_words color run (code_word color run)).1 (at.0, omega (arith, at.1), at.2, ap (code_word color) at.2),
      low_run run listed,
    )

-- a code begins the bits
pub begins_next : (color : Color) (among : Among) (x : List Bool) (run : ℕ) → BeginsWithCode color among x run → IsNext color among x run
begins_next color among x run b =
    let there = may_listed color among run b.0 b.2 in
    (there.0, rw (b.3, there.1) (begins_own (code_word color run) b.1))

pub next_begins : (color : Color) (among : Among) (x : List Bool) (run : ℕ) → IsNext color among x run → BeginsWithCode color among x run
next_begins color among x run next = (
  code_word color run,
  drop (length (code_word color run)) x,
  listed_may color among run next.0,
  begins_split (code_word color run) x next.1,
)

-- a run of the list whose code word the bits begin
cut_at : (color : Color) (runs : List ℕ) (x : List Bool) → is_cut (code_word color) runs x ≡ true
    → (run : ℕ) × Contains runs run × (begins x (code_word color run) ≡ true)
cut_at color [] x e = absurd (false≢true e)
cut_at color (n ∷ runs) x e = elim (or_cases (begins x (code_word color n)) (is_cut (code_word color) runs x) e) [
  | inl b ↦ (n, (0, omega arith, refl), b)
  | inr later ↦
      let there = cut_at color runs x later in
      (there.0, (suc there.1.0, omega (arith, there.1.1), there.1.2), there.2)
]

cut_from : (color : Color) (runs : List ℕ) (x : List Bool) (run : ℕ) → Contains runs run → begins x (code_word color run) ≡ true
    → is_cut (code_word color) runs x ≡ true
cut_from color runs x run c b = at runs c.0 c.1 c.2
  where
    at : (ns : List ℕ) (k : ℕ) → k < length ns → get_or ns k run ≡ run → is_cut (code_word color) ns x ≡ true
    at [] k h e = absurd (omega arith)
    at (n ∷ ns) zero h e = rw (e, b) refl
    at (n ∷ ns) (suc k) h e = or_right (begins x (code_word color n)) (is_cut (code_word color) ns x) (at ns k (omega arith) e)

begins_self : (a : List Bool) → begins a a ≡ true
begins_self a = ap (begins a) (sym (append-nil a)) ∙ begins_own a []

-- bits that end in a code begin with none
pub ends_none : (color : Color) (among : Among) (x : List Bool) → EndsInCode color among x → (run : ℕ) → ¬ IsNext color among x run
ends_none color among x ends run next =
    let there = may_listed color among ends.0 ends.1 ends.4 in
    let m : ℕ = ends.0 in
    let front : List Bool = code_word color run in
    let left : List Bool = drop (length front) x ++ ends.2 ∷ ends.3 in
    let whole : code_word color m ≡ front ++ left = sym there.1 ∙ (ends.5 ∙ (ap (λ l. l ++ ends.2 ∷ ends.3) (begins_split front x next.1) ∙
    append_assoc front (drop (length front) x) (ends.2 ∷ ends.3))) in
    let same : run ≡ m = one_stands color among (code_word color m) run m (next.0, rw whole (begins_own front left)) (
      there.0,
      begins_self (code_word color m),
    ) in
    omega (
      arith,
      ap length whole,
      length-append front left,
      length-append (drop (length front) x) (ends.2 ∷ ends.3),
      ap (λ n. length (code_word color n)) same,
    )

-- bits that begin a code word and begin with no code end in it
cut_ends : (color : Color) (among : Among) (x : List Bool) → ((run : ℕ) → ¬ IsNext color among x run)
    → is_cut (code_word color) (runs_among among) x ≡ true → EndsInCode color among x
cut_ends color among x none e =
    left (drop (length x) (code_word color there.0)) (begins_split x (code_word color there.0) there.2)
  where
    there : (run : ℕ) × Contains (runs_among among) run × (begins x (code_word color run) ≡ true)
    there = cut_at color (runs_among among) x e

    left : (more : List Bool) → code_word color there.0 ≡ x ++ more → EndsInCode color among x
    left [] split =
        let same : code_word color there.0 ≡ x = split ∙ append-nil x in
        absurd (none there.0 (there.1, rw same (begins_self x)))
    left (bit ∷ more) split = (there.0, code_word color there.0, bit, more, listed_may color among there.0 there.1, split)

ends_cut : (color : Color) (among : Among) (x : List Bool) → EndsInCode color among x
    → is_cut (code_word color) (runs_among among) x ≡ true
ends_cut color among x ends =
    let there = may_listed color among ends.0 ends.1 ends.4 in
    cut_from color (runs_among among) x ends.0 there.0 (rw (sym there.1 ∙ ends.5) (begins_own x (ends.2 ∷ ends.3)))

-- where no code begins the bits, the kind is that of picking
pub code_kind : (color : Color) (among : Among) (x : List Bool) → ((run : ℕ) → ¬ IsNext color among x run)
    → CodeKind color among x (kind_among color among x)
code_kind color among x none = elim (cases_Bool (is_cut (code_word color) (runs_among among) x)) [
  | inl t ↦ rw t (cut_ends color among x none t)
  | inr f ↦ rw f (
    λ run b. none run (begins_next color among x run b),
    λ ends. false≢true (sym f ∙ ends_cut color among x ends),
  )
]

pub kind_none : (color : Color) (among : Among) (x : List Bool) (kind : CodeFaultKind) → CodeKind color among x kind → (run : ℕ)
    → ¬ IsNext color among x run
kind_none color among x Truncated is run = ends_none color among x is run
kind_none color among x BadCode is run = λ next. is.0 run (next_begins color among x run next)
kind_none color among x kind is run = absurd is

pub kind_is : (color : Color) (among : Among) (x : List Bool) (kind : CodeFaultKind) → CodeKind color among x kind
    → kind_among color among x ≡ kind
kind_is color among x Truncated is = rw (ends_cut color among x is) refl
kind_is color among x BadCode is = elim (cases_Bool (is_cut (code_word color) (runs_among among) x)) [
  | inl t ↦ absurd (is.1 (cut_ends color among x (λ run next. is.0 run (next_begins color among x run next)) t))
  | inr f ↦ rw f refl
]
kind_is color among x kind is = absurd is

pub one_code_kind : (color : Color) (among : Among) (x : List Bool) (a b : CodeFaultKind) → CodeKind color among x a
    → CodeKind color among x b → a ≡ b
one_code_kind color among x a b one two = sym (kind_is color among x a one) ∙ kind_is color among x b two

-- ---- what is answered of codes

same_fault : (f g : CodeFault) → f.place ≡ g.place → f.kind ≡ g.kind → f ≡ g
same_fault f g place kind =
    let with_place : ℕ → CodeFault = λ p. record { place = p; kind = f.kind } in
    let with_kind : CodeFaultKind → CodeFault = λ k. record { place = g.place; kind = k } in
    ap with_place place ∙ ap with_kind kind

refused_code : (color : Color) (among : Among) (reader : Reading) (fault : CodeFault) → RefusesCode color among reader fault
    → IsRefusedCode color among reader fault
refused_code color among reader fault refuses = (
  refuses.place,
  rw refuses.kind (code_kind color among (rest_of reader) refuses.none),
)

one_refused_code : (color : Color) (among : Among) (reader : Reading) (f g : CodeFault) → IsRefusedCode color among reader f
    → IsRefusedCode color among reader g → f ≡ g
one_refused_code color among reader f g one two =
    same_fault f g (one.0 ∙ sym two.0) (one_code_kind color among (rest_of reader) f.kind g.kind one.1 two.1)

pub codes_refused : (color : Color) (among : Among) (old new : Reading) (result : Result ℕ CodeFault) (fault : CodeFault)
    → ReadsCode color among old new result → (result ≡ Err fault) ↔ IsRefusedCode color among old fault
codes_refused color among old new (Ok run) fault reads = (
  λ e. cc,
  λ refused. absurd (kind_none color among (rest_of old) fault.kind refused.1 run reads.0),
)
codes_refused color among old new (Err f) fault reads = (
  λ e.
      let same : f ≡ fault = cc in
      rw (← same) (refused_code color among old f reads.0),
  λ refused. ap (λ (g : CodeFault). Err g) (one_refused_code color among old f fault (refused_code color among old f reads.0) refused),
)

pub run_codes_refused : (color : Color) (old new : Reading) (result : Result RunCode CodeFault) (fault : CodeFault)
    → ReadsRunCode color old new result → (result ≡ Err fault) ↔ IsRefusedCode color AllCodes old fault
run_codes_refused color old new (Ok (Terminating run)) fault reads = (
  λ e. cc,
  λ refused. absurd (kind_none color AllCodes (rest_of old) fault.kind refused.1 run reads.1.0),
)
run_codes_refused color old new (Ok (MakeUp run)) fault reads = (
  λ e. cc,
  λ refused. absurd (kind_none color AllCodes (rest_of old) fault.kind refused.1 run reads.1.0),
)
run_codes_refused color old new (Err f) fault reads = (
  λ e.
      let same : f ≡ fault = cc in
      rw (← same) (refused_code color AllCodes old f reads.0),
  λ refused. ap (λ (g : CodeFault). Err g) (one_refused_code color AllCodes old f fault
      (refused_code color AllCodes old f reads.0) refused),
)

-- ---- what is answered of runs

makeup_next : (color : Color) (reader : Reading) (makeup : ℕ) (word rest : List Bool) → InTable color makeup word
    → rest_of reader ≡ word ++ rest → IsNext color AllCodes (rest_of reader) makeup × (word ≡ code_word color makeup)
makeup_next color reader makeup word rest listed split = (
  begins_next color AllCodes (rest_of reader) makeup (word, rest, listed, split),
  (may_listed color AllCodes makeup word listed).1,
)

-- what is left after the make-up code
makeup_rest : (color : Color) (reader : Reading) (makeup : ℕ) (word rest : List Bool) → InTable color makeup word
    → rest_of reader ≡ word ++ rest → drop (length (code_word color makeup)) (rest_of reader) ≡ rest
makeup_rest color reader makeup word rest listed split =
    let word_is : word ≡ code_word color makeup = (may_listed color AllCodes makeup word listed).1 in
    ap (drop (length (code_word color makeup))) split ∙ drop_at word rest (length (code_word color makeup)) (ap length word_is)

refused_run : (color : Color) (reader : Reading) (fault : CodeFault) → RefusesRun color reader fault → IsRefusedRun color reader fault
refused_run color reader fault (inl refuses) = inl (refused_code color AllCodes reader fault refuses)
refused_run color reader fault (inr both) =
    let word : List Bool = code_word color both.0 in
    let rest : List Bool = drop (length word) (rest_of reader) in
    let refused = refused_code color TerminatingCodes (after word reader) fault both.3 in
    inr (
      both.0,
      word,
      rest,
      listed_may color AllCodes both.0 both.2.0,
      both.1,
      begins_split word (rest_of reader) both.2.1,
      refused.0,
      rw (rest_after word reader) at refused.1,
    )

one_refused_run : (color : Color) (reader : Reading) (f g : CodeFault) → IsRefusedRun color reader f → IsRefusedRun color reader g → f ≡ g
one_refused_run color reader f g (inl one) (inl two) = one_refused_code color AllCodes reader f g one two
one_refused_run color reader f g (inl one) (inr two) = absurd (kind_none color AllCodes (rest_of reader) f.kind one.1 two.0 (makeup_next
    color reader two.0 two.1 two.2 two.3 two.5).0)
one_refused_run color reader f g (inr one) (inl two) = absurd (kind_none color AllCodes (rest_of reader) g.kind two.1 one.0 (makeup_next
    color reader one.0 one.1 one.2 one.3 one.5).0)
one_refused_run color reader f g (inr one) (inr two) =
    let first = makeup_next color reader one.0 one.1 one.2 one.3 one.5 in
    let second = makeup_next color reader two.0 two.1 two.2 two.3 two.5 in
    let same : one.0 ≡ two.0 = one_stands color AllCodes (rest_of reader) one.0 two.0 first.0 second.0 in
    let word_is : one.1 ≡ two.1 = first.1 ∙ (ap (code_word color) same ∙ sym second.1) in
    let rest_is : one.2 ≡ two.2 = sym (makeup_rest color reader one.0 one.1 one.2 one.3 one.5) ∙ (ap (λ n. drop (length (code_word color
    n)) (rest_of reader)) same ∙ makeup_rest color reader two.0 two.1 two.2 two.3 two.5) in
    let kind : CodeKind color TerminatingCodes two.2 f.kind = rw rest_is at one.7 in
    same_fault f g (one.6 ∙ (ap (λ (w : List Bool). reader.place + length w) word_is ∙ sym two.6))
    (one_code_kind color TerminatingCodes two.2
    f.kind g.kind kind two.7)

-- where a run is refused none is there
no_run_there : (color : Color) (reader : Reading) (fault : CodeFault) (run : ℕ) → IsRefusedRun color reader fault → run ≤ 2623
    → begins (run_words color run) (rest_of reader) ≡ true → ⊥
no_run_there color reader fault run (inl refused) most b = elim (run_begins color (rest_of reader) run most b) [
  | inl low ↦ kind_none color AllCodes (rest_of reader) fault.kind refused.1 run low.1
  | inr high ↦ kind_none color AllCodes (rest_of reader) fault.kind refused.1 (64 * (run / 64)) high.1
]
no_run_there color reader fault run (inr refused) most b =
    let there = (makeup_next color reader refused.0 refused.1 refused.2 refused.3 refused.5).0 in
    elim (run_begins color (rest_of reader) run most b) [
      | inl low ↦ omega (arith, low.0, refused.4, one_stands color AllCodes (rest_of reader) run refused.0 low.1 there)
      | inr high ↦
          let same : 64 * (run / 64) ≡ refused.0 = one_stands color AllCodes (rest_of reader) (64 * (run / 64)) refused.0 high.1 there in
          let later : IsNext color TerminatingCodes (drop (length (code_word color refused.0)) (rest_of reader)) (run % 64) = rw same at
          high.2 in
          kind_none color TerminatingCodes refused.2 fault.kind refused.7 (run % 64) (rw (makeup_rest color reader refused.0 refused.1
          refused.2 refused.3 refused.5) at later)
    ]

pub runs_refused_exactly : (color : Color) (old new : Reading) (result : Result ℕ CodeFault) (fault : CodeFault)
    → ReadsRun color old new result → (result ≡ Err fault) ↔ IsRefusedRun color old fault
runs_refused_exactly color old new (Ok run) fault reads = (
  λ e. cc,
  λ refused. absurd (no_run_there color old fault run refused reads.0 reads.1),
)
runs_refused_exactly color old new (Err f) fault reads = (
  λ e.
      let same : f ≡ fault = cc in
      rw (← same) (refused_run color old f reads.1),
  λ refused. ap (λ (g : CodeFault). Err g) (one_refused_run color old f fault (refused_run color old f reads.1) refused),
)
