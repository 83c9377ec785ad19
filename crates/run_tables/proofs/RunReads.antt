use Rattle.std.proofs.Common.{◌≡◌, ℕ, ◌+◌, ◌*◌, ◌/◌, ◌%◌, ◌<◌, ◌≤◌, ◌⊎◌, Bool, true, false, ◌&&◌, ◌||◌, List, ◌++◌, length, drop, refl, ap}
use Rattle.std.proofs.Common.{sym, ◌∙◌, arith, inl, inr, ltb, eqb, leb, length-append, add_assoc}
use Rattle.std.specs.Prelude.{Contains}
use Rattle.std.specs.List.{list_all}
use Rattle.std.proofs.lemmas.List.{drop-drop}
use Rattle.std.proofs.lemmas.List.FromFn.{get_or-map-range_with_len, length-map-range_with_len}
use Rattle.std.proofs.lemmas.Bool.{and_parts, or_cases, cases_Bool, cases_lt, ltb-true, eqb-true, leb-true}
use Rattle.raster.specs.declared.row.Color.{Color}
use Rattle.run_tables.specs.declared.reader.Among.{Among}
use Rattle.run_tables.specs.declared.reader.Among.TheVariants.{AllCodes, TerminatingCodes}
use Rattle.run_tables.specs.Codes.{code_word, run_words, run_at}
use Rattle.run_tables.specs.CodeReading.{first_runs, runs_among, IsNext}
use Rattle.run_tables.specs.Reading.{Reading, rest_of, after}
use Rattle.run_tables.specs.Texts.{begins}
use Rattle.run_tables.proofs.CodeLemmas.{run_at_low, run_at_high, run_words_low, run_words_high}
use Rattle.run_tables.proofs.CodeReads.{one_stands}
use Rattle.run_tables.proofs.BeginsLemmas.{all_test, begins-append}

-- the run of a place is listed
pub listed_at : (count k : ℕ) → k < count → Contains (first_runs count) (run_at k)
unfolding first_runs
listed_at count k h = (k, rw length-map-range_with_len h, get_or-map-range_with_len run_at 0 count k k (run_at k) h (omega arith))

-- a run up to 63 has a terminating code
pub low_listed : (among : Among) (run : ℕ) → run < 64 → Contains (runs_among among) run
low_listed AllCodes run h = rw (run_at_low run h) at (listed_at 104 run (omega arith))
low_listed TerminatingCodes run h = rw (run_at_low run h) at (listed_at 64 run h)

-- the multiples of 64 up to 2560 have make-up codes
pub high_listed : (count : ℕ) → 1 ≤ count → count ≤ 40 → Contains (runs_among AllCodes) (64 * count)
high_listed count l h = rw (run_at_high count l) at (listed_at 104 (63 + count) (omega arith))

low_test : list_all (λ run. ltb run 64) (first_runs 64) ≡ true
unfolding first_runs
low_test = refl

pub low_run : (run : ℕ) → Contains (runs_among TerminatingCodes) run → run < 64
low_run run listed = ltb-true run 64 (all_test (λ n. ltb n 64) (first_runs 64) run low_test listed)

high_test : list_all (λ run. ltb run 64 || (eqb (run % 64) 0 && leb run 2560)) (first_runs 104) ≡ true
unfolding first_runs
high_test = refl

-- the make-up codes are those of the multiples of 64 up to 2560
pub high_run : (run : ℕ) → Contains (runs_among AllCodes) run → 64 ≤ run → (run % 64 ≡ 0) × (run ≤ 2560)
high_run run listed h = elim (or_cases (ltb run 64) (eqb (run % 64) 0 && leb run 2560) (all_test (λ n. ltb n 64 || (eqb (n % 64) 0 && leb n
    2560)) (first_runs 104) run high_test listed)) [
      | inl low ↦ absurd (omega (arith, ltb-true run 64 low))
      | inr e ↦
          let parts = and_parts (eqb (run % 64) 0) (leb run 2560) e in
          (eqb-true (run % 64) 0 parts.0, leb-true run 2560 parts.1)
    ]

-- the code words of a run that begin bits: a terminating code, or a make-up code and a terminating code
pub run_begins : (color : Color) (bits : List Bool) (run : ℕ) → run ≤ 2623 → begins (run_words color run) bits ≡ true
    → ((run < 64) × IsNext color AllCodes bits run) ⊎ ((64 ≤ run) × IsNext color AllCodes bits (64 * (run / 64))
    × IsNext color TerminatingCodes (drop (length (code_word color (64 * (run / 64)))) bits) (run % 64))
run_begins color bits run most e = elim (cases_lt run 64) [
  | inl low ↦ inl (low, (low_listed AllCodes run low, rw (run_words_low color run low) at e))
  | inr high ↦
      let whole : begins (code_word color (64 * (run / 64)) ++ code_word color (run % 64)) bits ≡ true = rw (run_words_high color run high)
      at e in
      let parts = and_parts (begins (code_word color (64 * (run / 64))) bits) (begins (code_word color (run % 64)) (drop (length (code_word
      color (64 * (run / 64)))) bits)) (sym (begins-append (code_word color (64 * (run / 64))) (code_word color (run % 64)) bits) ∙
      whole) in
      inr (
        high,
        (high_listed (run / 64) (omega arith) (omega arith), parts.0),
        (
          low_listed TerminatingCodes (run % 64) (omega arith),
          parts.1,
        ),
      )
]

-- what is left after a code word
pub rest_after : (word : List Bool) (reader : Reading) → rest_of (after word reader) ≡ drop (length word) (rest_of reader)
rest_after word reader = sym (drop-drop (length word) reader.place reader.bits)

pub after-append : (a b : List Bool) (reader : Reading) → after b (after a reader) ≡ after (a ++ b) reader
after-append a b reader = simp (length-append, add_assoc)

-- where no code is, no run's code words does
pub no_run : (color : Color) (bits : List Bool) → ((run : ℕ) → ¬ IsNext color AllCodes bits run) → (run : ℕ) → run ≤ 2623
    → begins (run_words color run) bits ≡ false
no_run color bits none run most = elim (cases_Bool (begins (run_words color run) bits)) [
  | inr f ↦ f
  | inl t ↦ elim (run_begins color bits run most t) [
    | inl low ↦ absurd (none run low.1)
    | inr high ↦ absurd (none (64 * (run / 64)) high.1)
  ]
]

-- where a make-up code is and no terminating code after it, no run's code words does
pub no_run_after : (color : Color) (old : Reading) (high : ℕ) → 64 ≤ high → IsNext color AllCodes (rest_of old) high → ((run : ℕ)
    → ¬ IsNext color TerminatingCodes (rest_of (after (code_word color high) old)) run) → (run : ℕ) → run ≤ 2623
    → begins (run_words color run) (rest_of old) ≡ false
no_run_after color old high h stands none run most = elim (cases_Bool (begins (run_words color run) (rest_of old))) [
  | inr f ↦ f
  | inl t ↦ elim (run_begins color (rest_of old) run most t) [
    | inl low ↦ absurd (omega (arith, low.0, one_stands color AllCodes (rest_of old) run high low.1 stands))
    | inr both ↦
        let same : 64 * (run / 64) ≡ high = one_stands color AllCodes (rest_of old) (64 * (run / 64)) high both.1 stands in
        let later : IsNext color TerminatingCodes (drop (length (code_word color high)) (rest_of old)) (run % 64) = rw same at both.2 in
        absurd (none (run % 64) (rw (rest_after (code_word color high) old) later))
  ]
]

-- a make-up code and a terminating code are the code words of their sum
pub sum_words : (color : Color) (high low : ℕ) → Contains (runs_among AllCodes) high → 64 ≤ high → low < 64
    → (high + low ≤ 2623) × (run_words color (high + low) ≡ code_word color high ++ code_word color low)
sum_words color high low listed h l =
    let kind = high_run high listed h in
    let q : 64 * ((high + low) / 64) ≡ high = omega (arith, kind.0) in
    let r : (high + low) % 64 ≡ low = omega (arith, kind.0) in
    let long : 64 ≤ high + low = omega arith in (
      omega (arith, kind.1),
      run_words_high color (high + low) long ∙
          (ap (λ n. code_word color n ++ code_word color ((high + low) % 64)) q ∙ ap (λ n. code_word color high ++ code_word color n) r),
    )
