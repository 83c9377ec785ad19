-- Why a T.6 page goes no further: what looking sees after whole codes is what the sentences of the kinds say.
use Rattle.std.proofs.Common.{ltb, ℕ, zero, suc, ◌≡◌, ◌<◌, ◌≤◌, inl, inr, Bool, true, false, List, [], ◌∷◌, ◌++◌, length, drop, replicate}
use Rattle.std.proofs.Common.{refl, ap, sym, ◌∙◌, subst, arith, cond, length-append}
use Rattle.std.proofs.lemmas.Bool.{cases_Bool, false≢true, lt-ltb, le-ltb, ltb-true, ltb-false}
use Rattle.raster.specs.declared.row.Color.{Color}
use Rattle.run_tables.specs.declared.fault.CodeFaultKind.{CodeFaultKind}
use Rattle.run_tables.specs.declared.fault.CodeFaultKind.TheVariants.{NoRows, NoMemory, BadCode, Truncated, RunTooLong, Backwards, PastEnd}
use Rattle.run_tables.specs.declared.fault.CodeFaultKind.TheVariants.{EmptyHorizontal, Extension, MissingEofb, TooManyCodedRows}
use Rattle.run_tables.specs.Texts.{begins, all_zero}
use Rattle.run_tables.specs.Fronts.Look.{refuse}
use Rattle.run_tables.proofs.BeginsLemmas.{begins_split}
use Rattle.page_code.specs.declared.t6.mode.ModeCode.{ModeCode}
use Rattle.page_code.specs.declared.t6.mode.ModeCode.TheVariants.{Pass, Horizontal, Vertical}
use Rattle.page_code.specs.declared.t6.mode.Shift.TheVariants.{V0, VR1, VR2, VR3, VL1, VL2, VL3}
use Rattle.page_code.specs.TwoDimensions.Positions.{CodingLine, line_begin}
use Rattle.page_code.specs.TwoDimensions.Modes.{eofb, extension_word, vertical_word}
use Rattle.page_code.specs.TwoDimensions.Fronts.{mode_word, PageSoFar, PageState, look_mode, page_end, page_look}
use Rattle.page_code.specs.TwoDimensions.Fronts.PageState.{between, inside, running}
use Rattle.page_code.specs.TwoDimensions.Kinds.{BeginsWithCode, EndsInCode, HasTooMany, IsNamed, PageKind}
use Rattle.page_code.proofs.TwoDimensions.ModeKinds.{HasMode, ModePlace, begun, not_begun, misses, mode_look_kind, extension_looks}
use Rattle.page_code.proofs.TwoDimensions.ModeKinds.{back_looks}
use Rattle.page_code.proofs.TwoDimensions.ModeKinds.{past_looks, cut_looks, bad_looks}
use Rattle.page_code.proofs.TwoDimensions.ModeTable.{mode_some}
use Rattle.page_code.proofs.TwoDimensions.PageLook.{row_begins}
use Rattle.page_code.proofs.TwoDimensions.RunKinds.{run_look_kind, run_kind_looks}
use Rattle.page_code.proofs.TwoDimensions.Standing.{Stands, InRow, row_start}
use Rattle.page_code.proofs.TwoDimensions.StepsOn.{mode_stands}

-- ---- only 0 bits

zeros_are : (x : List Bool) → all_zero x ≡ true → x ≡ replicate (length x) false
zeros_are [] e = refl
zeros_are (true ∷ x) e = absurd (false≢true e)
zeros_are (false ∷ x) e = ap (λ l. false ∷ l) (zeros_are x e)

are_zeros : (n : ℕ) → all_zero (replicate n false) ≡ true
are_zeros zero = refl
are_zeros (suc n) = are_zeros n

-- ---- EOFB and codes that begin a row

-- a mode code isn't a beginning of EOFB, nor an extension, whatever follows
mode_uncut : (code : ModeCode) (rest : List Bool) → begins (mode_word code ++ rest) eofb ≡ false
mode_uncut Pass rest = refl
mode_uncut Horizontal rest = refl
mode_uncut (Vertical V0) rest = refl
mode_uncut (Vertical VR1) rest = refl
mode_uncut (Vertical VR2) rest = refl
mode_uncut (Vertical VR3) rest = refl
mode_uncut (Vertical VL1) rest = refl
mode_uncut (Vertical VL2) rest = refl
mode_uncut (Vertical VL3) rest = refl

has_mode_uncut : (x : List Bool) → begins x eofb ≡ true → HasMode x → ⊥
has_mode_uncut x cut (inl e) =
    let ext : begins (extension_word ++ e.0) eofb ≡ false = refl in
    false≢true (sym ext ∙ (ap (λ l. begins l eofb) (sym e.1) ∙ cut))
has_mode_uncut x cut (inr m) = false≢true (sym (mode_uncut m.0 m.1) ∙ (ap (λ l. begins l eofb) (sym m.2) ∙ cut))

-- where an extension begins the bits, neither EOFB nor only 0 bits are there
extension_row : (width : ℕ) (page : PageSoFar) (rest : List Bool) → length page.rows < 20000
    → page_look width (between page) (extension_word ++ rest) ≡ look_mode width page line_begin (extension_word ++ rest)
extension_row width page rest room = rw (lt-ltb (length page.rows) 20000 room) refl

-- ---- inside a row

inside_named : (width : ℕ) (page : PageSoFar) (line : CodingLine) (x : List Bool) (kind : CodeFaultKind)
    → IsNamed width (inside page line) x kind → HasMode x
inside_named width page line x NoRows is = absurd is.2
inside_named width page line x NoMemory is = absurd is.2
inside_named width page line x BadCode is = absurd is.2
inside_named width page line x Truncated is = absurd is.2
inside_named width page line x RunTooLong is = absurd is.2
inside_named width page line x Backwards is = inr (Vertical is.2.1, is.1, is.3 ∙ ap (λ w. w ++ is.1) is.2.3.2)
inside_named width page line x PastEnd is = elim is.2 [
  | inl past ↦ inr (Vertical past.1, is.1, is.3 ∙ ap (λ w. w ++ is.1) past.3.2)
  | inr run ↦ absurd run
]
inside_named width page line x EmptyHorizontal is = absurd is.2
inside_named width page line x Extension is = inl (is.1, is.3 ∙ ap (λ w. w ++ is.1) is.2.3)
inside_named width page line x MissingEofb is = absurd is
inside_named width page line x TooManyCodedRows is = absurd is

inside_place : (width : ℕ) (page : PageSoFar) (line : CodingLine) (x : List Bool) → InRow width page line
    → ModePlace width (inside page line) page line x
inside_place width page line x row = record {
  row = row;
  takes = (refl, refl);
  comes = λ code. (code, refl);
  begins_mode = λ b. (b.2.0, b.1, b.3 ∙ ap (λ w. w ++ b.1) b.2.1);
  ends_mode = λ e. (e.3.0, e.1, e.2, sym e.3.1 ∙ e.4);
  named = λ kind is. inside_named width page line x kind is;
}

inside_looks : (width : ℕ) (page : PageSoFar) (line : CodingLine) (x : List Bool) (k : CodeFaultKind) → InRow width page line
    → PageKind width (inside page line) x k → look_mode width page line x ≡ refuse k
inside_looks width page line x NoRows row is = absurd is.2
inside_looks width page line x NoMemory row is = absurd is.2
inside_looks width page line x BadCode row is = bad_looks width (inside page line) page line x (inside_place width page line x row) is
inside_looks width page line x Truncated row is = cut_looks width (inside page line) page line x (inside_place width page line x row) is
inside_looks width page line x RunTooLong row is = absurd is.2
inside_looks width page line x Backwards row is =
    let at = is.2.3 in
    back_looks width page line x is.1 is.2.1 is.2.2 (rw (at.1.0, at.1.1) at at.3) (rw at.1.1 at is.2.4) (is.3 ∙ ap (λ w. w ++ is.1) at.2)
inside_looks width page line x PastEnd row is = elim is.2 [
  | inl past ↦
      let at = past.3 in
      past_looks width page line x is.1 past.1 past.2 row (rw (at.1.0, at.1.1) at at.3) past.4 (is.3 ∙ ap (λ w. w ++ is.1) at.2)
  | inr run ↦ absurd run
]
inside_looks width page line x EmptyHorizontal row is = absurd is.2
inside_looks width page line x Extension row is = extension_looks width page line x is.1 (is.3 ∙ ap (λ w. w ++ is.1) is.2.3)
inside_looks width page line x MissingEofb row is = absurd is
inside_looks width page line x TooManyCodedRows row is = absurd is

-- ---- between rows

module _ (width : ℕ) (page : PageSoFar) (x : List Bool) where
  abbrev place : PageState
  place = between page

  -- what is looked at between rows, by what the tests say
  abbrev tested : Bool → Bool → Bool → Bool → CodeFaultKind → Type 0
  tested a b c d k = cond a (page_end page.rows) (cond b (refuse MissingEofb) (cond c (refuse Truncated) (cond d (look_mode width page
      line_begin x) (refuse TooManyCodedRows)))) ≡ refuse k

  between_named : begins eofb x ≡ false → all_zero x ≡ false → (HasTooMany place x → ⊥) → (kind : CodeFaultKind)
      → IsNamed width place x kind → HasMode x
  between_named end zeros room NoRows is = absurd (not_begun eofb x is.1 end (is.3 ∙ ap (λ w. w ++ is.1) is.2.1))
  between_named end zeros room NoMemory is = absurd is.2
  between_named end zeros room BadCode is = absurd is.2
  between_named end zeros room Truncated is = absurd is.2
  between_named end zeros room RunTooLong is = absurd is.2
  between_named end zeros room Backwards is = inr (Vertical is.2.1, is.1, is.3 ∙ ap (λ w. w ++ is.1) is.2.3.2)
  between_named end zeros room PastEnd is = elim is.2 [
    | inl past ↦ inr (Vertical past.1, is.1, is.3 ∙ ap (λ w. w ++ is.1) past.3.2)
    | inr run ↦ absurd run
  ]
  between_named end zeros room EmptyHorizontal is = absurd is.2
  between_named end zeros room Extension is = inl (is.1, is.3 ∙ ap (λ w. w ++ is.1) is.2.3)
  between_named end zeros room MissingEofb is = absurd (false≢true (sym zeros ∙ (ap all_zero is ∙ are_zeros (length x))))
  between_named end zeros room TooManyCodedRows is = absurd (room is)

  between_place : InRow width page line_begin → begins eofb x ≡ false → all_zero x ≡ false → begins x eofb ≡ false
      → ModePlace width place page line_begin x
  between_place row end zeros cut = record {
    row = row;
    takes = (row.room, refl, refl);
    comes = λ code. inr (row.room, code, refl);
    begins_mode = λ b. elim b.2 [
      | inl e ↦ absurd (not_begun eofb x b.1 end (b.3 ∙ ap (λ w. w ++ b.1) e))
      | inr m ↦ (m.1, b.1, b.3 ∙ ap (λ w. w ++ b.1) m.2)
    ];
    ends_mode = λ e. elim e.3 [
      | inl is ↦ absurd (not_begun x eofb (e.1 ∷ e.2) cut (sym is ∙ e.4))
      | inr m ↦ (m.1, e.1, e.2, sym m.2 ∙ e.4)
    ];
    named = λ kind is. between_named end zeros (λ many. omega (arith, row.room, many.0)) kind is;
  }

  -- EOFB is no beginning of a code that may come, with a bit missing
  end_whole : begins eofb x ≡ true → EndsInCode place x → ⊥
  end_whole end ends =
      let split = begins_split eofb x end in
      let long = length-append eofb (drop (length eofb) x) in
      elim ends.3 [
        | inl is ↦ omega (arith, ap length split, long, ap length is, ap length ends.4, length-append x (ends.1 ∷ ends.2))
        | inr m ↦ omega (
          arith,
          ap length split,
          long,
          ap length m.2,
          (mode_some m.1).1,
          ap length ends.4,
          length-append x (ends.1 ∷ ends.2),
        )
      ]

  -- a beginning of EOFB that isn't whole
  end_cut : begins eofb x ≡ false → begins x eofb ≡ true → EndsInCode place x
  end_cut end cut =
      let ends = misses x eofb cut end in
      (eofb, ends.0, ends.1, inl refl, ends.2)

  end_begins : begins eofb x ≡ true → BeginsWithCode place x
  end_begins end = (eofb, drop (length eofb) x, inl refl, begins_split eofb x end)

  -- of 20,000 rows no mode code may come
  full_begins : 20000 ≤ length page.rows → begins eofb x ≡ false → BeginsWithCode place x → ⊥
  full_begins full end b = elim b.2 [
    | inl e ↦ not_begun eofb x b.1 end (b.3 ∙ ap (λ w. w ++ b.1) e)
    | inr m ↦ omega (arith, m.0)
  ]

  full_ends : 20000 ≤ length page.rows → begins x eofb ≡ false → EndsInCode place x → ⊥
  full_ends full cut e = elim e.3 [
    | inl is ↦ not_begun x eofb (e.1 ∷ e.2) cut (sym is ∙ e.4)
    | inr m ↦ omega (arith, m.0)
  ]

  some_bit : all_zero x ≡ false → x ≡ replicate (length x) false → ⊥
  some_bit zeros is = false≢true (sym zeros ∙ (ap all_zero is ∙ are_zeros (length x)))

  -- a beginning of EOFB with a 1 bit is named by no sentence
  cut_unnamed : begins eofb x ≡ false → all_zero x ≡ false → begins x eofb ≡ true → (kind : CodeFaultKind) → IsNamed width place x kind → ⊥
  cut_unnamed end zeros cut kind is = has_mode_uncut x cut (between_named end zeros (λ many. many.2 (end_cut end cut)) kind is)

  ended_kind : (rows : List (List Color)) (k : CodeFaultKind) → page.rows ≡ rows → begins eofb x ≡ true → page_end rows ≡ refuse k
      → PageKind width place x k
  ended_kind [] k none end e =
      let same : NoRows ≡ k = cc in
      subst (PageKind width place x) same (eofb, drop (length eofb) x, (none, refl), begins_split eofb x end)
  ended_kind (row ∷ rows) k are end e = cc

  between_kind : (k : CodeFaultKind) → 0 < width → Stands width place → (a b c d : Bool) → begins eofb x ≡ a → all_zero x ≡ b
      → begins x eofb ≡ c → ltb (length page.rows) 20000 ≡ d → tested a b c d k → PageKind width place x k
  between_kind k some h true b c d end zeros cut room e = ended_kind page.rows k refl end e
  between_kind k some h false true c d end zeros cut room e =
      let same : MissingEofb ≡ k = cc in
      subst (PageKind width place x) same (zeros_are x zeros)
  between_kind k some h false false true d end zeros cut room e =
      let same : Truncated ≡ k = cc in
      subst (PageKind width place x) same (end_cut end cut, cut_unnamed end zeros cut)
  between_kind k some h false false false true end zeros cut room e =
      mode_look_kind width place page line_begin x (between_place (row_start width page some h.0 (ltb-true (length page.rows) 20000 room))
      end
      zeros cut) k e
  between_kind k some h false false false false end zeros cut room e =
      let same : TooManyCodedRows ≡ k = cc in
      let full = ltb-false (length page.rows) 20000 room in
      subst (PageKind width place x) same (full, full_begins full end, full_ends full cut, some_bit zeros)

  -- ---- what a sentence says is looked at

  no_rows_looks : (rows : List (List Color)) → page.rows ≡ rows → rows ≡ [] → begins eofb x ≡ true
      → page_look width place x ≡ refuse NoRows
  no_rows_looks [] are none end = rw (end, are) refl
  no_rows_looks (row ∷ rows) are none end = cc

  missing_looks : x ≡ replicate (length x) false → page_look width place x ≡ refuse MissingEofb
  missing_looks is =
      let zeros : all_zero x ≡ true = ap all_zero is ∙ are_zeros (length x) in
      let end : begins eofb x ≡ false = elim (cases_Bool (begins eofb x)) [
        | inl t ↦
            let one : all_zero (eofb ++ drop (length eofb) x) ≡ false = refl in
            absurd (false≢true (sym one ∙ (ap all_zero (sym (begins_split eofb x t)) ∙ zeros)))
        | inr f ↦ f
      ] in
      rw (end, zeros) refl

  full_looks : HasTooMany place x → page_look width place x ≡ refuse TooManyCodedRows
  full_looks is =
      let end : begins eofb x ≡ false = elim (cases_Bool (begins eofb x)) [ inl t ↦ absurd (is.1 (end_begins t)) | inr f ↦ f ] in
      let zeros : all_zero x ≡ false = elim (cases_Bool (all_zero x)) [ inl t ↦ absurd (is.3 (zeros_are x t)) | inr f ↦ f ] in
      let cut : begins x eofb ≡ false = elim (cases_Bool (begins x eofb)) [ inl t ↦ absurd (is.2 (end_cut end t)) | inr f ↦ f ] in
      rw (end, zeros, cut, le-ltb (length page.rows) 20000 is.0) refl

  -- an answer by what the tests say
  by_tests : (k : CodeFaultKind) → ((a b c d : Bool) → begins eofb x ≡ a → all_zero x ≡ b → begins x eofb ≡ c
      → ltb (length page.rows) 20000 ≡ d → tested a b c d k) → page_look width place x ≡ refuse k
  by_tests k answer = answer (begins eofb x) (all_zero x) (begins x eofb) (ltb (length page.rows) 20000) refl refl refl refl

  cut_tested : 0 < width → Stands width place → PageKind width place x Truncated → (a b c d : Bool) → begins eofb x ≡ a → all_zero x ≡ b
      → begins x eofb ≡ c → ltb (length page.rows) 20000 ≡ d → tested a b c d Truncated
  cut_tested some h is true b c d end zeros cut room = absurd (end_whole end is.0)
  cut_tested some h is false true c d end zeros cut room = absurd (is.1 MissingEofb (zeros_are x zeros))
  cut_tested some h is false false true d end zeros cut room = refl
  cut_tested some h is false false false true end zeros cut room =
      cut_looks width place page line_begin x (between_place (row_start width page some h.0 (ltb-true (length page.rows) 20000 room)) end
      zeros cut) is
  cut_tested some h is false false false false end zeros cut room = absurd (full_ends (ltb-false (length page.rows) 20000 room) cut is.0)

  bad_tested : 0 < width → Stands width place → PageKind width place x BadCode → (a b c d : Bool) → begins eofb x ≡ a → all_zero x ≡ b
      → begins x eofb ≡ c → ltb (length page.rows) 20000 ≡ d → tested a b c d BadCode
  bad_tested some h is true b c d end zeros cut room = absurd (is.0 (end_begins end))
  bad_tested some h is false true c d end zeros cut room = absurd (is.2 MissingEofb (zeros_are x zeros))
  bad_tested some h is false false true d end zeros cut room = absurd (is.1 (end_cut end cut))
  bad_tested some h is false false false true end zeros cut room =
      bad_looks width place page line_begin x (between_place (row_start width page some h.0 (ltb-true (length page.rows) 20000 room)) end
      zeros cut) is
  bad_tested some h is false false false false end zeros cut room =
      let full = ltb-false (length page.rows) 20000 room in
      absurd (is.2 TooManyCodedRows (full, full_begins full end, full_ends full cut, some_bit zeros))

  mode_row : (code : ModeCode) (rest : List Bool) → length page.rows < 20000 → x ≡ mode_word code ++ rest
      → page_look width place x ≡ look_mode width page line_begin x
  mode_row code rest room is = ap (page_look width place) is ∙ (row_begins width page code rest room (mode_stands code) ∙
      ap (look_mode width page line_begin) (sym is))

  between_looks : (k : CodeFaultKind) → 0 < width → Stands width place → PageKind width place x k → page_look width place x ≡ refuse k
  between_looks NoRows some h is = no_rows_looks page.rows refl is.2.0 (begun eofb x is.1 (is.3 ∙ ap (λ w. w ++ is.1) is.2.1))
  between_looks NoMemory some h is = absurd is.2
  between_looks BadCode some h is = by_tests BadCode (bad_tested some h is)
  between_looks Truncated some h is = by_tests Truncated (cut_tested some h is)
  between_looks RunTooLong some h is = absurd is.2
  between_looks Backwards some h is =
      let at = is.2.3 in
      let word : x ≡ vertical_word is.2.1 ++ is.1 = is.3 ∙ ap (λ w. w ++ is.1) at.2 in
      mode_row (Vertical is.2.1) is.1 at.1.0 word ∙
      back_looks width page line_begin x is.1 is.2.1 is.2.2 (rw (at.1.1, at.1.2) at at.3) (rw at.1.2 at is.2.4) word
  between_looks PastEnd some h is = elim is.2 [
    | inl past ↦
        let at = past.3 in
        let word : x ≡ vertical_word past.1 ++ is.1 = is.3 ∙ ap (λ w. w ++ is.1) at.2 in
        mode_row (Vertical past.1) is.1 at.1.0 word ∙
        past_looks width page line_begin x is.1 past.1 past.2 (row_start width page some h.0 at.1.0) (rw (at.1.1, at.1.2) at at.3) past.4
        word
    | inr run ↦ absurd run
  ]
  between_looks EmptyHorizontal some h is = absurd is.2
  between_looks Extension some h is =
      let word : x ≡ extension_word ++ is.1 = is.3 ∙ ap (λ w. w ++ is.1) is.2.3 in
      ap (page_look width place) word ∙ (extension_row width page is.1 is.2.2.0 ∙ (ap (look_mode width page line_begin) (sym word) ∙
      extension_looks width page line_begin x is.1 word))
  between_looks MissingEofb some h is = missing_looks is
  between_looks TooManyCodedRows some h is = full_looks is

-- ---- any place

-- a refusal that is looked at has the kind of its sentence
pub look_kind : (width : ℕ) (s : PageState) (x : List Bool) (k : CodeFaultKind) → 0 < width → Stands width s → page_look width s x ≡ refuse
    k
    → PageKind width s x k
look_kind width (between page) x k some h e = between_kind width page x k some h (begins eofb x) (all_zero x) (begins x eofb) (ltb (length
    page.rows) 20000) refl refl refl refl e
look_kind width (inside page line) x k some h e = mode_look_kind width (inside page line) page line x (inside_place width page line x h) k e
look_kind width (running page line first makeup) x k some h e = run_look_kind width page line first makeup x k h.2 e

-- and what a sentence says is looked at
pub kind_look : (width : ℕ) (s : PageState) (x : List Bool) (k : CodeFaultKind) → 0 < width → Stands width s → PageKind width s x k
    → page_look width s x ≡ refuse k
kind_look width (between page) x k some h is = between_looks width page x k some h is
kind_look width (inside page line) x k some h is = inside_looks width page line x k h is
kind_look width (running page line first makeup) x k some h is = run_kind_looks width page line first makeup x k h.0 is
