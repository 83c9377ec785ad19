-- Why a T.6 page goes no further where a mode code may come: what looking sees is what the sentences of the kinds say.
use Rattle.std.proofs.Common.{ltb, ℕ, suc, ◌≡◌, ◌+◌, ◌<◌, ◌≤◌, ◌⊎◌, inl, inr, Bool, true, false, List, [], ◌∷◌, ◌++◌, length, drop, Some}
use Rattle.std.proofs.Common.{None, refl}
use Rattle.std.proofs.Common.{ap, sym, ◌∙◌, subst, arith, cond, get_or, zero, length-append, append_assoc}
use Rattle.std.specs.Prelude.{Option, Contains, Result, Ok, Err}
use Rattle.std.proofs.lemmas.Bool.{cases_Bool, false≢true, lt-ltb, le-ltb, ltb-true, or_cases, or_right}
use Rattle.std.proofs.lemmas.List.{append-nil}
use Rattle.raster.specs.declared.row.Color.{Color}
use Rattle.run_tables.specs.declared.fault.CodeFaultKind.{CodeFaultKind}
use Rattle.run_tables.specs.declared.fault.CodeFaultKind.TheVariants.{BadCode, Truncated, Backwards, PastEnd, Extension}
use Rattle.run_tables.specs.Texts.{begins, pick, is_cut}
use Rattle.run_tables.specs.Fronts.Look.{refuse}
use Rattle.run_tables.specs.RowFronts.{judged}
use Rattle.run_tables.proofs.BeginsLemmas.{begins_own, begins_split, pick_begun, pick_found, pick_sound}
use Rattle.page_code.specs.declared.t6.mode.Shift.{Shift}
use Rattle.page_code.specs.declared.t6.mode.ModeCode.{ModeCode}
use Rattle.page_code.specs.declared.t6.mode.ModeCode.TheVariants.{Pass, Horizontal, Vertical}
use Rattle.page_code.specs.TwoDimensions.Positions.{CodingLine, IsB1, right_of_a0, b1_of}
use Rattle.page_code.specs.TwoDimensions.Modes.{to_right, to_left, extension_word, vertical_word}
use Rattle.page_code.specs.TwoDimensions.Fronts.{mode_word, mode_codes, PageItem, PageSoFar, PageState, after_mode, found_mode}
use Rattle.page_code.specs.TwoDimensions.Fronts.{look_mode}
use Rattle.page_code.specs.TwoDimensions.Fronts.PageItem.{mode_item}
use Rattle.page_code.specs.TwoDimensions.Kinds.{MayCome, BeginsWithCode, EndsInCode, TakesMode, IsNamed, PageKind}
use Rattle.page_code.proofs.TwoDimensions.Positions.{b1_found, b1_is}
use Rattle.page_code.proofs.TwoDimensions.Laws.{pass_leads_on, right_bound}
use Rattle.page_code.proofs.TwoDimensions.PageLook.{modes_apart}
use Rattle.page_code.proofs.TwoDimensions.Standing.{InRow}
use Rattle.page_code.proofs.TwoDimensions.StepsOn.{mode_stands}

-- ---- bits that begin bits

pub begun : (word x rest : List Bool) → x ≡ word ++ rest → begins word x ≡ true
begun word x rest e = rw e (begins_own word rest)

pub not_begun : (word x rest : List Bool) → begins word x ≡ false → x ≡ word ++ rest → ⊥
not_begun word x rest none e = false≢true (sym none ∙ begun word x rest e)

-- bits that begin a code word and aren't begun by it lack a bit
pub misses : (x word : List Bool) → begins x word ≡ true → begins word x ≡ false
    → (bit : Bool) × (more : List Bool) × (word ≡ x ++ bit ∷ more)
misses x word starts none = left (drop (length x) word) (begins_split x word starts)
  where
    left : (more : List Bool) → word ≡ x ++ more → (bit : Bool) × (rest : List Bool) × (word ≡ x ++ bit ∷ rest)
    left [] split = absurd (not_begun word x [] none (sym (append-nil x) ∙ (sym split ∙ sym (append-nil word))))
    left (bit ∷ more) split = (bit, more, split)

module _ {Item : Type 0} (word : Item → List Bool) where
  pub cut_at : (items : List Item) (x : List Bool) → is_cut word items x ≡ true → (i : Item) × (begins x (word i) ≡ true)
  cut_at [] x e = absurd (false≢true e)
  cut_at (i ∷ items) x e = elim (or_cases (begins x (word i)) (is_cut word items x) e) [ inl b ↦ (i, b) | inr later ↦ cut_at items x later ]

  pub cut_from : (items : List Item) (x : List Bool) (i : Item) → Contains items i → begins x (word i) ≡ true → is_cut word items x ≡ true
  cut_from items x i c b = at items c.0 c.1 c.2
    where
      at : (js : List Item) (k : ℕ) → k < length js → get_or js k i ≡ i → is_cut word js x ≡ true
      at [] k h e = absurd (omega arith)
      at (j ∷ js) zero h e = rw (e, b) refl
      at (j ∷ js) (suc k) h e = or_right (begins x (word j)) (is_cut word js x) (at js k (omega arith) e)

-- ---- mode codes

-- where none was picked none begins the bits
none_begins : (x : List Bool) → pick mode_word mode_codes x ≡ None → (code : ModeCode) (rest : List Bool) → x ≡ mode_word code ++ rest → ⊥
none_begins x none code rest e =
    let found = pick_begun mode_word mode_codes code x modes_apart (mode_stands code) (begun (mode_word code) x rest e) in
    let both : None ≡ Some code = sym none ∙ found in
    cc

-- bits that end inside a mode code begin with none
ends_in_none : (x : List Bool) (code : ModeCode) (bit : Bool) (more : List Bool) → mode_word code ≡ x ++ bit ∷ more → (other : ModeCode)
    (rest
    : List Bool) → x ≡ mode_word other ++ rest → ⊥
ends_in_none x code bit more ends other rest begins_it =
    let left : List Bool = rest ++ bit ∷ more in
    let whole : mode_word code ++ [] ≡ mode_word other ++ left = append-nil (mode_word code) ∙ (ends ∙ (ap (λ l. l ++ bit ∷ more) begins_it
    ∙
    append_assoc (mode_word other) rest (bit ∷ more))) in
    let one = pick_found mode_word mode_codes code [] modes_apart (mode_stands code) in
    let two = pick_found mode_word mode_codes other left modes_apart (mode_stands other) in
    let both : Some code ≡ Some other = sym one ∙ (ap (pick mode_word mode_codes) whole ∙ two) in
    let same : code ≡ other = cc in
    omega (
      arith,
      ap length whole,
      length-append (mode_word code) [],
      length-append (mode_word other) left,
      length-append rest (bit ∷ more),
      ap (λ (c : ModeCode). length (mode_word c)) same,
    )

-- an extension or a mode code begins the bits
abbrev pub HasMode : List Bool → Type 0
HasMode x = ((rest : List Bool) × (x ≡ extension_word ++ rest)) ⊎ ((code : ModeCode) × (rest : List Bool) × (x ≡ mode_word code ++ rest))

-- a state where bits are looked at for a mode code
pub record ModePlace (width : ℕ) (s : PageState) (page : PageSoFar) (line : CodingLine) (x : List Bool) : Type 0 where
  pub row : InRow width page line
  pub takes : TakesMode s page.reference line
  pub comes : (code : ModeCode) → MayCome s (mode_word code)
  pub begins_mode : BeginsWithCode s x → (code : ModeCode) × (rest : List Bool) × (x ≡ mode_word code ++ rest)
  pub ends_mode : EndsInCode s x → (code : ModeCode) × (bit : Bool) × (more : List Bool) × (mode_word code ≡ x ++ bit ∷ more)
  pub named : (kind : CodeFaultKind) → IsNamed width s x kind → HasMode x

-- the line right of which a1 has to be isn't past the width
right_within : (width : ℕ) (page : PageSoFar) (line : CodingLine) → InRow width page line → right_of_a0 line ≤ width
right_within width page line row = omega (arith, right_bound line, row.short)

-- ---- a refusal that is looked at has the kind of its sentence

judged_refuses : (i : PageItem) (r : Result PageState CodeFaultKind) (k : CodeFaultKind)
    → judged {Answer = List (List Color)} i r ≡ refuse k → r ≡ Err k
judged_refuses i (Ok t) k e = cc
judged_refuses i (Err j) k e = cc

module _ (width : ℕ) (s : PageState) (page : PageSoFar) (line : CodingLine) (x : List Bool) (place : ModePlace width s page line x) where
  no_named : begins extension_word x ≡ false → pick mode_word mode_codes x ≡ None → (kind : CodeFaultKind) → IsNamed width s x kind → ⊥
  no_named ext none kind is = elim (place.named kind is) [
    | inl e ↦ not_begun extension_word x e.0 ext e.1
    | inr m ↦ none_begins x none m.0 m.1 m.2
  ]

  missing_kind : (k : CodeFaultKind) → pick mode_word mode_codes x ≡ None → (a b : Bool) → begins extension_word x ≡ a
      → is_cut mode_word mode_codes x ≡ b → cond a Extension (cond b Truncated BadCode) ≡ k → PageKind width s x k
  missing_kind k none true b ext cut e = subst (PageKind width s x) e (
    extension_word,
    drop (length extension_word) x,
    (page.reference, line, place.takes, refl),
    begins_split extension_word x ext,
  )
  missing_kind k none false true ext cut e =
      let there = cut_at mode_word mode_codes x cut in
      let none_here : begins (mode_word there.0) x ≡ false = elim (cases_Bool (begins (mode_word there.0) x)) [
        | inl t ↦ absurd (none_begins x none there.0 (drop (length (mode_word there.0)) x) (begins_split (mode_word there.0) x t))
        | inr f ↦ f
      ] in
      let ends = misses x (mode_word there.0) there.1 none_here in
      subst (PageKind width s x) e (
        (mode_word there.0, ends.0, ends.1, place.comes there.0, ends.2),
        no_named ext none,
      )
  missing_kind k none false false ext cut e = subst (PageKind width s x) e (
    λ b. (let m = place.begins_mode b in none_begins x none m.0 m.1 m.2),
    λ c. (let m = place.ends_mode c in
        false≢true (sym cut ∙ cut_from mode_word mode_codes x m.0 (mode_stands m.0) (begun x (mode_word m.0) (m.1 ∷ m.2) m.3))),
    no_named ext none,
  )

  vertical_kind : (k : CodeFaultKind) (shift : Shift) (rest : List Bool) → x ≡ vertical_word shift ++ rest → (a b : Bool)
      → ltb (b1_of page.reference line + to_right shift) (right_of_a0 line + to_left shift) ≡ a
      → ltb (width + to_left shift) (b1_of page.reference line + to_right shift) ≡ b → (r : PageState)
      → cond a (Err Backwards) (cond b (Err PastEnd) (Ok r)) ≡ Err k → PageKind width s x k
  vertical_kind k shift rest is true b back past r e =
      let same : Backwards ≡ k = cc in
      subst (PageKind width s x) same (
        vertical_word shift,
        rest,
        (
          line,
          shift,
          b1_of page.reference line,
          (page.reference, place.takes, refl, b1_found page.reference line),
          ltb-true (b1_of page.reference line + to_right shift) (right_of_a0 line + to_left shift) back,
        ),
        is,
      )
  vertical_kind k shift rest is false true back past r e =
      let same : PastEnd ≡ k = cc in
      subst (PageKind width s x) same (
        vertical_word shift,
        rest,
        inl (
          line,
          shift,
          b1_of page.reference line,
          (page.reference, place.takes, refl, b1_found page.reference line),
          ltb-true (width + to_left shift) (b1_of page.reference line + to_right shift) past,
        ),
        is,
      )
  vertical_kind k shift rest is false false back past r e = cc

  found_kind : (k : CodeFaultKind) (code : ModeCode) (rest : List Bool) → x ≡ mode_word code ++ rest
      → after_mode width page line code ≡ Err k → PageKind width s x k
  unfolding after_mode
  found_kind k Pass rest is e =
      let leads = pass_leads_on width page line place.row.wide place.row.short in
      let both : ◌≡◌ {A = Result PageState CodeFaultKind} (Err k) (Ok _) = sym e ∙ leads in
      cc
  found_kind k Horizontal rest is e = cc
  found_kind k (Vertical shift) rest is e = vertical_kind k shift rest is (ltb (b1_of page.reference line + to_right shift) (right_of_a0
      line
      + to_left shift)) (ltb (width + to_left shift) (b1_of page.reference line + to_right shift)) refl refl _ e

  picked_kind : (k : CodeFaultKind) (o : Option ModeCode) → pick mode_word mode_codes x ≡ o → found_mode width page line x o ≡ refuse k
      → PageKind width s x k
  picked_kind k None p e =
      let kinds : cond (begins extension_word x) Extension (cond (is_cut mode_word mode_codes x) Truncated BadCode) ≡ k = cc in
      missing_kind k p (begins extension_word x) (is_cut mode_word mode_codes x) refl refl kinds
  picked_kind k (Some code) p e =
      let there = pick_sound mode_word mode_codes code x p in
      found_kind k code (drop (length (mode_word code)) x) there.1 (judged_refuses (mode_item code) (after_mode width page line code) k e)

  pub mode_look_kind : (k : CodeFaultKind) → look_mode width page line x ≡ refuse k → PageKind width s x k
  unfolding look_mode
  mode_look_kind k e = picked_kind k (pick mode_word mode_codes x) refl e

-- ---- what a sentence says is looked at

abbrev Refuses : ℕ → PageSoFar → CodingLine → List Bool → CodeFaultKind → Type 0
Refuses width page line x kind = look_mode width page line x ≡ refuse kind

pub extension_looks : (width : ℕ) (page : PageSoFar) (line : CodingLine) (x rest : List Bool) → x ≡ extension_word ++ rest
    → Refuses width page line x Extension
unfolding look_mode
extension_looks width page line x rest is = rw is refl

-- the vertical mode's code is picked
vertical_looks : (width : ℕ) (page : PageSoFar) (line : CodingLine) (x rest : List Bool) (shift : Shift) (k : CodeFaultKind)
    → x ≡ vertical_word shift ++ rest → after_mode width page line (Vertical shift) ≡ Err k → Refuses width page line x k
unfolding look_mode
vertical_looks width page line x rest shift k is e =
    ap (found_mode width page line x) (ap (pick mode_word mode_codes) is ∙
    pick_found mode_word mode_codes (Vertical shift) rest modes_apart (mode_stands (Vertical shift))) ∙
    ap (judged (mode_item (Vertical shift))) e

pub back_looks : (width : ℕ) (page : PageSoFar) (line : CodingLine) (x rest : List Bool) (shift : Shift) (b1 : ℕ)
    → IsB1 page.reference line b1 → b1 + to_right shift < right_of_a0 line + to_left shift → x ≡ vertical_word shift ++ rest
    → Refuses width page line x Backwards
unfolding after_mode
back_looks width page line x rest shift b1 is1 less is =
    let same = b1_is page.reference line b1 is1 in
    let leads : after_mode width page line (Vertical shift) ≡ Err Backwards = rw (lt-ltb (b1_of page.reference line + to_right shift)
    (right_of_a0 line + to_left shift) (omega (arith, same, less))) refl in
    vertical_looks width page line x rest shift Backwards is leads

pub past_looks : (width : ℕ) (page : PageSoFar) (line : CodingLine) (x rest : List Bool) (shift : Shift) (b1 : ℕ) → InRow width page line
    → IsB1 page.reference line b1 → width + to_left shift < b1 + to_right shift → x ≡ vertical_word shift ++ rest
    → Refuses width page line x PastEnd
unfolding after_mode
past_looks width page line x rest shift b1 row is1 more is =
    let same = b1_is page.reference line b1 is1 in
    let within = right_within width page line row in
    let leads : after_mode width page line (Vertical shift) ≡ Err PastEnd = rw (
      le-ltb (b1_of page.reference line + to_right shift) (right_of_a0 line + to_left shift) (omega (arith, same, more, within)),
      lt-ltb (width + to_left shift) (b1_of page.reference line + to_right shift) (omega (arith, same, more)),
    ) refl in
    vertical_looks width page line x rest shift PastEnd is leads

module _ (width : ℕ) (s : PageState) (page : PageSoFar) (line : CodingLine) (x : List Bool) (place : ModePlace width s page line x) where
  none_picked : ((code : ModeCode) (rest : List Bool) → x ≡ mode_word code ++ rest → ⊥) → pick mode_word mode_codes x ≡ None
  none_picked none = at (pick mode_word mode_codes x) refl
    where
      at : (o : Option ModeCode) → pick mode_word mode_codes x ≡ o → o ≡ None
      at None e = refl
      at (Some code) e = absurd (none code (drop (length (mode_word code)) x) (pick_sound mode_word mode_codes code x e).1)

  missing_looks : (k : CodeFaultKind) → pick mode_word mode_codes x ≡ None → ((kind : CodeFaultKind) → IsNamed width s x kind → ⊥)
      → cond (is_cut mode_word mode_codes x) Truncated BadCode ≡ k → Refuses width page line x k
  unfolding look_mode
  missing_looks k none unnamed e =
      let ext : begins extension_word x ≡ false = elim (cases_Bool (begins extension_word x)) [
        | inl t ↦ absurd (unnamed Extension (
          extension_word,
          drop (length extension_word) x,
          (page.reference, line, place.takes, refl),
          begins_split extension_word x t,
        ))
        | inr f ↦ f
      ] in
      ap (found_mode width page line x) none ∙ (ap (λ b. refuse (cond b Extension (cond (is_cut mode_word mode_codes x) Truncated BadCode)))
      ext ∙ ap refuse e)

  pub cut_looks : PageKind width s x Truncated → Refuses width page line x Truncated
  cut_looks is =
      let m = place.ends_mode is.0 in
      let cut = cut_from mode_word mode_codes x m.0 (mode_stands m.0) (begun x (mode_word m.0) (m.1 ∷ m.2) m.3) in
      missing_looks Truncated (none_picked (ends_in_none x m.0 m.1 m.2 m.3)) is.1 (rw cut refl)

  pub bad_looks : PageKind width s x BadCode → Refuses width page line x BadCode
  bad_looks is =
      let none : (code : ModeCode) (rest : List Bool) → x ≡ mode_word code ++ rest → ⊥ = λ code rest e.
      is.0 (mode_word code, rest, place.comes code, e) in
      let uncut : is_cut mode_word mode_codes x ≡ false = elim (cases_Bool (is_cut mode_word mode_codes x)) [
        | inl t ↦
            let there = cut_at mode_word mode_codes x t in
            absurd (uncut_at there.0 there.1 (begins (mode_word there.0) x) refl)
        | inr f ↦ f
      ] in
      missing_looks BadCode (none_picked none) is.2 (rw uncut refl)
    where
      uncut_at : (code : ModeCode) → begins x (mode_word code) ≡ true → (b : Bool) → begins (mode_word code) x ≡ b → ⊥
      uncut_at code starts true e = is.0 (
        mode_word code,
        drop (length (mode_word code)) x,
        place.comes code,
        begins_split (mode_word code)
            x e,
      )
      uncut_at code starts false e =
          let ends = misses x (mode_word code) starts e in
          is.1 (mode_word code, ends.0, ends.1, place.comes code, ends.2)
