-- The row after the whole rows of a T.6 page, as far as it was read: its modes stay read when more bits come.
use Rattle.std.proofs.Common.{ℕ, ◌≡◌, ◌+◌, ◌-◌, ◌*◌, ◌<◌, ◌≤◌, Bool, List, [], ◌++◌, length, drop, refl, ap, subst, sym, ◌∙◌, arith}
use Rattle.std.specs.Prelude.{Result}
use Rattle.std.proofs.lemmas.List.{drop-drop, length-drop}
use Rattle.raster.specs.declared.packed.Order.{Order}
use Rattle.raster.specs.declared.row.Color.{Color}
use Rattle.raster.specs.Packed.{bits_of}
use Rattle.raster.proofs.PackedLemmas.{length-bits_in}
use Rattle.run_tables.specs.declared.fault.CodeFault.{CodeFault}
use Rattle.run_tables.specs.Fronts.{spell}
use Rattle.run_tables.specs.Reading.{Reading, rest_of}
use Rattle.page_code.specs.declared.t6.read.one_row.OpenLines.{OpenLines}
use Rattle.page_code.specs.TwoDimensions.Fronts.{PageSoFar, mode_ended, page_item_word}
use Rattle.page_code.specs.TwoDimensions.Lines.{BothLines}
use Rattle.page_code.specs.TwoDimensions.OpenLines.{AreModesRead, AreOpenLines}
use Rattle.page_code.specs.TwoDimensions.Positions.{CodingLine, line_begin}
use Rattle.page_code.specs.TwoDimensions.Reading.{GoesTo, ReadsRow, RowStep, StepsAlong}
use Rattle.page_code.proofs.FrontEnds.{leads_more, leads_rest, leads_within}
use Rattle.page_code.proofs.PassedRows.{held_on}
use Rattle.page_code.proofs.TwoDimensions.RowReading.{goes_none}

-- bits are left after the modes that were read
pub modes_within : (held : List Bool) (at : ℕ) (begun : OpenLines) → at ≤ length held → AreModesRead (drop at held) begun
    → at + begun.used ≤ length held
modes_within held at begun within read =
    let leads = read.leads (record { rows = []; reference = begun.lines.reference }) refl in
    omega (
      arith,
      within,
      length-drop at held,
      leads_within page_item_word (RowStep (length begun.lines.reference)) _ _ (drop at held) begun.used leads,
    )

-- the row goes on after them
pub modes_along : (held : List Bool) (at : ℕ) (begun : OpenLines) → at ≤ length held → AreModesRead (drop at held) begun
    → StepsAlong begun.lines.reference (record { bits = held; place = at }) (record { bits = held; place = at + begun.used }) line_begin
    begun.lines.line
modes_along held at begun within read = (
  refl,
  omega arith,
  modes_within held at begun within read,
  read.fits,
  λ page is.
      let leads = read.leads page is in record {
        items = leads.items;
        walk = leads.walk;
        spelled = leads.spelled ∙ ap (λ (l : List Bool). spell page_item_word leads.items ++ l) (sym (leads_rest page_item_word (RowStep (length begun.lines.reference)) _ _
            (drop at held) begun.used leads) ∙ drop-drop begun.used at held);
        later_is = ap (λ (n : ℕ). at + n) leads.place_is;
      },
)

-- modes from a row's beginning were read
pub modes_read : (held : List Bool) (at : ℕ) (now : Reading) (begun : OpenLines) → (reference : List Color) → reference ≡ begun.lines.reference
    → StepsAlong reference (record { bits = held; place = at }) now line_begin begun.lines.line → begun.used ≡ now.place - at
    → AreModesRead (drop at held) begun
modes_read held at now begun reference same along used = subst (λ (r : List Color). r ≡ begun.lines.reference → StepsAlong r
    (record { bits = held; place = at }) now line_begin begun.lines.line → AreModesRead (drop at held) begun) (sym same) here same along
  where
    here : begun.lines.reference ≡ begun.lines.reference → StepsAlong begun.lines.reference (record { bits = held; place = at }) now line_begin
        begun.lines.line → AreModesRead (drop at held) begun
    here is along = record {
      fits = along.3;
      leads = λ page is.
          let goes = along.4 page is in record {
            items = goes.items;
            rest = rest_of now;
            walk = goes.walk;
            spelled = goes.spelled;
            place_is = omega (arith, used, goes.later_is);
          };
    }

-- they stay read when more bits come
modes_more : (bits more : List Bool) (begun : OpenLines) → AreModesRead bits begun → AreModesRead (bits ++ more) begun
modes_more bits more begun read = record {
  fits = read.fits;
  leads = λ page is. leads_more page_item_word (RowStep (length begun.lines.reference)) _ _ bits more begun.used (read.leads page is);
}

-- and when octets before them are given up
pub open_taken : (order : Order) (held now more : List ℕ) (up place at : ℕ) (begun : OpenLines) → now ≡ drop up held ++ more
    → up ≤ length held → 8 * up + at ≡ place → place ≤ 8 * length held → AreOpenLines (drop place (bits_of order held)) begun
    → AreOpenLines (drop at (bits_of order now)) begun
open_taken order held now more up place at begun joined within is fits come used = subst (λ (x : List Bool). AreModesRead x begun)
    (sym (held_on order held now more up place at joined within is fits)) (modes_more (drop place (bits_of order held)) (bits_of order more)
    begun (come used))

-- no mode was read yet
pub modes_none : (held : List Bool) (at : ℕ) (reference : List Color) → at ≤ length held
    → StepsAlong reference (record { bits = held; place = at }) (record { bits = held; place = at }) line_begin line_begin
modes_none held at reference within = (
  refl,
  omega arith,
  within,
  omega arith,
  λ page is. goes_none (length reference) (mode_ended (length reference) page line_begin) at (drop at held),
)

-- reading on after the modes of a row is reading the row
pub resumes : (reference now : List Color) → now ≡ reference → (start begin reader after : Reading) (line : CodingLine)
    (result : Result (List Color) CodeFault) → start ≡ begin → StepsAlong reference begin reader line_begin line
    → ((s : Reading) → StepsAlong now s reader line_begin line → ReadsRow now s after result) → ReadsRow reference start after result
resumes reference now same start begin reader after line result there along reads =
    subst (λ (r : List Color). (s : Reading) → StepsAlong r s reader line_begin line → ReadsRow r s after result) same reads start
    (subst (λ (s : Reading). StepsAlong reference s reader line_begin line) (sym there) along)

-- the reference line by another name
pub along_after : (reference now : List Color) → now ≡ reference → (old new : Reading) (line next : CodingLine)
    → StepsAlong now old new line next → StepsAlong reference old new line next
along_after reference now same old new line next along = subst (λ (r : List Color). StepsAlong r old new line next) same along
