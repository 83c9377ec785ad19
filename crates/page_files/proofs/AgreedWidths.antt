-- Lines of T.4 that agree on a width.
use Rattle.std.proofs.Common.{ℕ, ◌≡◌, ◌+◌, ◌<◌, ◌≤◌, Bool, List, [], ◌∷◌, drop, Some, None, refl, sym, ap, ◌∙◌}
use Rattle.std.proofs.lemmas.Bool.{le-leb, lt-leb}
use Rattle.std.specs.Prelude.{Option, cond}
use Rattle.page_code.specs.OneDimension.Fronts.{zeros_before}
use Rattle.page_files.specs.AgreedWidths.{AreLinesTo, LinesAgree, NoneAgree, agree, last_said, line_after, usual_of}
use Rattle.page_files.specs.OwnWidths.{RowSays}
use Rattle.page_files.specs.PageEnds.{gaps}
use Rattle.page_files.proofs.LineEnds.{gap_there, none_there}

-- the next line, from a place on
module _ (bits : List Bool) (place : ℕ) where
  pub line_there : (zeros : ℕ) → zeros_before (drop place bits) ≡ Some zeros → 11 ≤ zeros
      → line_after place (gaps 0 (drop place bits)) ≡ Some (place + (zeros + 1))
  line_there zeros is long =
      let rest = gaps 0 (drop (place + (zeros + 1)) bits) in
      ap (line_after place) (gap_there bits place zeros is)
      ∙ ap (λ (b : Bool). cond b (Some (place + (zeros + 1))) (line_after (place + (zeros + 1)) rest)) (le-leb 11 zeros long)

  pub line_on : (zeros : ℕ) → zeros_before (drop place bits) ≡ Some zeros → zeros < 11
      → line_after place (gaps 0 (drop place bits)) ≡ line_after (place + (zeros + 1)) (gaps 0 (drop (place + (zeros + 1)) bits))
  line_on zeros is short =
      let rest = gaps 0 (drop (place + (zeros + 1)) bits) in
      ap (line_after place) (gap_there bits place zeros is)
      ∙ ap (λ (b : Bool). cond b (Some (place + (zeros + 1))) (line_after (place + (zeros + 1)) rest)) (lt-leb 11 zeros short)

  pub no_line : zeros_before (drop place bits) ≡ None → line_after place (gaps 0 (drop place bits)) ≡ None
  no_line is = ap (line_after place) (none_there bits place is)

-- these lines were read, up to a place, and no two of them agree
pub record AreRead (widths : List ℕ) (bits : List Bool) (place : ℕ) (before : Option ℕ) : Type 0 where
  pub lines : List (Option ℕ)
  pub are : AreLinesTo widths bits lines place
  pub none : NoneAgree lines
  pub last : before ≡ last_said lines

module _ (widths : List ℕ) (bits : List Bool) where
  -- none was
  pub none_read : AreRead widths bits 0 None
  none_read = record { lines = []; are = refl; none = tt; last = refl }

  module _ (place : ℕ) (before : Option ℕ) (read : AreRead widths bits place before) where
    -- no line is left
    pub all_read : line_after place (gaps 0 (drop place bits)) ≡ None → LinesAgree widths bits None
    all_read none = (read.lines, place, read.are, read.none, none)

    module _ (start : ℕ) (own said : Option ℕ) (there : line_after place (gaps 0 (drop place bits)) ≡ Some start)
        (says : RowSays bits start own) (said_is : said ≡ usual_of own widths) where
      -- one more is read, which agrees with the one before it or not
      pub agreed : (width : ℕ) → agree before said ≡ Some width → LinesAgree widths bits (Some width)
      agreed width is = (
        said,
        read.lines,
        start,
        (place, own, read.are, there, says, said_is),
        read.none,
        ap (λ (o : Option ℕ). agree o said) (sym read.last) ∙ is,
      )

      pub one_read : agree before said ≡ None → AreRead widths bits start said
      one_read is = record {
        lines = said ∷ read.lines;
        are = (place, own, read.are, there, says, said_is);
        none = (ap (λ (o : Option ℕ). agree o said) (sym read.last) ∙ is, read.none);
        last = refl;
      }
