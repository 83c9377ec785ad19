use Rattle.std.proofs.Common.{◌≡◌, ◌∙◌, ap, arith, length, refl, replicate}
use Rattle.std.proofs.lemmas.List.{append-nil}
use Rattle.raster.specs.declared.row.Color.TheVariants.{White}
use Rattle.page_code.specs.TwoDimensions.Lines.{BothLines}
use Rattle.page_code.specs.TwoDimensions.Positions.{white_line}
use Rattle.page_code.proofs.RowReaders.{none_read}
use Rattle.page_code.proofs.page_rows.RowReader.new.Goals as goal

pub returns : goal.returns
returns c =
    let is : c.lent.result ≡ white_line c.args.width =
    c.lent.ensures ∙ (c.in_ok-white.ensures ∙ append-nil (replicate c.args.width White)) in
    record {
      coding_is = refl;
      order_is = refl;
      width_is = refl;
      none = none_read _ refl refl refl c.new-2.ensures.items (ap (λ (l : BothLines). l.reference) c.in_ok-after.ensures ∙ is);
    }

pub invariant_of-result : goal.invariant_of-result
invariant_of-result c =
    let none : length c.new-2.result.items ≡ 0 = ap length c.new-2.ensures.items in record {
      width = c.requires;
      rows = omega arith;
      gone = omega arith;
      within = omega arith;
      few = omega (arith, none);
      start = omega arith;
      passed = c.none.ensures _ _ _;
      begun = λ used. absurd (omega (arith, used));
    }
