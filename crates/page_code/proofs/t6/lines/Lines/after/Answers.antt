use Rattle.std.proofs.Common.{◌≡◌, ◌+◌, ◌∙◌, List, ap, arith, length, subst, sym, take}
use Rattle.raster.specs.declared.row.Color.{Color}
use Rattle.raster.specs.declared.row.Color.TheVariants.{White}
use Rattle.raster.specs.Changes.{turning}
use Rattle.page_code.specs.TwoDimensions.Lines.{AreLeftOf, BothLines}
use Rattle.page_code.specs.TwoDimensions.Positions.{line_begin}
use Rattle.page_code.proofs.TwoDimensions.BothLines.{begin_fits, front_kept, held_after, left_changes, listed_row, turning_changes}
use Rattle.page_code.proofs.TwoDimensions.Lines.{few_left}
use Rattle.page_code.proofs.t6.lines.Lines.after.Goals as goal

abbrev with_line : List Color → BothLines
with_line reference = record { reference = reference; line = line_begin }

pub end_list-requires : goal.end_list-requires
end_list-requires c =
    let items = c.changes.new.out.items in
    let all = listed_row c.args.row.now c.new-held.result.items items c.new-held.ensures.items c.in_ok-changes.ensures.ok in
    let few = few_left items (length c.args.row.now) (left_changes c.args.row.now items all) in
    omega (arith, few, c.len-count.ensures, c.width-width.ensures.width, c.in_ok-resize.ensures.len)

pub invariant_of-result : goal.invariant_of-result
invariant_of-result c =
    let row = c.args.row.now in
    let items = c.changes.new.out.items in
    let width = c.width-width.result in
    let count = c.len-count.result in
    let all = listed_row row c.new-held.result.items items c.new-held.ensures.items c.in_ok-changes.ensures.ok in
    let left : AreLeftOf items width = subst (AreLeftOf items) (sym c.width-width.ensures.width) (left_changes row items all) in
    let few = few_left items width left in
    let counted : count ≡ length items = omega (arith, c.len-count.ensures) in
    let kept = front_kept items c.resize.new.self.items _ count (width + 4) c.in_ok-resize.ensures.items (omega (arith, few))
    counted in
    let held = held_after c.end_list.new.list.items items count width (sym counted) left (rw kept at c.end_list.ensures.ends) in
    rw c.begin.ensures (record {
      known = omega (arith, c.end_list.ensures.length, c.in_ok-resize.ensures.len, few, c.len-count.ensures);
      room = omega (arith, c.end_list.ensures.length, c.in_ok-resize.ensures.len);
      held = held.0;
      fits = begin_fits _ (take (count + 3) c.end_list.new.list.items) c.resize-2.new.self.items width c.width-width.ensures.range held.0
          held.1 (omega (arith, c.in_ok-resize-2.ensures.len));
    })

pub returns : goal.returns
returns c =
    let row = c.args.row.now in
    let items = c.changes.new.out.items in
    let width = c.width-width.result in
    let count = c.len-count.result in
    let all = listed_row row c.new-held.result.items items c.new-held.ensures.items c.in_ok-changes.ensures.ok in
    let left : AreLeftOf items width = subst (AreLeftOf items) (sym c.width-width.ensures.width) (left_changes row items all) in
    let few = few_left items width left in
    let counted : count ≡ length items = omega (arith, c.len-count.ensures) in
    let kept = front_kept items c.resize.new.self.items _ count (width + 4) c.in_ok-resize.ensures.items (omega (arith, few))
    counted in
    let held = held_after c.end_list.new.list.items items count width (sym counted) left (rw kept at c.end_list.ensures.ends) in
    rw c.begin.ensures (ap with_line (held.2 ∙ (ap (turning White 0 items) c.width-width.ensures.width ∙
    turning_changes row items (left_changes row items all) all)))
