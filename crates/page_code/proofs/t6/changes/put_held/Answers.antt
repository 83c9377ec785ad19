use Rattle.std.proofs.Common.{arith, length, take}
use Rattle.std.proofs.lemmas.List.{length-take-le}
use Rattle.page_code.proofs.TwoDimensions.BothLines.{left_changes}
use Rattle.page_code.proofs.TwoDimensions.Lines.{few_left}
use Rattle.page_code.proofs.t6.changes.put_held.Goals as goal

pub end_list-requires : goal.end_list-requires
end_list-requires c =
    let items = c.put_changes-count.new.out.items in
    let count = c.put_changes-count.result in
    omega (
      arith,
      few_left (take count items) (length c.args.row.now) (left_changes c.args.row.now (take count items)
          c.put_changes-count.ensures.changes),
      length-take-le count items c.put_changes-count.ensures.few,
      c.put_changes-count.ensures.length,
      c.requires,
    )

pub returns-clause-held : goal.returns-clause-held
returns-clause-held c = record {
  places = take c.put_changes-count.result c.put_changes-count.new.out.items;
  changes = c.put_changes-count.ensures.changes;
  ends = rw c.width-width.ensures.width at c.end_list.ensures.ends;
}
