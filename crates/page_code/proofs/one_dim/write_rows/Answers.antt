use Rattle.std.proofs.Common.{◌≡◌, get_or, length, ◌<◌, List, arith, subst}
use Rattle.std.proofs.lemmas.List.Elements.{All-get_or}
use Rattle.std.proofs.lemmas.Option.{get_or_from_slice_get}
use Rattle.raster.specs.declared.row.Color.{Color}
use Rattle.page_code.proofs.OneDimension.RowsWords.{row_written}
use Rattle.page_code.proofs.one_dim.write_rows.Goals as goal

pub write_row-requires : goal.write_row-requires
write_row-requires c =
    let rows : List (List Color) = c.args.rows.now in
    let here : get_or rows c.loop-at.at c.row.result ≡ c.row.result =
    get_or_from_slice_get rows c.loop-at.at c.row.result c.row.result c.row.ensures in
    subst (λ (row : List Color). 0 < length row) here
    (All-get_or (λ (row : List Color). 0 < length row) rows c.loop-at.at c.row.result (omega arith) c.requires)

pub loop-at-preserved : goal.loop-at-preserved
loop-at-preserved c =
    let rows : List (List Color) = c.args.rows.now in
    let here : get_or rows c.loop-at.at c.row.result ≡ c.row.result =
    get_or_from_slice_get rows c.loop-at.at c.row.result c.row.result c.row.ensures in
    row_written c.args.bits.now c.loop-at.bits c.write_row.new.bits rows c.loop-at.at c.row.result
    (omega arith) here c.loop-at.invariant c.in_ok-write_row.ensures.ok
