use Rattle.std.proofs.Common.{◌≡◌, ◌≤◌, ◌+◌, ◌*◌, ◌-◌, ◌<◌, ◌++◌, ℕ, List, length, drop, arith, ap, get_or, sym, ◌∙◌}
use Rattle.std.proofs.lemmas.Option.{get_or_from_slice_get}
use Rattle.raster.specs.Pbm.{stride}
use Rattle.raster.specs.declared.row.Color.{Color}
use Rattle.g3fax.proofs.RasterLemmas.{front_stays, lays_more, row_ends, row_octets, rows_from, times_more}
use Rattle.g3fax.proofs.rasters.lay_rows.Goals as goal

-- src/rasters.rt:123:9
pub put-requires : goal.put-requires
put-requires c =
    let n : ℕ = c.loop-number.number - 1 in
    let within : n < length c.rows-rows.result = omega (arith, c.loop-number-test.true, c.loop-number.invariant.below) in
    let same : length c.rows-rows.result ≡ length c.args.page.now.rows = ap length c.rows-rows.ensures.rows in
    let here : c.row.result ≡ get_or c.rows-rows.result n c.row.result =
    sym (get_or_from_slice_get c.rows-rows.result n c.row.result c.row.result c.row.ensures) in
    let size : length c.octets.result.now ≡ stride c.args.page.now.width = row_octets c.args.page.now c.rows-rows.result n
    c.row.result c.octets.result.now c.rows-rows.ensures.page c.rows-rows.ensures.rows within here c.octets.ensures in
    let ends = row_ends (stride c.args.page.now.width) c.args.apart n (length c.args.page.now.rows) (omega (arith, within, same)) in
    omega (arith, size, ends, c.requires.room, c.loop-number.invariant.long)

-- src/rasters.rt:120:5
pub loop-number-preserved : goal.loop-number-preserved
loop-number-preserved c =
    let n : ℕ = c.loop-number.number - 1 in
    let next : c.loop-number.number ≡ n + 1 = omega (arith, c.loop-number-test.true) in
    let rows : List (List Color) = c.rows-rows.result in
    let row : List Color = c.row.result in
    let octets : List ℕ = c.octets.result.now in
    let before : List ℕ = c.loop-number.buffer in
    let within : n < length rows = omega (arith, c.loop-number-test.true, c.loop-number.invariant.below) in
    let same : length rows ≡ length c.args.page.now.rows = ap length c.rows-rows.ensures.rows in
    let here : row ≡ get_or rows n row = sym (get_or_from_slice_get rows n row row c.row.ensures) in
    let size : length octets ≡ stride c.args.page.now.width = row_octets c.args.page.now rows n row octets c.rows-rows.ensures.page
    c.rows-rows.ensures.rows within here c.octets.ensures in
    let ends = row_ends (stride c.args.page.now.width) c.args.apart n (length c.args.page.now.rows) (omega (arith, within, same)) in
    let room : c.args.apart * n + length octets ≤ length before =
    omega (arith, size, ends, c.requires.room, c.loop-number.invariant.long) in
    let at : ℕ = c.args.apart * n in
    let after : c.args.apart * c.loop-number.number ≡ at + c.args.apart = ap (λ k. c.args.apart * k) next ∙ times_more c.args.apart n in
    record {
      below = omega (arith, within);
      long = c.put.auto.buffer ∙ c.loop-number.invariant.long;
      front = front_stays at (c.args.apart * c.loop-number.number) (octets ++ drop (at + length octets) before) c.args.buffer.now before
          c.put.new.buffer (omega (arith, after)) (omega (arith, room)) c.loop-number.invariant.front c.put.ensures;
      laid = rw (rows_from rows n c.loop-number.number row next within here) (lays_more c.args.apart at (c.args.apart *
          c.loop-number.number) row (drop c.loop-number.number rows) octets c.args.buffer.now before c.put.new.buffer after
          c.octets.ensures (omega (arith, size, c.requires.apart)) room c.loop-number.invariant.front c.loop-number.invariant.laid
          c.put.ensures);
    }
