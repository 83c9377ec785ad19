use Rattle.std.proofs.Common.{arith, refl, sym, subst, ◌∙◌}
use Rattle.std.proofs.lemmas.Result.{err_from_is_err_and}
use Rattle.raster.specs.Packed.{bits_of}
use Rattle.raster.specs.Pixels.{IsWidth}
use Rattle.page_code.specs.OneDimension.WhiteRows.{IsWhiteRow}
use Rattle.page_code.proofs.OneDimension.RowsOn.{ends_on, found_room, found_within, read_within, refuses_on, row_read, row_refused}
use Rattle.page_code.proofs.one_dim.read_in_order.Goals as goal

pub next_row-requires : goal.next_row-requires
next_row-requires c = read_within c.loop-place.to.page.width c.args.order c.args.octets.now c.loop-place.to.page.rows c.loop-place.to.place
    c.loop-place.invariant.read

pub read_row-requires-clause-within : goal.read_row-requires-clause-within
read_row-requires-clause-within c = found_within c.args.order c.args.octets.now c.loop-place.to.page.width c.loop-place.to.page.rows
    c.loop-place.to.place c.in-Row.place c.in-Row.ensures.finds

pub read_row-requires-clause-room : goal.read_row-requires-clause-room
read_row-requires-clause-room c = found_room (bits_of c.args.order c.args.octets.now) c.loop-place.to.page.width c.loop-place.to.page.rows
    c.loop-place.to.place c.in-Row.place c.in-Row.ensures.finds

pub white_rows-requires-clause-width : goal.white_rows-requires-clause-width
white_rows-requires-clause-width c =
    let row = row_read (bits_of c.args.order c.args.octets.now) c.args.to.now c.loop-place.to c.loop-place.invariant.width
    c.loop-place.invariant.fine c.loop-place.invariant.read (subst IsWidth (sym c.loop-place.invariant.width) c.requires.width)
    c.in-Row.ensures.few c.in-Row.place c.read_row.new.to
    (record { bits = bits_of c.args.order c.args.octets.now; place = c.in-Row.place }) c.in-Row.ensures.finds refl c.in_ok-read_row-in-Row.ensures.row in
    subst IsWidth (sym row.0) c.requires.width

pub white_rows-requires-clause-white : goal.white_rows-requires-clause-white
white_rows-requires-clause-white c =
    let row = row_read (bits_of c.args.order c.args.octets.now) c.args.to.now c.loop-place.to c.loop-place.invariant.width
    c.loop-place.invariant.fine c.loop-place.invariant.read (subst IsWidth (sym c.loop-place.invariant.width) c.requires.width)
    c.in-Row.ensures.few c.in-Row.place c.read_row.new.to
    (record { bits = bits_of c.args.order c.args.octets.now; place = c.in-Row.place }) c.in-Row.ensures.finds refl c.in_ok-read_row-in-Row.ensures.row in
    subst (λ width. IsWhiteRow width c.of-white.result) (sym row.0) (rw c.width-2.ensures at c.of-white.ensures)

pub white_rows-requires-clause-read : goal.white_rows-requires-clause-read
white_rows-requires-clause-read c =
    let row = row_read (bits_of c.args.order c.args.octets.now) c.args.to.now c.loop-place.to c.loop-place.invariant.width
    c.loop-place.invariant.fine c.loop-place.invariant.read (subst IsWidth (sym c.loop-place.invariant.width) c.requires.width)
    c.in-Row.ensures.few c.in-Row.place c.read_row.new.to
    (record { bits = bits_of c.args.order c.args.octets.now; place = c.in-Row.place }) c.in-Row.ensures.finds refl c.in_ok-read_row-in-Row.ensures.row in
    row.3

pub loop-place-preserved : goal.loop-place-preserved
loop-place-preserved c =
    let row = row_read (bits_of c.args.order c.args.octets.now) c.args.to.now c.loop-place.to c.loop-place.invariant.width
    c.loop-place.invariant.fine c.loop-place.invariant.read (subst IsWidth (sym c.loop-place.invariant.width) c.requires.width)
    c.in-Row.ensures.few c.in-Row.place c.read_row.new.to
    (record { bits = bits_of c.args.order c.args.octets.now; place = c.in-Row.place }) c.in-Row.ensures.finds refl c.in_ok-read_row-in-Row.ensures.row in
    let more = c.in_ok-white_rows-in-Row.ensures.further in
    record {
      width = more.width ∙ row.0;
      fine = more.fine ∙ row.1;
      read = more.read;
      painter = c.in_ok-read_row-in-Row.ensures.wide ∙
          (c.loop-place.invariant.painter ∙ (c.loop-place.invariant.width ∙ sym (more.width ∙ row.0)));
      room = c.in_ok-read_row-in-Row.ensures.octets;
    }

pub loop-place-smaller : goal.loop-place-smaller
loop-place-smaller c =
    let row = row_read (bits_of c.args.order c.args.octets.now) c.args.to.now c.loop-place.to c.loop-place.invariant.width
    c.loop-place.invariant.fine c.loop-place.invariant.read (subst IsWidth (sym c.loop-place.invariant.width) c.requires.width)
    c.in-Row.ensures.few c.in-Row.place c.read_row.new.to
    (record { bits = bits_of c.args.order c.args.octets.now; place = c.in-Row.place }) c.in-Row.ensures.finds refl c.in_ok-read_row-in-Row.ensures.row in
    omega (
      arith,
      row.2,
      c.in_ok-white_rows-in-Row.ensures.more,
      found_room (bits_of c.args.order c.args.octets.now) c.loop-place.to.page.width c.loop-place.to.page.rows
          c.loop-place.to.place c.in-Row.place c.in-Row.ensures.finds,
    )

pub returns-in_err-read_row-in-Row : goal.returns-in_err-read_row-in-Row
returns-in_err-read_row-in-Row c =
    let p = err_from_is_err_and c.from_residual-in_err-read_row-in-Row.result c.from_residual-in_err-read_row-in-Row.ensures.1 in
    let wide : IsWidth c.loop-place.to.page.width = subst IsWidth (sym c.loop-place.invariant.width) c.requires.width in
    rw (p.1, p.2) (row_refused (bits_of c.args.order c.args.octets.now) c.args.to.now c.loop-place.to c.loop-place.invariant.width
    c.loop-place.invariant.fine c.loop-place.invariant.read wide c.in-Row.ensures.few c.in-Row.place c.read_row.new.to
    (record { bits = bits_of c.args.order c.args.octets.now; place = c.in-Row.place }) c.in_err-read_row-in-Row.field-0.0
    c.in-Row.ensures.finds refl c.in_err-read_row-in-Row.ensures.row)

pub returns-in-End : goal.returns-in-End
returns-in-End c =
    let wide : IsWidth c.loop-place.to.page.width = subst IsWidth (sym c.loop-place.invariant.width) c.requires.width in
    ends_on (bits_of c.args.order c.args.octets.now) c.args.to.now c.loop-place.to c.loop-place.invariant.width c.loop-place.invariant.fine
    c.loop-place.invariant.read wide c.in-End.ensures.few c.in-End.used c.in-End.ensures.finds

pub returns-in-Refused : goal.returns-in-Refused
returns-in-Refused c =
    let wide : IsWidth c.loop-place.to.page.width = subst IsWidth (sym c.loop-place.invariant.width) c.requires.width in
    refuses_on (bits_of c.args.order c.args.octets.now) c.args.to.now c.loop-place.to c.loop-place.invariant.width
    c.loop-place.invariant.fine c.loop-place.invariant.read wide c.in-Refused.ensures.few c.in-Refused.fault c.in-Refused.ensures.finds
