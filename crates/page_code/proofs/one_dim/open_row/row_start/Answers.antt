use Rattle.std.proofs.Common.{◌+◌, arith, refl, sym, ◌∙◌}
use Rattle.raster.specs.Packed.{bits_of}
use Rattle.page_code.proofs.OneDimension.OpenRows.{no_eol, no_one, no_row, row_there, zeros_within}
use Rattle.page_code.proofs.OneDimension.RowsOn.{read_within, within_bits}
use Rattle.page_code.proofs.one_dim.open_row.row_start.Goals as goal

pub returns-in_err-zeros-clause-none : goal.returns-in_err-zeros-clause-none
returns-in_err-zeros-clause-none c =
    let within = read_within c.args.to.now.page.width c.args.order c.args.octets.now c.args.to.now.page.rows c.args.to.now.place
    c.requires.read in
    let none = no_one c.args.to.now.page.width (bits_of c.args.order c.args.octets.now) c.args.to.now.page.rows c.args.to.now.place
    c.rows.ensures.page.width c.rows.ensures.page.few c.requires.read (within_bits c.args.order c.args.octets.now
    c.args.to.now.place within) (sym c.requires.zeros ∙ c.in_err-zeros.was) in
    rw c.from_residual.ensures none

pub returns-then-zeros-lt11-clause-none : goal.returns-then-zeros-lt11-clause-none
returns-then-zeros-lt11-clause-none c =
    let within = read_within c.args.to.now.page.width c.args.order c.args.octets.now c.args.to.now.page.rows c.args.to.now.place
    c.requires.read in
    no_eol c.args.to.now.page.width (bits_of c.args.order c.args.octets.now) c.args.to.now.page.rows c.args.to.now.place
    c.rows.ensures.page.width c.rows.ensures.page.few c.requires.read (within_bits c.args.order c.args.octets.now
    c.args.to.now.place within) (omega (arith, rw (c.len-rows.ensures.length, c.rows.ensures.rows) at c.if-rows-eq0.false))
    (c.in_ok-zeros.zeros, sym c.requires.zeros ∙ c.in_ok-zeros.was, c.if-zeros-lt11.true)

pub returns-then-rows-ge-MAX_ROWS-clause-none : goal.returns-then-rows-ge-MAX_ROWS-clause-none
returns-then-rows-ge-MAX_ROWS-clause-none c =
    no_row c.args.to.now.page.width (bits_of c.args.order c.args.octets.now) c.args.to.now.page.rows c.args.to.now.place
    c.rows.ensures.page.width c.rows.ensures.page.few c.requires.read c.in_ok-zeros.zeros (c.args.to.now.place +
    c.in_ok-zeros.zeros + 1) (sym c.requires.zeros ∙ c.in_ok-zeros.was) (omega arith) (zeros_within c.args.order c.args.octets.now
    (c.args.to.now.place + c.in_ok-zeros.zeros) (rw c.in_ok-zeros.was at c.requires.within)) refl
    (λ room begins. omega (arith, room, rw (c.len-rows.ensures.length, c.rows.ensures.rows) at c.if-rows-ge-MAX_ROWS.true))

pub returns-then-not-begins-clause-none : goal.returns-then-not-begins-clause-none
returns-then-not-begins-clause-none c =
    no_row c.args.to.now.page.width (bits_of c.args.order c.args.octets.now) c.args.to.now.page.rows c.args.to.now.place
    c.rows.ensures.page.width c.rows.ensures.page.few c.requires.read c.in_ok-zeros.zeros (c.args.to.now.place +
    c.in_ok-zeros.zeros + 1) (sym c.requires.zeros ∙ c.in_ok-zeros.was) (omega arith) (zeros_within c.args.order c.args.octets.now
    (c.args.to.now.place + c.in_ok-zeros.zeros) (rw c.in_ok-zeros.was at c.requires.within)) refl
    (λ room begins. let yes = c.code_begins-begins.ensures.1 begins in cc)

pub returns-clause-row : goal.returns-clause-row
returns-clause-row c =
    row_there c.args.to.now.page.width (bits_of c.args.order c.args.octets.now) c.args.to.now.page.rows c.args.to.now.place
    c.rows.ensures.page.width c.rows.ensures.page.few c.requires.read c.in_ok-zeros.zeros (c.args.to.now.place +
    c.in_ok-zeros.zeros + 1) (sym c.requires.zeros ∙ c.in_ok-zeros.was) (omega arith) (zeros_within c.args.order c.args.octets.now
    (c.args.to.now.place + c.in_ok-zeros.zeros) (rw c.in_ok-zeros.was at c.requires.within)) refl (omega (
      arith,
      rw (c.len-rows.ensures.length, c.rows.ensures.rows) at c.if-rows-ge-MAX_ROWS.false,
    )) (c.code_begins-begins.ensures.0 c.if-not-begins.false)
