use Rattle.std.proofs.Common.{ℕ, Bool, List, ◌≡◌, ◌≤◌, ◌*◌, ◌+◌, length, rules, ◌∙◌, ap, refl, subst, sym}
use Rattle.std.proofs.lemmas.Result.{err_from_is_err_and}
use Rattle.raster.specs.Packed.{bits_of}
use Rattle.raster.specs.Pages.{PagePixels}
use Rattle.run_tables.specs.Reading.{Reading}
use Rattle.raster.specs.declared.coding.Coding.TheVariants.{T6}
use Rattle.page_code.specs.RowsSoFar.{IsReadTo}
use Rattle.page_code.specs.TwoDimensions.Lines.{BothLines}
use Rattle.page_code.specs.TwoDimensions.Positions.{white_line}
use Rattle.page_code.proofs.TwoDimensions.RowsOn.{ends_on, read_within, refuses_on, row_read, row_refused}
use Rattle.page_code.proofs.TwoDimensions.StepsOn.{last_added}
use Rattle.page_code.proofs.TwoDimensions.WhiteRows.{further_on}
use Rattle.page_code.proofs.t6.read.read_in_order.Goals as goal

-- a reader of these bits, at this place
same_reading : (r : Reading) (bits : List Bool) (place : ℕ) → r.bits ≡ bits → r.place ≡ place → r ≡ record { bits = bits; place = place }
same_reading r bits place b p = ap (λ (x : List Bool). record { bits = x; place = r.place }) b ∙ ap (λ (n : ℕ). record {
  bits = bits;
  place = n;
}) p

pub at-reader-requires : goal.at-reader-requires
at-reader-requires c = read_within c.args.to.now.page.width c.args.order c.args.octets.now c.args.to.now.page.rows c.args.to.now.place
    c.requires.read

pub overflow_add-result : goal.overflow_add-result
overflow_add-result c =
    let on = further_on (bits_of c.args.order c.args.octets.now) c.args.to.now c.loop-lines.to c.white_rows.new.to c.loop-lines.reader
    c.white_rows.new.reader c.loop-lines.invariant.width c.loop-lines.invariant.fine c.loop-lines.invariant.reader
    c.in_ok-white_rows.ensures.further c.in_ok-white_rows.ensures.reader in
    let within : c.white_rows.new.to.place ≤ 8 * length c.args.octets.now = read_within c.white_rows.new.to.page.width c.args.order
    c.args.octets.now c.white_rows.new.to.page.rows c.white_rows.new.to.place on.0.read in
    search rules

pub returns-in-End : goal.returns-in-End
returns-in-End c =
    let on = further_on (bits_of c.args.order c.args.octets.now) c.args.to.now c.loop-lines.to c.white_rows.new.to c.loop-lines.reader
    c.white_rows.new.reader c.loop-lines.invariant.width c.loop-lines.invariant.fine c.loop-lines.invariant.reader
    c.in_ok-white_rows.ensures.further c.in_ok-white_rows.ensures.reader in
    ends_on (bits_of c.args.order c.args.octets.now) c.args.to.now c.white_rows.new.to on.0.width
    on.0.fine on.0.read c.rows.ensures.page c.white_rows.new.reader on.1
    (c.white_rows.new.to.place + 24) (rw (c.len.ensures.length, c.rows.ensures.rows) at c.in-End.ensures) refl

pub returns-in-Refused : goal.returns-in-Refused
returns-in-Refused c =
    let on = further_on (bits_of c.args.order c.args.octets.now) c.args.to.now c.loop-lines.to c.white_rows.new.to c.loop-lines.reader
    c.white_rows.new.reader c.loop-lines.invariant.width c.loop-lines.invariant.fine c.loop-lines.invariant.reader
    c.in_ok-white_rows.ensures.further c.in_ok-white_rows.ensures.reader in
    rw c.new.ensures (refuses_on (bits_of c.args.order c.args.octets.now) c.args.to.now c.white_rows.new.to
    on.0.width on.0.fine on.0.read c.rows.ensures.page c.white_rows.new.reader
    on.1 c.in-Refused.kind (rw (c.len.ensures.length, c.rows.ensures.rows) at c.in-Refused.ensures))

pub returns-in_err-read_line : goal.returns-in_err-read_line
returns-in_err-read_line c =
    let on = further_on (bits_of c.args.order c.args.octets.now) c.args.to.now c.loop-lines.to c.white_rows.new.to c.loop-lines.reader
    c.white_rows.new.reader c.loop-lines.invariant.width c.loop-lines.invariant.fine c.loop-lines.invariant.reader
    c.in_ok-white_rows.ensures.further c.in_ok-white_rows.ensures.reader in
    let p = err_from_is_err_and c.from_residual-in_err-read_line.result c.from_residual-in_err-read_line.ensures.1 in
    rw (p.1, p.2) (row_refused (bits_of c.args.order c.args.octets.now) c.args.to.now c.white_rows.new.to on.0.width
    on.0.fine on.0.read c.rows.ensures.page c.white_rows.new.reader on.1
    (white_line c.white_rows.new.to.page.width) refl (rw (c.len.ensures.length, c.rows.ensures.rows) at c.in-Row.ensures)
    c.read_line.new.reader
    c.in_err-read_line.field-0.0
    (rw c.in_ok-white_rows.ensures.reference at c.in_err-read_line.ensures.refuses))

pub push_to-requires-clause-wide : goal.push_to-requires-clause-wide
push_to-requires-clause-wide c =
    let on = further_on (bits_of c.args.order c.args.octets.now) c.args.to.now c.loop-lines.to c.white_rows.new.to c.loop-lines.reader
    c.white_rows.new.reader c.loop-lines.invariant.width c.loop-lines.invariant.fine c.loop-lines.invariant.reader
    c.in_ok-white_rows.ensures.further c.in_ok-white_rows.ensures.reader in
    sym c.in_ok-read_line.ensures.whole ∙
    (row_read (bits_of c.args.order c.args.octets.now) c.args.to.now c.white_rows.new.to on.0.width
    on.0.fine on.0.read c.rows.ensures.page c.white_rows.new.reader on.1
    (white_line c.white_rows.new.to.page.width) refl (rw (c.len.ensures.length, c.rows.ensures.rows) at c.in-Row.ensures)
    c.read_line.new.reader c.read_line.new.lines.line.pixels
    (rw c.in_ok-white_rows.ensures.reference at c.in_ok-read_line.ensures.reads)).0

pub loop-lines-preserved : goal.loop-lines-preserved
loop-lines-preserved c =
    let on = further_on (bits_of c.args.order c.args.octets.now) c.args.to.now c.loop-lines.to c.white_rows.new.to c.loop-lines.reader
    c.white_rows.new.reader c.loop-lines.invariant.width c.loop-lines.invariant.fine c.loop-lines.invariant.reader
    c.in_ok-white_rows.ensures.further c.in_ok-white_rows.ensures.reader in
    let pushed = c.in_ok-push_to.ensures.page in
    let bits = bits_of c.args.order c.args.octets.now in
    let row = c.read_line.new.lines.line.pixels in
    let more = (row_read bits c.args.to.now c.white_rows.new.to on.0.width
    on.0.fine on.0.read c.rows.ensures.page c.white_rows.new.reader on.1
    (white_line c.white_rows.new.to.page.width) refl (rw (c.len.ensures.length, c.rows.ensures.rows) at c.in-Row.ensures)
    c.read_line.new.reader row
    (rw c.in_ok-white_rows.ensures.reference at c.in_ok-read_line.ensures.reads)).1 in
    record {
      width = ap (λ (p : PagePixels). p.width) pushed ∙ on.0.width;
      fine = ap (λ (p : PagePixels). p.fine) pushed ∙ on.0.fine;
      read = rw c.place-to.ensures.place (subst (λ (p : PagePixels). IsReadTo T6 p.width bits p.rows c.read_line.new.reader.place) (sym
          pushed) more);
      reader = same_reading c.read_line.new.reader _ _ (c.in_ok-read_line.ensures.reads.1 ∙ ap (λ (r : Reading). r.bits)
          on.1)
          (sym c.place-to.ensures.place);
      reference = ap (λ (l : BothLines). l.reference) c.in_ok-push_to.ensures.next ∙
          rw pushed (sym (last_added (white_line c.white_rows.new.to.page.width) row c.white_rows.new.to.page.rows));
    }
