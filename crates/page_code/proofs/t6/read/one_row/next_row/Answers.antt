use Rattle.std.proofs.Common.{ℕ, ◌-◌, ◌∙◌, ap, refl, sym}
use Rattle.std.specs.Prelude.{Err, Ok}
use Rattle.raster.specs.Packed.{bits_of}
use Rattle.run_tables.specs.Reading.{Reading}
use Rattle.page_code.specs.TwoDimensions.Positions.{line_begin}
use Rattle.page_code.proofs.RowReaders.{end_next, refused_next, row_next, row_off_next}
use Rattle.page_code.proofs.OneDimension.RowsOn.{within_bits}
use Rattle.page_code.proofs.TwoDimensions.OpenLines.{along_after, modes_read, resumes}
use Rattle.page_code.proofs.TwoDimensions.QuickModes.{along_twice}
use Rattle.page_code.proofs.t6.read.one_row.next_row.Goals as goal

pub returns-in-End-clause-finds : goal.returns-in-End-clause-finds
returns-in-End-clause-finds c = end_next (bits_of c.args.order c.args.octets.now) c.args.to.now c.args.begun.now.lines.reference
    c.requires.width c.requires.few (Unit {0}) (within_bits c.args.order c.args.octets.now c.args.to.now.at c.requires.within)
    c.at-start.result c.at-start.ensures c.in-End.ensures.sees

pub returns-in-Refused-clause-finds : goal.returns-in-Refused-clause-finds
returns-in-Refused-clause-finds c = rw c.new.ensures (refused_next (bits_of c.args.order c.args.octets.now) c.args.to.now
    c.args.begun.now.lines.reference c.requires.width c.requires.few (Unit {0}) (within_bits c.args.order c.args.octets.now
    c.args.to.now.at c.requires.within) c.at-start.result c.at-start.ensures c.in-Refused.kind c.in-Refused.ensures.sees)

pub returns-in-Ok-clause-finds : goal.returns-in-Ok-clause-finds
returns-in-Ok-clause-finds c =
    let reference = c.args.begun.now.lines.reference in
    let on = c.goes_on-reader in
    let begin : Reading = record { bits = bits_of c.args.order c.args.octets.now; place = c.args.to.now.at } in
    rw c.place-to.ensures.place (row_next (bits_of c.args.order c.args.octets.now) c.args.to.now reference c.requires.width c.requires.few
    c.at-start.result c.at-start.ensures c.in-Row.ensures.sees (Unit {0}) c.read_row.new.reader c.read_row.new.lines.reference
    c.in-Ok.row (resumes reference on.new.begun.lines.reference on.ensures.reference c.at-start.result begin on.result
    c.read_row.new.reader on.new.begun.lines.line (Ok c.in-Ok.row) c.at-start.ensures on.ensures.along c.in-Ok.ensures.reads)
    c.in-Ok.ensures.next)

pub returns-in-Err-clause-begun : goal.returns-in-Err-clause-begun
returns-in-Err-clause-begun c some =
    let reference = c.args.begun.now.lines.reference in
    let on = c.goes_on-reader in
    let now = c.read_row.new in
    let begin : Reading = record { bits = bits_of c.args.order c.args.octets.now; place = c.args.to.now.at } in
    modes_read (bits_of c.args.order c.args.octets.now) c.args.to.now.at now.reader
    (record { lines = now.lines; used = c.place.result - c.args.to.now.at }) reference (sym (c.in-Err.ensures.same ∙ on.ensures.reference))
    (along_twice reference begin on.result now.reader line_begin on.new.begun.lines.line now.lines.line on.ensures.along
    (along_after reference on.new.begun.lines.reference on.ensures.reference on.result now.reader on.new.begun.lines.line now.lines.line
    c.in-Err.ensures.along)) (ap (λ (n : ℕ). n - c.args.to.now.at) c.place.ensures.place)

pub returns-in-Err-clause-finds : goal.returns-in-Err-clause-finds
returns-in-Err-clause-finds c =
    let reference = c.args.begun.now.lines.reference in
    let on = c.goes_on-reader in
    let begin : Reading = record { bits = bits_of c.args.order c.args.octets.now; place = c.args.to.now.at } in
    rw (c.in-Err.ensures.same, on.ensures.reference) (row_off_next (bits_of c.args.order c.args.octets.now) c.args.to.now reference
    c.requires.width c.requires.few c.at-start.result c.at-start.ensures c.in-Row.ensures.sees (within_bits c.args.order
    c.args.octets.now c.args.to.now.at c.requires.within) c.read_row.new.reader c.in-Err.fault c.refused.result c.refused.ensures
    (resumes reference on.new.begun.lines.reference on.ensures.reference c.at-start.result begin on.result c.read_row.new.reader
    on.new.begun.lines.line (Err c.in-Err.fault) c.at-start.ensures on.ensures.along c.in-Err.ensures.reads))
