-- What the check asks of `give_line`.
use Rattle.std.proofs.Common.{ap, length, refl, ◌∙◌}
use Rattle.raster.specs.Packed.{bits_of}
use Rattle.page_code.proofs.OneDimension.Repairs.{gives_broken, gives_read}
use Rattle.page_code.proofs.OneDimension.RowsOn.{within_bits}
use Rattle.page_code.proofs.one_dim.repair.give_line.Goals as goal

pub returns-in_ok-push_row-in-Read : goal.returns-in_ok-push_row-in-Read
returns-in_ok-push_row-in-Read c =
    gives_read c.width.result (bits_of c.args.order c.args.octets.now) c.args.to.now (record {
      page = c.push_row.new.page;
      repaired = c.args.to.now.repaired;
      place = c.in-Read.next;
    }) c.in_ok-row.field-0 c.in-Read.row c.in-Read.next c.width.ensures c.in_ok-row.ensures c.in-Read.is c.in_ok-push_row-in-Read.ensures
    refl refl

pub returns-in_ok-push-in-Broken : goal.returns-in_ok-push-in-Broken
returns-in_ok-push-in-Broken c =
    gives_broken c.width.result (bits_of c.args.order c.args.octets.now) c.args.to.now (record {
      page = c.give_last.new.page;
      repaired = c.push.new.self;
      place = c.after_eol-to.result;
    }) c.in_ok-row.field-0 c.in-Broken.bit c.len-number.result c.width.ensures c.in_ok-row.ensures c.in-Broken.is c.requires.line
    c.in_ok-give_last-in-Broken.ensures (c.len-number.ensures.length ∙ ap length c.rows.ensures.rows) c.in_ok-push-in-Broken.ensures.items
    c.after_eol-to.ensures.skipped (within_bits c.args.order c.args.octets.now c.after_eol-to.result c.after_eol-to.ensures.within)
