use Rattle.std.proofs.Common.{◌∙◌, take}
use Rattle.page_code.proofs.TwoDimensions.CodesOn.{listed_held}
use Rattle.page_code.proofs.t6.write.Lines.write_row.Goals as goal

pub write_row-requires-clause-listed : goal.write_row-requires-clause-listed
write_row-requires-clause-listed c =
    rw (c.deref-2.ensures.value, c.width.ensures.width) (listed_held c.args.row.now (take c.put_held-count.result
    c.put_held-count.new.list.items) c.put_held-count.ensures.held)

pub returns-clause-fits : goal.returns-clause-fits
returns-clause-fits c =
    rw (c.swap.ensures.x_after, c.swap.ensures.y_after) (record {
      wide = c.requires.wide;
      above = c.put_held-count.ensures.length ∙ c.requires.room;
      room = c.requires.above;
      known_within = c.put_held-count.ensures.few;
      listed = listed_held c.args.row.now (take c.put_held-count.result c.put_held-count.new.list.items) c.put_held-count.ensures.held;
    })
