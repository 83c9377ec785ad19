use Rattle.raster.proofs.RowLemmas.{ends_run, color_of-is}
use Rattle.raster.proofs.row.RowRef.end_of_run.Goals as goal

pub returns : goal.returns
returns c = ends_run c.self.inside.pixels c.args.self.now c.args.from c.first_other.result c.is.result c.args.color c.self.view_is
    (color_of-is c.args.color c.is.result (c.is.ensures.0, c.is.ensures.1)) c.first_other.ensures
