-- What the check asks of `decode_engine`.
use Rattle.std.proofs.Common.{◌<◌, length}
use Rattle.raster.specs.declared.page.Page.{Page}
use Rattle.page_files.proofs.DecodedRows.{has_row, only_one}
use Rattle.page_files.proofs.pages.decode_engine.Goals as goal

pub write_pbm-requires : goal.write_pbm-requires
write_pbm-requires g c =
    only_one (λ (page : Page). 0 < length page.rows) c.in_ok-page.page (has_row c.args.form.coding _ _ _ _ c.in_ok-page.ensures.reads.reads)
