-- What the check asks of `has_first_row`.
use Rattle.std.proofs.Common.{rules, subst}
use Rattle.raster.specs.Packed.{bits_of}
use Rattle.run_tables.specs.Reading.{Reading, rest_of}
use Rattle.run_tables.specs.RowLaws.{ReadsAsRow}
use Rattle.run_tables.specs.RowReading.{RefusesRow}
use Rattle.page_files.proofs.Mended.{no_first_row}
use Rattle.page_files.proofs.identify.has_first_row.Goals as goal

pub returns-in-Err-2-clause-row : goal.returns-in-Err-2-clause-row
returns-in-Err-2-clause-row c =
    let refused : RefusesRow c.args.width c.at-reader.result c.in-Err-2._fault = search rules in (
      λ yes. absurd (search rules),
      λ has. absurd (no_first_row c.args.width (bits_of c.args.order c.args.octets.now) c.first_line-start.result c.first_line-start.ensures.first
          (λ row used. subst (λ (r : Reading). ¬ ReadsAsRow c.args.width (rest_of r) row used) c.at-reader.ensures (refused.none row used)) has),
    )
