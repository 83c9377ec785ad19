use Rattle.raster.specs.Packed.{bits_of}
use Rattle.page_code.proofs.OneDimension.RowsOn.{row_refusal}
use Rattle.page_code.proofs.RowReaders.{row_off_there}
use Rattle.page_code.proofs.one_dim.one_row.read_row_there.Goals as goal

pub returns-in-Err : goal.returns-in-Err
returns-in-Err c = row_off_there (bits_of c.args.order c.args.octets.now) c.args.place c.args.to.now c.in-Err.fault c.refused.result
    c.refused.ensures (λ other. row_refusal (bits_of c.args.order c.args.octets.now) c.args.place c.args.to.now.width c.at-reader.result
    c.in-Err.fault c.at-reader.ensures (c.in-Err.ensures.refuses other))
