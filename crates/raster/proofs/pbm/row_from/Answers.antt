use Rattle.std.proofs.Common.{◌<◌, length, arith}
use Rattle.std.proofs.lemmas.Result.{err_from_is_err_and}
use Rattle.raster.specs.Pbm.{row_at}
use Rattle.raster.proofs.PbmPieces.{reader_failed, row_cut}
use Rattle.raster.proofs.pbm.row_from.Goals as goal

pub returns-in_err-count-clause-err : goal.returns-in_err-count-clause-err
returns-in_err-count-clause-err g c =
    let p = err_from_is_err_and c.from_residual.result c.from_residual.ensures.1 in
    rw (p.1, p.2) (reader_failed (g.R.Read.remaining c.args.reader.now) c.in_err-count.field-0.0 (row_at c.args.width) c.in_err-count.ensures.fault)

pub returns-clause-err : goal.returns-clause-err
returns-clause-err g c =
    let below : c.in_ok-count.count < length c.fill.new.octets = omega (arith, c.in_ok-count.ensures.within) in
    row_cut (g.R.Read.remaining c.args.reader.now) (g.R.Read.remaining c.fill.new.reader) c.args.width c.fill.new.octets c.in_ok-count.count
    (omega arith) below c.in_ok-count.ensures.read (c.in_ok-count.ensures.end below)
