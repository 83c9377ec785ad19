use Rattle.std.proofs.Common.{take, List, ℕ}
use Rattle.std.proofs.lemmas.Result.{err_from_is_err_and}
use Rattle.raster.specs.Pbm.{FailsOrIo, read_kept, size_of}
use Rattle.raster.proofs.PbmImages.{header_fits}
use Rattle.raster.proofs.PbmPieces.{any, first_and_following, first_refused, header_of, image_refused, image_taken}
use Rattle.raster.proofs.PbmPieces.{nothing_before, reader_failed, same_known}
use Rattle.raster.proofs.pbm.read_octets.Goals as goal

pub returns-in-Err : goal.returns-in-Err
returns-in-Err g c = any (g.R.Read.remaining c.args.reader.now) _ (λ octets. tt)

pub returns-in_err-header : goal.returns-in_err-header
returns-in_err-header g c =
    let p = err_from_is_err_and c.from_residual.result c.from_residual.ensures.1 in
    rw (p.1, p.2) (reader_failed (g.R.Read.remaining c.args.reader.now) c.in_err-header.field-0.0 (read_kept c.args.all c.args.fine)
    c.in_err-header.ensures.fault)

pub page_from-requires-clause-width : goal.page_from-requires-clause-width
page_from-requires-clause-width g c = (header_fits (take c.in_ok-header.field-0.0 c.next_header.new.head) (
  size_of c.in_default-Some.header,
  _,
) (header_of c.in_ok-header.field-0.1 c.in_default-Some.header (take c.in_ok-header.field-0.0 c.next_header.new.head)
    c.in_default-Some.is-1 c.in_ok-header.ensures.header)).0

pub page_from-requires-clause-height : goal.page_from-requires-clause-height
page_from-requires-clause-height g c = (header_fits (take c.in_ok-header.field-0.0 c.next_header.new.head) (
  size_of c.in_default-Some.header,
  _,
) (header_of c.in_ok-header.field-0.1 c.in_default-Some.header (take c.in_ok-header.field-0.0 c.next_header.new.head)
    c.in_default-Some.is-1 c.in_ok-header.ensures.header)).1

pub returns-in_err-first-in_default-Some : goal.returns-in_err-first-in_default-Some
returns-in_err-first-in_default-Some g c =
    let p = err_from_is_err_and c.from_residual-in_err-first-in_default-Some.result c.from_residual-in_err-first-in_default-Some.ensures.1 in
    let head : List ℕ = take c.in_ok-header.field-0.0 c.next_header.new.head in
    rw (p.1, p.2)
    (same_known (g.R.Read.remaining c.args.reader.now) _ (λ octets. FailsOrIo c.in_err-first-in_default-Some.field-0.0 (read_kept c.args.all
    c.args.fine octets))
    (rw (c.in-Ok.ensures.capacity, c.in-Ok.ensures.empty, c.in-Ok.ensures.inner) (nothing_before (g.R.Read.remaining c.args.reader.now)))
    (first_refused c.in_err-first-in_default-Some.field-0.0 c.args.all c.args.fine _
    (image_refused c.in_err-first-in_default-Some.field-0.0 c.args.fine _ _ head (size_of c.in_default-Some.header)
    c.in_ok-header.ensures.read
    (header_of c.in_ok-header.field-0.1 c.in_default-Some.header head c.in_default-Some.is-1 c.in_ok-header.ensures.header)
    c.in_err-first-in_default-Some.ensures.err)))

pub returns-in_default-Some : goal.returns-in_default-Some
returns-in_default-Some g c =
    let head : List ℕ = take c.in_ok-header.field-0.0 c.next_header.new.head in
    same_known (g.R.Read.remaining c.args.reader.now) _ _
    (rw (c.in-Ok.ensures.capacity, c.in-Ok.ensures.empty, c.in-Ok.ensures.inner) (nothing_before (g.R.Read.remaining c.args.reader.now)))
    (first_and_following _ c.read_following.result c.args.all c.args.fine c.in_ok-first-in_default-Some.first _ _
    (image_taken c.args.fine _ _ _ head (size_of c.in_default-Some.header) c.in_ok-first-in_default-Some.first c.in_ok-header.ensures.read
    (header_of c.in_ok-header.field-0.1 c.in_default-Some.header head c.in_default-Some.is-1 c.in_ok-header.ensures.header)
    c.in_ok-first-in_default-Some.ensures.ok)
    c.read_following.ensures)

pub returns-in_err-octets-in_default-None : goal.returns-in_err-octets-in_default-None
returns-in_err-octets-in_default-None g c =
    let p = err_from_is_err_and c.from_residual-in_err-octets-in_default-None.result c.from_residual-in_err-octets-in_default-None.ensures.1
    in
    rw (p.1, p.2) (reader_failed (g.R.Read.remaining c.args.reader.now) c.in_err-octets-in_default-None.field-0.0 (read_kept c.args.all
    c.args.fine) c.in_err-octets-in_default-None.ensures.err)
