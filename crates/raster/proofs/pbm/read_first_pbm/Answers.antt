use Rattle.std.proofs.Common.{ℕ, false}
use Rattle.std.proofs.lemmas.Result.{err_from_is_err_and}
use Rattle.raster.specs.Pages.{PagePixels}
use Rattle.raster.proofs.PbmCalls.{fault_is_first, fault_known, first_faultless, first_found, first_of_fault, first_only, kept_known}
use Rattle.raster.proofs.PbmReading.{found_first, kept_fails}
use Rattle.raster.proofs.pbm.read_first_pbm.Goals as goal

pub returns-in_err-document-clause-only : goal.returns-in_err-document-clause-only
returns-in_err-document-clause-only g c =
    let p = err_from_is_err_and c.from_residual.result c.from_residual.ensures.1 in
    rw (p.1, p.2) (first_of_fault c.args.fine (g.R.Read.remaining c.args.reader.now) c.in_err-document.field-0.0
    (fault_known false c.args.fine (g.R.Read.remaining c.args.reader.now) c.in_err-document.field-0.0 c.in_err-document.ensures))

pub returns-in_err-document-clause-fault : goal.returns-in_err-document-clause-fault
returns-in_err-document-clause-fault g c =
    let p = err_from_is_err_and c.from_residual.result c.from_residual.ensures.1 in
    rw (p.1, p.2)
    (fault_known false c.args.fine (g.R.Read.remaining c.args.reader.now) c.in_err-document.field-0.0 c.in_err-document.ensures)

pub returns-in_err-document-clause-first : goal.returns-in_err-document-clause-first
returns-in_err-document-clause-first g c =
    let p = err_from_is_err_and c.from_residual.result c.from_residual.ensures.1 in
    rw (p.1, p.2) (fault_is_first (PagePixels × ℕ) c.args.fine (g.R.Read.remaining c.args.reader.now) c.in_err-document.field-0.0
    (fault_known false c.args.fine (g.R.Read.remaining c.args.reader.now) c.in_err-document.field-0.0 c.in_err-document.ensures))

pub returns-in_err-document-clause-some_fault : goal.returns-in_err-document-clause-some_fault
returns-in_err-document-clause-some_fault g c =
    let p = err_from_is_err_and c.from_residual.result c.from_residual.ensures.1 in
    rw (p.1, p.2) (
      c.in_err-document.ensures.octets,
      kept_fails false c.args.fine c.in_err-document.ensures.octets c.in_err-document.field-0.0 c.in_err-document.ensures.hold,
    )

pub returns-clause-found : goal.returns-clause-found
returns-clause-found g c = first_found c.args.fine (g.R.Read.remaining c.args.reader.now) (
  c.in_ok-document.document,
  c.in_ok-document.count,
) c.into_first.result (
  kept_known false c.args.fine (g.R.Read.remaining c.args.reader.now) (c.in_ok-document.document, c.in_ok-document.count)
      c.in_ok-document.ensures,
  c.into_first.ensures.page,
)

pub returns-clause-only : goal.returns-clause-only
returns-clause-only g c = first_only c.args.fine (g.R.Read.remaining c.args.reader.now) (
  c.in_ok-document.document,
  c.in_ok-document.count,
) c.into_first.result (
  kept_known false c.args.fine (g.R.Read.remaining c.args.reader.now) (c.in_ok-document.document, c.in_ok-document.count)
      c.in_ok-document.ensures,
  c.into_first.ensures.page,
)

pub returns-clause-first : goal.returns-clause-first
returns-clause-first g c = first_faultless c.args.fine (g.R.Read.remaining c.args.reader.now) (
  c.in_ok-document.document,
  c.in_ok-document.count,
) c.into_first.result (
  kept_known false c.args.fine (g.R.Read.remaining c.args.reader.now) (c.in_ok-document.document, c.in_ok-document.count)
      c.in_ok-document.ensures,
  c.into_first.ensures.page,
)

pub returns-clause-some : goal.returns-clause-some
returns-clause-some g c = (
  c.in_ok-document.ensures.octets,
  found_first c.args.fine c.in_ok-document.ensures.octets (c.in_ok-document.document, c.in_ok-document.count) c.into_first.result
      c.in_ok-document.ensures.hold c.into_first.ensures.page,
)
