use Rattle.std.proofs.Common.{◌≡◌, ◌<◌, ◌∙◌, ap, length, take, List, ℕ, arith, inl, rules}
use Rattle.std.specs.Prelude.{Option, is_some}
use Rattle.std.proofs.lemmas.Result.{err_from_is_err_and}
use Rattle.raster.specs.declared.pbm.Header.{Header}
use Rattle.raster.specs.Pbm.{FailsOrIo, size_of}
use Rattle.raster.proofs.PbmImages.{header_fits}
use Rattle.raster.proofs.PbmPieces.{after_first, any, fails_io, header_of, image_refused, image_taken, images_ended, images_more}
use Rattle.raster.proofs.PbmPieces.{images_refused, images_rest, memory_rest, none_yet, reader_failed}
use Rattle.raster.proofs.PbmReading.{document_refused}
use Rattle.raster.proofs.pbm.read_following.Goals as goal

pub returns-in_err-document : goal.returns-in_err-document
returns-in_err-document g c =
    let p = err_from_is_err_and c.from_residual.result c.from_residual.ensures.1 in
    rw (p.1, p.2)
    (any (g.R.Read.remaining c.args.reader.now) (λ octets. FailsOrIo c.in_err-document.field-0.0 (after_first c.args.all c.args.fine
    c.args.first octets))
    (λ octets. fails_io c.in_err-document.field-0.0 (after_first c.args.all c.args.fine c.args.first octets) (document_refused
    c.in_err-document.field-0.0 c.args.first (after_first c.args.all c.args.fine c.args.first octets) c.requires c.in_err-document.ensures)))

pub loop-count-init : goal.loop-count-init
loop-count-init g c = record {
  taken = none_yet c.args.all c.args.fine c.args.first c.in_ok-document.document (g.R.Read.remaining c.args.reader.now)
      c.in_ok-document.ensures.1;
  long = search rules;
}

pub page_from-requires-clause-width : goal.page_from-requires-clause-width
page_from-requires-clause-width g c = (header_fits (take c.in_ok-header.field-0.0 c.next_header.new.head) (
  size_of c.in_default-Some.header,
  _,
) (header_of c.in_ok-header.field-0.1 c.in_default-Some.header (take c.in_ok-header.field-0.0 c.next_header.new.head)
    c.in_default-Some.is-1 c.in_ok-header.ensures.header)).0

pub page_from-requires-clause-height : goal.page_from-requires-clause-height
page_from-requires-clause-height g c = (header_fits (take c.in_ok-header.field-0.0 c.next_header.new.head) (
  size_of c.in_default-Some.header,
  _,
) (header_of c.in_ok-header.field-0.1 c.in_default-Some.header (take c.in_ok-header.field-0.0 c.next_header.new.head)
    c.in_default-Some.is-1 c.in_ok-header.ensures.header)).1

pub returns-in_err-header : goal.returns-in_err-header
returns-in_err-header g c =
    let p = err_from_is_err_and c.from_residual-in_err-header.result c.from_residual-in_err-header.ensures.1 in
    rw (p.1, p.2) (reader_failed (g.R.Read.remaining c.args.reader.now) c.in_err-header.field-0.0 (after_first c.args.all c.args.fine
    c.args.first) c.in_err-header.ensures.fault)

pub returns-in_err-page-in_default-Some : goal.returns-in_err-page-in_default-Some
returns-in_err-page-in_default-Some g c =
    let p = err_from_is_err_and c.from_residual-in_err-page-in_default-Some.result c.from_residual-in_err-page-in_default-Some.ensures.1 in
    let head : List ℕ = take c.in_ok-header.field-0.0 c.next_header.new.head in
    rw (p.1, p.2)
    (images_refused c.in_err-page-in_default-Some.field-0.0 c.args.all c.args.fine c.args.first c.loop-count.document c.loop-count.count
    (g.R.Read.remaining c.args.reader.now) (g.R.Read.remaining c.loop-count.reader) c.loop-count.invariant.taken
    (image_refused c.in_err-page-in_default-Some.field-0.0 c.args.fine (g.R.Read.remaining c.loop-count.reader) (g.R.Read.remaining
    c.next_header.new.reader) head (size_of c.in_default-Some.header) c.in_ok-header.ensures.read
    (header_of c.in_ok-header.field-0.1 c.in_default-Some.header head c.in_default-Some.is-1 c.in_ok-header.ensures.header)
    c.in_err-page-in_default-Some.ensures.err))

pub returns-in_err-keep-in_default-Some : goal.returns-in_err-keep-in_default-Some
returns-in_err-keep-in_default-Some g c =
    let p = err_from_is_err_and c.from_residual-in_err-keep-in_default-Some.result c.from_residual-in_err-keep-in_default-Some.ensures.1 in
    rw (p.1, p.2) (reader_failed (g.R.Read.remaining c.args.reader.now) c.in_err-keep-in_default-Some.field-0.0 (after_first c.args.all
    c.args.fine c.args.first) (inl c.in_err-keep-in_default-Some.ensures.only))

pub returns-in-0-None : goal.returns-in-0-None
returns-in-0-None g c =
    let none : c.in_ok-header.field-0.0 ≡ 0 = omega arith in
    let some : c.in_ok-header.field-0.0 < length c.next_header.new.head = omega (
      arith,
      c.next_header.ensures.length,
      c.loop-count.invariant.long,
    ) in
    images_ended c.args.all c.args.fine c.args.first c.loop-count.document c.loop-count.count (g.R.Read.remaining c.args.reader.now)
    (g.R.Read.remaining c.loop-count.reader) (g.R.Read.remaining c.next_header.new.reader) (take c.in_ok-header.field-0.0
    c.next_header.new.head) c.loop-count.invariant.taken c.in_ok-header.ensures.read
    (ap (λ (n : ℕ). take n c.next_header.new.head) none)
    (c.in_ok-header.ensures.end (ap (λ (told : Option Header). is_some told) c.in-0-None.is-1) some)

pub returns-in_err-octets-in_default-None : goal.returns-in_err-octets-in_default-None
returns-in_err-octets-in_default-None g c =
    let p = err_from_is_err_and c.from_residual-in_err-octets-in_default-None.result c.from_residual-in_err-octets-in_default-None.ensures.1
    in
    rw (p.1, p.2) (reader_failed (g.R.Read.remaining c.args.reader.now) c.in_err-octets-in_default-None.field-0.0 (after_first c.args.all
    c.args.fine c.args.first) c.in_err-octets-in_default-None.ensures.err)

pub returns-in_default-None : goal.returns-in_default-None
returns-in_default-None g c =
    images_rest _ c.read_later.result c.args.all c.args.fine c.args.first c.loop-count.document c.loop-count.count (g.R.Read.remaining
    c.args.reader.now) (g.R.Read.remaining c.loop-count.reader) c.loop-count.invariant.taken
    (memory_rest _ c.read_later.result c.args.all c.args.fine c.loop-count.document c.loop-count.count (g.R.Read.remaining
    c.loop-count.reader) (g.R.Read.remaining c.next_header.new.reader) (take c.in_ok-header.field-0.0 c.next_header.new.head)
    c.in_ok-octets-in_default-None.octets.items c.deref.result.now c.in_ok-header.ensures.read c.in_ok-octets-in_default-None.ensures.ok
    c.deref.ensures.value c.read_later.ensures)

pub loop-count-preserved : goal.loop-count-preserved
loop-count-preserved g c =
    let head : List ℕ = take c.in_ok-header.field-0.0 c.next_header.new.head in
    record {
      taken = rw c.in_ok-keep-in_default-Some.ensures.ok (images_more c.args.all c.args.fine c.args.first c.loop-count.document
          c.loop-count.count c.in_ok-page-in_default-Some.page (g.R.Read.remaining c.args.reader.now) (g.R.Read.remaining
          c.loop-count.reader) _ c.loop-count.invariant.taken (image_taken c.args.fine (g.R.Read.remaining c.loop-count.reader)
          (g.R.Read.remaining c.next_header.new.reader) _ head (size_of c.in_default-Some.header) c.in_ok-page-in_default-Some.page
          c.in_ok-header.ensures.read (header_of c.in_ok-header.field-0.1 c.in_default-Some.header head c.in_default-Some.is-1
          c.in_ok-header.ensures.header) c.in_ok-page-in_default-Some.ensures.ok));
      long = c.next_header.ensures.length ∙ c.loop-count.invariant.long;
    }

pub returns : goal.returns
returns g c = any (g.R.Read.remaining c.args.reader.now) _ (λ octets. tt)
