-- What the check asks of `read_page`.
use Rattle.std.proofs.Common.{List, ◌≤◌, ℕ, arith, length, map, ◌∙◌, subst}
use Rattle.std.proofs.lemmas.List.{length-map}
use Rattle.raster.specs.Packed.{bits_of}
use Rattle.raster.specs.Words.{turned_octet}
use Rattle.page_code.specs.PageReaders.{IsPageRead, IsPageRefused, IsRead}
use Rattle.page_code.specs.declared.page_reader.PageRead.{PageRead}
use Rattle.page_code.proofs.TurnedOctets.{turned_back}
use Rattle.stations.proofs.PageReads.{too_long, page_is_read, none_is_read}
use Rattle.stations.proofs.open_page.read_page.Goals as goal

pub returns-then-turned-gt-MAX_PAGE_OCTETS-clause-page : goal.returns-then-turned-gt-MAX_PAGE_OCTETS-clause-page
returns-then-turned-gt-MAX_PAGE_OCTETS-clause-page c =
    too_long c.args.params (map turned_octet c.args.turned.now)
    (omega (arith, length-map c.args.turned.now turned_octet, c.if-turned-gt-MAX_PAGE_OCTETS.true))

pub returns-in-Ok-Page-clause-page : goal.returns-in-Ok-Page-clause-page
returns-in-Ok-Page-clause-page c =
    let octets : List ℕ = map turned_octet c.args.turned.now in
    let few : length octets ≤ 8388608 = omega (arith, length-map c.args.turned.now turned_octet, c.if-turned-gt-MAX_PAGE_OCTETS.false) in
    let read : IsPageRead c.args.reader.now.coding c.args.reader.now.page.width c.args.reader.now.page.fine (bits_of
    c.args.reader.now.order c.args.turned.now) c.in-Ok-Page.page c.in-Ok-Page._used =
    subst (λ (read : PageRead). IsRead c.args.reader.now.coding c.args.reader.now.page.width c.args.reader.now.page.fine (bits_of
    c.args.reader.now.order c.args.turned.now) read) c.in-Ok-Page.field-0-is c.in-Ok-Page.ensures.read in
    page_is_read c.args.params octets c.in-Ok-Page.page c.in-Ok-Page._used few
    (read.reads.width_is ∙ c.requires.width) (read.reads.fine_is ∙ c.requires.fine)
    (rw (turned_back c.args.turned.now) (rw (c.requires.coding, c.requires.order, c.requires.width) at read.gives))

pub returns-in-Ok-Refused-clause-page : goal.returns-in-Ok-Refused-clause-page
returns-in-Ok-Refused-clause-page c =
    let octets : List ℕ = map turned_octet c.args.turned.now in
    let few : length octets ≤ 8388608 = omega (arith, length-map c.args.turned.now turned_octet, c.if-turned-gt-MAX_PAGE_OCTETS.false) in
    let read : IsPageRefused c.args.reader.now.coding c.args.reader.now.page.width (bits_of c.args.reader.now.order c.args.turned.now)
    c.in-Ok-Refused._refused =
    (subst (λ (read : PageRead). IsRead c.args.reader.now.coding c.args.reader.now.page.width c.args.reader.now.page.fine (bits_of
    c.args.reader.now.order c.args.turned.now) read) c.in-Ok-Refused.field-0-is c.in-Ok-Refused.ensures.read).0 in
    none_is_read c.args.params octets (c.in-Ok-Refused._refused.fault.place, c.in-Ok-Refused._refused.fault.kind) few
    (rw (turned_back c.args.turned.now) (rw (c.requires.coding, c.requires.order, c.requires.width) at read.gives))
