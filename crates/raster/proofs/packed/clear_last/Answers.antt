use Rattle.std.proofs.Common.{ℕ, ◌/◌, ◌+◌, ◌≡◌, arith, ap, get_or, length, length-append}
use Rattle.std.proofs.lemmas.List.{get_or_read}
use Rattle.raster.proofs.StoredLemmas.{cut_last, cut_none}
use Rattle.raster.proofs.packed.clear_last.Goals as goal

pub returns-then-count-eq0 : goal.returns-then-count-eq0
returns-then-count-eq0 c before own is begins =
    cut_none c.args.count before own c.args.octets.now.items is (omega (arith, c.requires, ap length is, length-append before own, begins))
    (omega (arith, c.if-count-eq0.true))

pub returns : goal.returns
returns c before own is begins =
    let at : ℕ = c.args.start + c.args.count / 8 in
    let long : length own ≡ (c.args.count + 7) / 8 = omega (arith, c.requires, ap length is, length-append before own, begins) in
    let read : c.index.result.now ≡ get_or c.args.octets.now.items at 0 =
    get_or_read c.args.octets.now.items at c.index.result.now (omega (arith, c.requires, c.if-count-eq0.false)) c.index.ensures 0 in
    cut_last c.args.count c.args.start c.first_of_octet.result before own c.args.octets.now.items is begins long
    (omega (arith, c.if-count-eq0.false)) (rw read at c.first_of_octet.ensures.inside) c.first_of_octet.ensures.after
