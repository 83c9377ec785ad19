use Rattle.std.proofs.Common.{◌/◌, ◌≡◌, arith, get_or}
use Rattle.std.proofs.lemmas.List.{get_or_read}
use Rattle.raster.proofs.PackedLemmas.{kept_cut, packed_cut, packed_whole}
use Rattle.raster.proofs.packed.clear_after.Goals as goal

pub returns-then-count-eq0-clause-packed : goal.returns-then-count-eq0-clause-packed
returns-then-count-eq0-clause-packed c = packed_whole c.args.order c.args.octets.now.items c.args.count c.requires (omega arith)

pub returns-clause-packed : goal.returns-clause-packed
returns-clause-packed c = packed_cut c.args.order c.args.octets.now.items c.args.count _ c.requires (omega arith)
    c.first_of_octet.ensures.after

pub returns-clause-same : goal.returns-clause-same
returns-clause-same c k h =
    let read : c.index.result.now ≡ get_or c.args.octets.now.items (c.args.count / 8) 0 =
    get_or_read c.args.octets.now.items (c.args.count / 8) c.index.result.now (omega arith) c.index.ensures 0 in
    kept_cut c.args.order c.args.octets.now.items c.args.count _ c.requires (omega arith)
    (rw read at c.first_of_octet.ensures.inside) k h
