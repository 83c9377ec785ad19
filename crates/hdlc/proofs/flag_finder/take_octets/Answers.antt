use Rattle.std.proofs.Common.{◌≡◌, ◌++◌, [], ℕ, List, take, subst, arith}
use Rattle.std.proofs.lemmas.List.{take_more}
use Rattle.raster.specs.Packed.{bits_of}
use Rattle.raster.specs.declared.packed.Order.TheVariants.{LsbFirst}
use Rattle.hdlc.specs.Contents.{contents_of}
use Rattle.hdlc.specs.DeframerParts.{PartsAfter}
use Rattle.hdlc.proofs.BitPlaces.{octets-none}
use Rattle.hdlc.proofs.flag_finder.take_octets.Goals as goal

pub returns-then-count-ne0-clause-ok : goal.returns-then-count-ne0-clause-ok
returns-then-count-ne0-clause-ok c bits handed old =
    c.take_front-count.ensures.taken c.args.counts.now (contents_of c.args.queue.now.items) bits handed old

pub returns-then-take_behind_flag-clause-ok : goal.returns-then-take_behind_flag-clause-ok
returns-then-take_behind_flag-clause-ok c bits handed old =
    let octets : List ℕ = c.args.octets.now in
    let queue : List (List ℕ) = contents_of c.args.queue.now.items in
    let none : c.take_front-count.result ≡ 0 = omega arith in
    let mid : PartsAfter c.take_front-count.new.self c.args.counts.now queue (bits ++ bits_of LsbFirst []) handed =
    subst (λ n. PartsAfter c.take_front-count.new.self c.args.counts.now queue (bits ++ bits_of LsbFirst (take n octets)) handed) none
    (c.take_front-count.ensures.taken c.args.counts.now queue bits handed old) in
    rw (take_more octets 0 0 (omega arith))
    (c.take_behind_flag.ensures.taken c.if-take_behind_flag.true c.args.counts.now queue bits handed (rw (← octets-none bits) mid))

pub returns-clause-ok : goal.returns-clause-ok
returns-clause-ok c bits handed old =
    let octets : List ℕ = c.args.octets.now in
    let queue : List (List ℕ) = contents_of c.args.queue.now.items in
    let none : c.take_front-count.result ≡ 0 = omega arith in
    let mid : PartsAfter c.take_front-count.new.self c.args.counts.now queue (bits ++ bits_of LsbFirst []) handed =
    subst (λ n. PartsAfter c.take_front-count.new.self c.args.counts.now queue (bits ++ bits_of LsbFirst (take n octets)) handed) none
    (c.take_front-count.ensures.taken c.args.counts.now queue bits handed old) in
    rw (take_more octets 0 0 (omega arith)) (c.in_ok-take_each.ensures.ok bits handed
    (rw (c.take_behind_flag.ensures.left c.if-take_behind_flag.false, ← octets-none bits) mid))
