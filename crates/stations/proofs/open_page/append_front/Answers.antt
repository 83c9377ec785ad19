use Rattle.std.proofs.Common.{◌≡◌, ◌++◌, [], drop, length, sym, ap, ◌∙◌, append-nil, arith}
use Rattle.stations.specs.BadPages.{front_octets}
use Rattle.stations.proofs.FrontOctets.{front_past}
use Rattle.stations.proofs.open_page.append_front.Goals as goal

pub returns : goal.returns
returns c =
    let size : length c.args.store.now.frames ≡ 256 = c.ready-ready.ensures.store.places in
    let past : front_octets (drop c.loop-number.number c.args.store.now.frames) ≡ [] =
    front_past c.args.store.now.frames c.loop-number.number (omega (arith, size, c.loop-number-test.false)) in
    sym (append-nil c.loop-number.octets.items) ∙ (ap (λ l. c.loop-number.octets.items ++ l) (sym past) ∙ c.loop-number.invariant)
