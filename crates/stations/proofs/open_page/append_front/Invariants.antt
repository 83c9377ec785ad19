use Rattle.std.proofs.Common.{◌≡◌, ◌++◌, drop}
use Rattle.stations.specs.BadPages.{front_octets}
use Rattle.stations.proofs.open_page.append_front.Given as goal

abbrev pub invariant-loop-number : goal.invariant-loop-number
invariant-loop-number l =
    l.octets.items ++ front_octets (drop l.number l.store.frames) ≡ l.fn.octets.items ++ front_octets l.fn.store.frames
