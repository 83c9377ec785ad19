use Rattle.std.proofs.Common.{◌≡◌, ◌-◌, ◌++◌, drop, length, map, take}
use Rattle.raster.specs.Words.{turned_octet}
use Rattle.page_code.proofs.turned.turn.Given as goal

abbrev pub invariant-loop-at : goal.invariant-loop-at
invariant-loop-at l = (take l.at l.octets ++ map turned_octet (drop l.at l.octets) ≡ map turned_octet l.fn.octets)
    × (map turned_octet (take l.at l.octets) ++ drop l.at l.octets ≡ l.fn.octets)

abbrev pub decreases-loop-at : goal.decreases-loop-at
decreases-loop-at l = length l.octets - l.at
