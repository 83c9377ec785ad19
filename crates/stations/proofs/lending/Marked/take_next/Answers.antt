use Rattle.std.proofs.Common.{ℕ, List, [], length, ◌+◌, ◌≡◌, arith}
use Rattle.std.specs.Prelude.{slice_index_or}
use Rattle.stations.proofs.ItemLaws.{gives_next, gives_none, gives_none_from}
use Rattle.stations.proofs.lending.Marked.take_next.Goals as goal

pub returns-then-number-count : goal.returns-then-number-count
returns-then-number-count c =
    let all : List (List ℕ) = slice_index_or c.self.inside.blocks.now c.self.inside.block [] in
    let size : c.last.result + 1 ≡ length all = c.last.ensures in
    rw (← c.self.view_is) (
      gives_none_from c.self.inside.map all c.self.inside.next c.next_marked-number.result c.next_marked-number.ensures.above
          (omega (arith, size, c.next_marked-number.ensures.below, c.if-number-count.true)) c.next_marked-number.ensures.least,
      gives_none c.self.inside.map all (c.last.result + 1) (omega (arith, size)),
    )

pub returns : goal.returns
returns c =
    let all : List (List ℕ) = slice_index_or c.self.inside.blocks.now c.self.inside.block [] in
    let size : c.last.result + 1 ≡ length all = c.last.ensures in
    rw (← c.self.view_is)
    (gives_next c.self.inside.map all c.self.inside.next c.next_marked-number.result c.frame-octets.result.now
    c.next_marked-number.ensures.above (omega (arith, size, c.if-number-count.false)) c.next_marked-number.ensures.least
    (c.next_marked-number.ensures.marked (omega (arith, c.if-number-count.false))) c.frame-octets.ensures)
