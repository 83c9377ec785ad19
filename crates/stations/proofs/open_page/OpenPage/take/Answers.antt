-- A block that is taken leaves its octets, and one that makes the page too long leaves nothing.
use Rattle.std.proofs.Common.{◌≡◌, ◌++◌, ◌+◌, List, ℕ, arith, map, take, ap, ◌∙◌, refl}
use Rattle.std.proofs.lemmas.List.{length-map, take_at}
use Rattle.raster.specs.Words.{turned_octet}
use Rattle.partial_page.specs.Store.{joined_frames}
use Rattle.stations.specs.OpenPage.{AppendsTurned}
use Rattle.stations.proofs.PageReads.{over_limit, turned_after, within_limit}
use Rattle.stations.proofs.open_page.OpenPage.take.Goals as goal

pub returns-then-len-gt-MAX_PAGE_OCTETS : goal.returns-then-len-gt-MAX_PAGE_OCTETS
returns-then-len-gt-MAX_PAGE_OCTETS c =
    let more : List ℕ = joined_frames c.args.block.now.frames.frames (c.args.last + 1) in
    let after : AppendsTurned c.self.inside.turned.items c.append_turned.new.turned.items more = c.in_ok-append_turned.ensures.ok in
    let back : take c.len-start.result c.append_turned.new.turned.items ≡ c.self.inside.turned.items =
    ap (take c.len-start.result) after.turned ∙ take_at c.self.inside.turned.items (map turned_octet more) c.len-start.result
    (omega (arith, c.self.inside.turned.ok, c.len-start.ensures)) in
    rw (← c.self.view_is) (
      rw (turned_after c.self.inside.turned.items c.append_turned.new.turned.items more after) at (
          over_limit (map turned_octet c.append_turned.new.turned.items) (omega (
            arith,
            length-map c.append_turned.new.turned.items turned_octet,
            c.append_turned.new.turned.ok,
            c.len.ensures,
            c.if-len-gt-MAX_PAGE_OCTETS.true,
          ))),
      rw (c.truncate.ensures.items, back) refl,
    )

pub returns : goal.returns
returns c =
    let more : List ℕ = joined_frames c.args.block.now.frames.frames (c.args.last + 1) in
    let after : map turned_octet c.append_turned.new.turned.items ≡ map turned_octet c.self.inside.turned.items ++ more =
    turned_after c.self.inside.turned.items c.append_turned.new.turned.items more c.in_ok-append_turned.ensures.ok in
    rw (← c.self.view_is) (
      rw after at (within_limit (map turned_octet c.append_turned.new.turned.items) (omega (
        arith,
        length-map c.append_turned.new.turned.items turned_octet,
        c.append_turned.new.turned.ok,
        c.len.ensures,
        c.if-len-gt-MAX_PAGE_OCTETS.false,
      ))),
      rw after refl,
    )
