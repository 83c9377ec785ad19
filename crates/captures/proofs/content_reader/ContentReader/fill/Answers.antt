-- What the check asks of `fill`.
use Rattle.std.proofs.Common.{rules, ◌++◌, sym, subst, refl, take}
use Rattle.captures.specs.Contents.{ContentReading, HasRead}
use Rattle.captures.proofs.Contents.{piece_read}
use Rattle.captures.proofs.content_reader.ContentReader.fill.Goals as goal

pub returns-clause-stands : goal.returns-clause-stands
returns-clause-stands g c =
    let old : ContentReading = record {
      order = c.self.inside.order;
      deframer = c.self.inside.deframer;
      content = c.self.inside.content.items;
      octets = c.self.inside.octets;
    } in
    let new : ContentReading = record {
      order = c.self.inside.order;
      deframer = c.feed_in.new.deframer;
      content = c.self.inside.content.items;
      octets = c.saturating_add-self-inside.result;
    } in
    let piece = take c.in_ok-count.count c.read_some.new.piece in (
      piece,
      c.in_ok-count.ensures.came,
      λ line left coming stands. piece_read old new line piece left coming
          (subst (λ (r : ContentReading). HasRead r line (piece ++ left) coming) (sym c.self.view_is) stands)
          c.in_ok-feed_in.ensures.ok refl (search rules),
    )
