-- What the check asks of `counts`.
use Rattle.std.proofs.Common.{◌≡◌, [], subst}
use Rattle.captures.specs.Contents.{ContentReading, HasRead}
use Rattle.captures.specs.Frames.{counts_of}
use Rattle.raster.specs.Packed.{bits_of}
use Rattle.captures.proofs.Listing.{counts_of_line}
use Rattle.captures.proofs.content_reader.ContentReader.counts.Goals as goal

pub returns : goal.returns
returns c line =
    let reader : ContentReading = record {
      order = c.self.inside.order;
      deframer = c.self.inside.deframer;
      content = c.self.inside.content.items;
      octets = c.self.inside.octets;
    } in
    subst (λ (r : ContentReading). HasRead r line [] [] → c.counts.result ≡ counts_of (bits_of r.order line)) c.self.view_is
    (counts_of_line reader c.counts.result line c.counts.ensures)
