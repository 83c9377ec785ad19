use Rattle.std.proofs.Common.{arith}
use Rattle.raster.proofs.TextLemmas.{holds_length, row_written}
use Rattle.raster.proofs.text.put_row.Goals as goal

pub put_pixels-requires : goal.put_pixels-requires
put_pixels-requires c = record {
  room = omega (
    arith,
    c.requires.room,
    c.width-width.ensures.width,
    c.width-width.ensures.range.1,
    holds_length c.args.row.now c.octets.result.now c.octets.ensures,
    c.octets.ensures.filled.few,
  );
}

pub returns-clause-text : goal.returns-clause-text
returns-clause-text c =
    row_written c.args.row.now c.octets.result.now c.put_pixels.new.text c.width-width.result c.octets.ensures c.width-width.ensures.width
    (omega (arith, c.requires.room, c.put_pixels.ensures.length, c.width-width.ensures.range.1))
    c.put_pixels.ensures.pixels
