use Rattle.std.proofs.Common.{arith, ◌-◌, refl}
use Rattle.raster.specs.declared.packed.Order.TheVariants.{MsbFirst}
use Rattle.raster.specs.Packed.{bits_in}
use Rattle.raster.specs.Pixels.{colors}
use Rattle.raster.proofs.PaintingLemmas.{paints_all, written_back}
use Rattle.raster.proofs.StoredLemmas.{append_painted, as_many}
use Rattle.raster.proofs.painting.Painter.append_to.Goals as goal

pub returns-clause-ok : goal.returns-clause-ok
returns-clause-ok c =
    let painted = c.finish.new.octets in
    let back = written_back c.finish.new.octets c.args.self.now.octets.items c.args.self.now.octets.len (omega arith) (omega arith) in
    let row = colors (bits_in MsbFirst painted c.args.self.now.width) in
    record {
      row = row;
      wide = as_many row painted c.args.self.now.width refl;
      appended = append_painted row painted c.args.octets.now.items c.extend_from_slice.new.self.items c.args.self.now.width
          c.octets_for.result refl c.finish.ensures.packed c.octets_for.ensures c.requires.fits.wide.1
          (rw (c.deref.ensures.value, back) at c.in_ok-extend_from_slice.ensures.items);
      are = λ runs old. paints_all runs c.args.self.now.width c.args.self.now.place c.args.self.now.octets.items
          (c.args.self.now.end - 64) c.args.self.now.word painted (omega (arith, old.total, c.requires.whole)) old.drawn
          (rw c.deref_mut.ensures.value at c.finish.ensures.bits);
    }
