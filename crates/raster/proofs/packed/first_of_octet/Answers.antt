use Rattle.raster.proofs.PackedLemmas.{low_kept, low_cut, high_kept, high_cut}
use Rattle.raster.proofs.packed.first_of_octet.Goals as goal

pub returns-in-LsbFirst-clause-inside : goal.returns-in-LsbFirst-clause-inside
returns-in-LsbFirst-clause-inside c k h = rw c.in-LsbFirst.is (low_kept c.args.octet c.args.count k c.requires.few h)

pub returns-in-LsbFirst-clause-after : goal.returns-in-LsbFirst-clause-after
returns-in-LsbFirst-clause-after c k low h = rw c.in-LsbFirst.is (low_cut c.args.octet c.args.count k c.requires.few low h)

pub returns-in-MsbFirst-clause-inside : goal.returns-in-MsbFirst-clause-inside
returns-in-MsbFirst-clause-inside c k h = rw c.in-MsbFirst.is (high_kept c.args.octet c.args.count k c.requires.few h)

pub returns-in-MsbFirst-clause-after : goal.returns-in-MsbFirst-clause-after
returns-in-MsbFirst-clause-after c k low h = rw c.in-MsbFirst.is (high_cut c.args.octet c.args.count k c.requires.few low h)
