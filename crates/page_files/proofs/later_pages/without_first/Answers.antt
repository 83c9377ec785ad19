use Rattle.page_files.proofs.LaterPages.{first_cut_lsb, first_cut_msb, last_kept_lsb, last_kept_msb}
use Rattle.page_files.proofs.later_pages.without_first.Goals as goal

pub returns-in-LsbFirst-clause-inside : goal.returns-in-LsbFirst-clause-inside
returns-in-LsbFirst-clause-inside c k h = rw c.in-LsbFirst.is (first_cut_lsb c.args.octet c.args.count k c.requires.some c.requires.few h)

pub returns-in-LsbFirst-clause-after : goal.returns-in-LsbFirst-clause-after
returns-in-LsbFirst-clause-after c k low h = rw c.in-LsbFirst.is (last_kept_lsb c.args.octet c.args.count k c.requires.some c.requires.few low h)

pub returns-in-MsbFirst-clause-inside : goal.returns-in-MsbFirst-clause-inside
returns-in-MsbFirst-clause-inside c k h = rw c.in-MsbFirst.is (first_cut_msb c.args.octet c.args.count k c.requires.some c.requires.few h)

pub returns-in-MsbFirst-clause-after : goal.returns-in-MsbFirst-clause-after
returns-in-MsbFirst-clause-after c k low h = rw c.in-MsbFirst.is (last_kept_msb c.args.octet c.args.count k c.requires.some c.requires.few low h)
