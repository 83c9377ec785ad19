use Rattle.std.proofs.Common.{◌≡◌, ◌≤◌, ◌-◌, ◌*◌, length}
use Rattle.raster.specs.Packed.{bits_of}
use Rattle.page_code.specs.OneDimension.Repairs.{AreGivenTo}
use Rattle.page_code.proofs.one_dim.repair.give_lines.Given as goal

abbrev pub invariant-loop-alloc : goal.invariant-loop-alloc
invariant-loop-alloc l = record {
  width : l.to.page.width ≡ l.width;
  fine : l.to.page.fine ≡ l.fine;
  within : l.to.place ≤ 8 * length l.octets;
  few : length l.to.page.rows ≤ 20000;
  given_to : AreGivenTo l.width (bits_of l.order l.octets) l.to.page.rows l.to.repaired.items l.to.place;
}

abbrev pub decreases-loop-alloc : goal.decreases-loop-alloc
decreases-loop-alloc l = 20000 - length l.to.page.rows
