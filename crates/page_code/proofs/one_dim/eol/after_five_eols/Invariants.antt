use Rattle.std.proofs.Common.{◌≡◌, ◌+◌, ◌-◌, ◌*◌, ◌≤◌, drop, length}
use Rattle.raster.specs.Packed.{bits_of}
use Rattle.page_code.specs.OneDimension.Fronts.{bits_of_five}
use Rattle.page_code.proofs.OneDimension.SeesEol.{counted}
use Rattle.page_code.proofs.one_dim.eol.after_five_eols.Given as goal

abbrev pub invariant-loop : goal.invariant-loop
invariant-loop l = record {
  within : l.after ≤ 8 * length l.octets;
  counted : l.place + bits_of_five (drop l.place (bits_of l.order l.octets)) ≡ l.after + counted (5 - l.counter) (drop l.after (bits_of
      l.order l.octets));
}
