-- Rows of T.4 without EOLs.
use Rattle.std.proofs.Common.{ℕ, ◌≡◌, ◌+◌, ◌*◌, ◌≤◌, List, length, drop, ap, sym, ◌∙◌}
use Rattle.std.proofs.Common.{subst, arith, add-one}
use Rattle.std.specs.Int.{div_ceil}
use Rattle.raster.specs.declared.packed.Order.{Order}
use Rattle.raster.specs.declared.row.Color.{Color}
use Rattle.raster.specs.Packed.{bits_of}
use Rattle.run_tables.specs.Reading.{Reading, rest_of}
use Rattle.run_tables.specs.RowLaws.{ReadsAsRow}
use Rattle.run_tables.specs.RowReading.{ReadsRow}
use Rattle.page_files.specs.NoEols.{AreRowsTo}
use Rattle.page_files.proofs.OwnWidths.{length-bits}

-- one row more
pub record HasRow (width : ℕ) (order : Order) (octets : List ℕ) (rows border : ℕ) : Type 0 where
  pub to : AreRowsTo width (bits_of order octets) (rows + 1) (8 * border)
  pub within : 8 * border ≤ 8 * length octets

pub has_row : (width : ℕ) (order : Order) (octets : List ℕ) (rows place end border : ℕ) (row : List Color)
    (old new : Reading) → old ≡ record { bits = bits_of order octets; place = place } → ReadsRow width old new row → end ≡ new.place
    → end ≤ length new.bits → border ≡ div_ceil end 8 → AreRowsTo width (bits_of order octets) rows place → HasRow width order octets rows border
has_row width order octets rows place end border row old new is read end_is within border_is to = record {
  to = subst (λ (n : ℕ). AreRowsTo width (bits_of order octets) n (8 * border)) (sym (add-one rows))
      (place, read.used, row, to, there, ap (λ (n : ℕ). 8 * n) (border_is ∙ ap (λ (n : ℕ). div_ceil n 8) placed));
  within = omega (arith, border_is, within, ap length bits, length-bits order octets);
}
  where
    placed : end ≡ place + read.used
    placed = end_is ∙ (ap (λ (r : Reading). r.place) read.after ∙ ap (λ (r : Reading). r.place + read.used) is)

    bits : new.bits ≡ bits_of order octets
    bits = ap (λ (r : Reading). r.bits) read.after ∙ ap (λ (r : Reading). r.bits) is

    there : ReadsAsRow width (drop place (bits_of order octets)) row read.used
    there = subst (λ (r : Reading). ReadsAsRow width (rest_of r) row read.used) is read.reads
