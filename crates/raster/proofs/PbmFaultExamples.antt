-- The examples of first faults, by computing and by the law.
use Rattle.std.proofs.Common.{refl, true}
use Rattle.std.specs.Prelude.{codes}
use Rattle.raster.specs.declared.fault.RasterFault.TheVariants.{BadWidth, TooManyRows, NoRows, BadHeader, ShortData}
use Rattle.raster.specs.Pbm.{after_blanks, space_at, digits_at, number_at, width_at, height_at, header_at, rows_at, page_at, image_at}
use Rattle.raster.specs.Pbm.{images_at, read_images}
use Rattle.raster.specs.PbmFaults.{AreFaultExamples}
use Rattle.raster.proofs.PbmFaults.{fault_first}

pub are_fault_examples : AreFaultExamples
unfolding after_blanks space_at digits_at number_at width_at height_at header_at rows_at page_at image_at images_at read_images
are_fault_examples = record {
  nothing = refl;
  other_magic = fault_first true (codes "P5") BadHeader refl;
  half_magic = fault_first true (codes "P") BadHeader refl;
  no_space = fault_first true (codes "P48 1 0") BadHeader refl;
  sign = fault_first true (codes "P4 +8 1 0") BadHeader refl;
  open_comment = fault_first true (codes "P4#c") BadHeader refl;
  ended_after_width = fault_first true (codes "P4 8") BadHeader refl;
  ended_after_height = fault_first true (codes "P4 8 1") BadHeader refl;
  comment_after_height = fault_first true (codes "P4 8 1#c\n0") BadHeader refl;
  trailing_space = fault_first true (codes "P4 8 1 0 ") BadHeader refl;
  width_0 = fault_first true (codes "P4 0") BadWidth refl;
  width_0_then_x = fault_first true (codes "P4 0x") BadWidth refl;
  width_2433 = fault_first true (codes "P4 2433 0") BadWidth refl;
  height_0 = fault_first true (codes "P4\n8 0\n") NoRows refl;
  height_0_then_x = fault_first true (codes "P4 8 0x") NoRows refl;
  height_20001 = fault_first true (codes "P4 8 20001") TooManyRows refl;
  no_rows_at_all = fault_first true (codes "P4\n8 1\n") ShortData refl;
  half_a_row = fault_first true (codes "P4 9 2 123") ShortData refl;
  second_image = fault_first true (codes "P4 8 1 0P4 0") BadWidth refl;
}
