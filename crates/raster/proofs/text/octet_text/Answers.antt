use Rattle.std.proofs.Common.{arith, zero, suc}
use Rattle.raster.proofs.text.octet_text.Goals as goal

pub returns : goal.returns
returns c zero h = c.pixel_octet.ensures
returns c (suc zero) h = c.pixel_octet-2.ensures
returns c (suc (suc zero)) h = c.pixel_octet-3.ensures
returns c (suc (suc (suc zero))) h = c.pixel_octet-4.ensures
returns c (suc (suc (suc (suc zero)))) h = c.pixel_octet-5.ensures
returns c (suc (suc (suc (suc (suc zero))))) h = c.pixel_octet-6.ensures
returns c (suc (suc (suc (suc (suc (suc zero)))))) h = c.pixel_octet-7.ensures
returns c (suc (suc (suc (suc (suc (suc (suc zero))))))) h = c.pixel_octet-8.ensures
returns c (suc (suc (suc (suc (suc (suc (suc (suc k)))))))) h = absurd (omega arith)
