-- A document that can't be read.
use Rattle.std.proofs.Common.{◌⊎◌, ℕ, Bool, List, inl, inr, refl}
use Rattle.raster.specs.Faults.{number_of}
use Rattle.raster.specs.Pbm.{FailsOrIo, read_images}
use Rattle.raster.specs.declared.fault.RasterFault.{RasterFault}
use Rattle.raster.specs.declared.fault.RasterFault.TheVariants.{BadWidth, WrongRowWidth, TooManyRows, NoRows, BadHeader}
use Rattle.raster.specs.declared.fault.RasterFault.TheVariants.{ShortData, NoPages, Io, NoMemory}
use Rattle.faults.specs.Faults.{IsOutside}
use Rattle.faults.specs.declared.fault.ToolFault.TheVariants.{No}
use Rattle.command_files.specs.Bounds.{AreNoImages}

-- the reader or memory failed, or the octets are no images
pub none_read : (fine : Bool) (first : RasterFault) → (octets : List ℕ) × FailsOrIo first (read_images fine octets)
    → IsOutside (No (number_of first)) ⊎ ((octets : List ℕ) × AreNoImages fine octets (No (number_of first)))
none_read fine BadWidth (octets, is) = inr (octets, (BadWidth, is, refl))
none_read fine WrongRowWidth (octets, is) = inr (octets, (WrongRowWidth, is, refl))
none_read fine TooManyRows (octets, is) = inr (octets, (TooManyRows, is, refl))
none_read fine NoRows (octets, is) = inr (octets, (NoRows, is, refl))
none_read fine BadHeader (octets, is) = inr (octets, (BadHeader, is, refl))
none_read fine ShortData (octets, is) = inr (octets, (ShortData, is, refl))
none_read fine NoPages (octets, is) = inr (octets, (NoPages, is, refl))
none_read fine Io (octets, is) = inl (inl refl)
none_read fine NoMemory (octets, is) = inl (inr refl)
