-- Laws of the kinds of faults.
use Rattle.std.specs.Prelude.{ℕ, ◌≡◌, ◌⊎◌}
use Rattle.raster.specs.Faults.{number_of as number_of_raster}
use Rattle.raster.specs.declared.fault.RasterFault.{RasterFault}
use Rattle.raster.specs.declared.fault.RasterFault.TheVariants as raster
use Rattle.run_tables.specs.declared.fault.CodeFaultKind.{CodeFaultKind}
use Rattle.run_tables.specs.declared.fault.CodeFaultKind.TheVariants as code
use Rattle.faults.specs.Explanations.{IsBare, wrong_words}
use Rattle.faults.specs.FaultKinds.{kind_of, number_in, number_of, words_of}
use Rattle.faults.specs.Faults.{fault_at}
use Rattle.faults.specs.declared.explain.Known.{Known}
use Rattle.faults.specs.declared.fault.ToolFault.{ToolFault}
use Rattle.faults.specs.declared.fault.ToolFault.TheVariants.{No, AtBit, AtLine}
use Rattle.faults.specs.declared.fault_kind.FaultKind.{FaultKind}
use Rattle.faults.specs.declared.fault_kind.FaultKind.TheVariants.{BadWidth, WrongRowWidth, TooManyRows, NoRows, BadHeader, ShortData}
use Rattle.faults.specs.declared.fault_kind.FaultKind.TheVariants.{NoPages, Io, NoMemory, Unknown, NoCodedRows, BadCode}
use Rattle.faults.specs.declared.fault_kind.FaultKind.TheVariants.{Truncated, RunTooLong, Backwards, PastEnd, EmptyHorizontal}
use Rattle.faults.specs.declared.fault_kind.FaultKind.TheVariants.{Extension, MissingEofb, TooManyCodedRows, UnknownAtBit, BadLine}

-- law: a fault's kind has the number that the fault line shows
abbrev pub KindsHaveNumbers : Type 0
KindsHaveNumbers = (fault : ToolFault) → number_of (kind_of fault) ≡ number_in fault

-- a fault with the kind's number, without a place, at this bit or at this line, has this kind; an unknown kind may have any number
abbrev pub IsOfItsNumber : FaultKind → ℕ → Type 0
IsOfItsNumber (Unknown number) at = Unit {0}
IsOfItsNumber (UnknownAtBit number) at = Unit {0}
IsOfItsNumber BadLine at = kind_of (AtLine at) ≡ BadLine
IsOfItsNumber kind at = (kind_of (No (number_of kind)) ≡ kind) ⊎ (kind_of (AtBit (number_of kind) at) ≡ kind)

-- law: a fault with the number of a known kind has that kind, for a whole file or at any bit or line
abbrev pub NumbersHaveKinds : Type 0
NumbersHaveKinds = (kind : FaultKind) (at : ℕ) → IsOfItsNumber kind at

-- the kind of a fault of images
abbrev pub kind_of_raster : RasterFault → FaultKind
kind_of_raster raster.BadWidth = BadWidth
kind_of_raster raster.WrongRowWidth = WrongRowWidth
kind_of_raster raster.TooManyRows = TooManyRows
kind_of_raster raster.NoRows = NoRows
kind_of_raster raster.BadHeader = BadHeader
kind_of_raster raster.ShortData = ShortData
kind_of_raster raster.NoPages = NoPages
kind_of_raster raster.Io = Io
kind_of_raster raster.NoMemory = NoMemory

-- the kind of a fault of coded bits
abbrev pub kind_of_code : CodeFaultKind → FaultKind
kind_of_code code.NoRows = NoCodedRows
kind_of_code code.NoMemory = NoMemory
kind_of_code code.BadCode = BadCode
kind_of_code code.Truncated = Truncated
kind_of_code code.RunTooLong = RunTooLong
kind_of_code code.Backwards = Backwards
kind_of_code code.PastEnd = PastEnd
kind_of_code code.EmptyHorizontal = EmptyHorizontal
kind_of_code code.Extension = Extension
kind_of_code code.MissingEofb = MissingEofb
kind_of_code code.TooManyCodedRows = TooManyCodedRows

-- law: the faults of `raster` have the kinds of the same names
abbrev pub ImagesHaveKinds : Type 0
ImagesHaveKinds = (fault : RasterFault) → kind_of (No (number_of_raster fault)) ≡ kind_of_raster fault

-- law: the faults of `run_tables`, at any bit, have the kinds of the same names
abbrev pub PagesHaveKinds : Type 0
PagesHaveKinds = (fault : CodeFaultKind) (place : ℕ) → kind_of (fault_at place fault) ≡ kind_of_code fault

-- law: if nothing more is known of a fault, it is described by the words of its kind
abbrev pub BareWords : Type 0
BareWords = (kind : FaultKind) (known : Known) → IsBare known → wrong_words kind known ≡ words_of kind
