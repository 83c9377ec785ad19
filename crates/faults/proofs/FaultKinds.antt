-- The kind of each fault has its number, and the fault of each kind's number has the kind.
use Rattle.std.proofs.Common.{◌≡◌, ◌==◌, ◌∷◌, [], ℕ, Bool, true, false, List, refl, sym, inl, inr}
use Rattle.std.proofs.lemmas.Bool.{eqb-true}
use Rattle.raster.specs.declared.fault.RasterFault.TheVariants as raster
use Rattle.run_tables.specs.declared.fault.CodeFaultKind.TheVariants as code
use Rattle.faults.specs.FaultKinds.{kind_among, number_of, page_kinds, whole_kinds}
use Rattle.faults.specs.KindsMean.{BareWords, ImagesHaveKinds, KindsHaveNumbers, NumbersHaveKinds, PagesHaveKinds}
use Rattle.faults.specs.declared.fault.ToolFault.TheVariants.{No, AtBit, AtLine}
use Rattle.faults.specs.declared.fault_kind.FaultKind.{FaultKind}
use Rattle.faults.specs.declared.fault_kind.FaultKind.TheVariants.{BadWidth, WrongRowWidth, TooManyRows, NoRows, BadHeader, ShortData}
use Rattle.faults.specs.declared.fault_kind.FaultKind.TheVariants.{NoPages, Io, NoMemory, BadAddress, BadControl, ShortField}
use Rattle.faults.specs.declared.fault_kind.FaultKind.TheVariants.{WidthNotCallable, SeveralPages, FewerPages, Unidentified, TooManyOctets, Unknown}
use Rattle.faults.specs.declared.fault_kind.FaultKind.TheVariants.{NoCodedRows, BadCode}
use Rattle.faults.specs.declared.fault_kind.FaultKind.TheVariants.{Truncated, RunTooLong, Backwards, PastEnd, EmptyHorizontal}
use Rattle.faults.specs.declared.fault_kind.FaultKind.TheVariants.{Extension, MissingEofb, TooManyCodedRows, UnknownAtBit, BadLine}

-- what is found among kinds has the number, as the other one has
number_among : (kinds : List FaultKind) (other : FaultKind) (number : ℕ) → number_of other ≡ number
    → number_of (kind_among kinds other number) ≡ number
number_among [] other number h = h
number_among (kind ∷ kinds) other number h = by_test (number == number_of kind) refl (number_among kinds other number h)
  where
    by_test : (test : Bool) → (number == number_of kind) ≡ test → number_of (kind_among kinds other number) ≡ number
        → number_of (kind_among (kind ∷ kinds) other number) ≡ number
    by_test true e on = rw e (sym (eqb-true number (number_of kind) e))
    by_test false e on = rw e on

pub number_of_kind : KindsHaveNumbers
number_of_kind (No number) = number_among whole_kinds (Unknown number) number refl
number_of_kind (AtBit number place) = number_among page_kinds (UnknownAtBit number) number refl
number_of_kind (AtLine line) = refl

pub kind_of_number : NumbersHaveKinds
kind_of_number BadWidth at = inl refl
kind_of_number WrongRowWidth at = inl refl
kind_of_number TooManyRows at = inl refl
kind_of_number NoRows at = inl refl
kind_of_number BadHeader at = inl refl
kind_of_number ShortData at = inl refl
kind_of_number NoPages at = inl refl
kind_of_number Io at = inl refl
kind_of_number NoMemory at = inl refl
kind_of_number BadAddress at = inl refl
kind_of_number BadControl at = inl refl
kind_of_number ShortField at = inl refl
kind_of_number WidthNotCallable at = inl refl
kind_of_number SeveralPages at = inl refl
kind_of_number FewerPages at = inl refl
kind_of_number Unidentified at = inl refl
kind_of_number TooManyOctets at = inl refl
kind_of_number (Unknown number) at = tt
kind_of_number NoCodedRows at = inr refl
kind_of_number BadCode at = inr refl
kind_of_number Truncated at = inr refl
kind_of_number RunTooLong at = inr refl
kind_of_number Backwards at = inr refl
kind_of_number PastEnd at = inr refl
kind_of_number EmptyHorizontal at = inr refl
kind_of_number Extension at = inr refl
kind_of_number MissingEofb at = inr refl
kind_of_number TooManyCodedRows at = inr refl
kind_of_number (UnknownAtBit number) at = tt
kind_of_number BadLine at = refl

pub kind_of_raster_fault : ImagesHaveKinds
kind_of_raster_fault raster.BadWidth = refl
kind_of_raster_fault raster.WrongRowWidth = refl
kind_of_raster_fault raster.TooManyRows = refl
kind_of_raster_fault raster.NoRows = refl
kind_of_raster_fault raster.BadHeader = refl
kind_of_raster_fault raster.ShortData = refl
kind_of_raster_fault raster.NoPages = refl
kind_of_raster_fault raster.Io = refl
kind_of_raster_fault raster.NoMemory = refl

pub kind_of_code_fault : PagesHaveKinds
kind_of_code_fault code.NoRows place = refl
kind_of_code_fault code.NoMemory place = refl
kind_of_code_fault code.BadCode place = refl
kind_of_code_fault code.Truncated place = refl
kind_of_code_fault code.RunTooLong place = refl
kind_of_code_fault code.Backwards place = refl
kind_of_code_fault code.PastEnd place = refl
kind_of_code_fault code.EmptyHorizontal place = refl
kind_of_code_fault code.Extension place = refl
kind_of_code_fault code.MissingEofb place = refl
kind_of_code_fault code.TooManyCodedRows place = refl

pub words_of_kind : BareWords
words_of_kind BadHeader known bare = rw bare.0 refl
words_of_kind Io known bare = rw bare.1 refl
words_of_kind BadCode known bare = rw bare.2 refl
words_of_kind BadLine known bare = rw bare.3 refl
words_of_kind kind known bare = refl
