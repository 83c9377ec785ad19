-- What octets are, as far as it decides how they are decoded.
use Rattle.std.specs.Prelude.{ℕ, ◌≡◌, ◌<◌, ◌≤◌, ◌⊎◌, List, [], ◌∷◌, ◌++◌, Option, Some, None, All, IsTrue, codes, find, nat_eq, not}
use Rattle.std.specs.List.{filter}
use Rattle.page_code.specs.declared.Coding.{Coding}
use Rattle.page_code.specs.declared.Coding.TheVariants.{OneDim, T6}
use Rattle.raster.specs.declared.packed.Order.{Order}
use Rattle.raster.specs.declared.packed.Order.TheVariants.{LsbFirst, MsbFirst}
use Rattle.page_files.specs.Identified.{AreTried, AreTwoDim, IsAgreed, IsWay, ReadsTo, fits_one, format_line, format_of, identity_of, least_lines}
use Rattle.page_files.specs.Identified.{tried_line, tried_widths}
use Rattle.page_files.specs.declared.found.Found.{Found}
use Rattle.page_files.specs.declared.found.SaidWidths.{SaidWidths}
use Rattle.page_files.specs.declared.found.Found.TheVariants as found
use Rattle.page_files.specs.declared.identify.Fit.TheVariants.{Whole, NoEofb, Early, Mended, Begun}
use Rattle.page_files.specs.declared.identify.Identity.{Identity}
use Rattle.page_files.specs.declared.identify.Identity.TheVariants.{Known, Several, Nothing}
use Rattle.page_files.specs.declared.identify.Said.{Said}
use Rattle.page_files.specs.declared.identify.Tried.{Tried}

-- the first way, or the other one if there is none
abbrev pub or_way : Option Tried → Option Tried → Option Tried
or_way None other = other
or_way (Some one) other = Some one

-- the best way in which octets read as a page: one that ends with them, or of which only EOFB is missing, or with octets after it, or by
-- `decode --repair`
abbrev pub best_of : List ℕ → List Tried → Option Tried
best_of octets tried = or_way (find (fits_one Whole octets) tried) (or_way (find (fits_one NoEofb octets) tried)
    (or_way (find (fits_one Early octets) tried) (find (fits_one Mended octets) tried)))

-- what octets say in this order of bits
abbrev pub said_in : Order → Said → Option ℕ
said_in MsbFirst said = said.msb
said_in LsbFirst said = said.lsb

-- the least rows by which damaged octets, which say these widths, are known in a code
abbrev pub least_rows : SaidWidths → Coding → Order → ℕ
least_rows said OneDim order = least_lines (said_in order said.own) (said_in order said.two)
least_rows said T6 order = 1

-- the way is one in this code in which octets begin with rows, not too few, and read to no page's end
abbrev pub HasBegun : Coding → SaidWidths → List ℕ → Tried → Type 0
HasBegun coding said octets one =
    (one.form.coding ≡ coding) × IsTrue (fits_one Begun octets one) × (least_rows said coding one.form.order ≤ one.rows)

-- Of the ways in this code in which octets begin so, this one reads the most rows: no other one reads more, and none before it as
-- many.
pub record ReadsMost (coding : Coding) (said : SaidWidths) (octets : List ℕ) (tried : List Tried) (one : Tried) : Type 0 where
  pub before : List Tried
  pub after : List Tried
  pub among : tried ≡ before ++ one ∷ after
  pub begun : HasBegun coding said octets one
  pub most : All (λ other. HasBegun coding said octets other → other.rows ≤ one.rows) tried
  pub first : All (λ other. HasBegun coding said octets other → other.rows < one.rows) before

-- in no way in this code octets begin so
abbrev pub NoneHasBegun : Coding → SaidWidths → List ℕ → List Tried → Type 0
NoneHasBegun coding said octets tried = All (λ other. ¬ HasBegun coding said octets other) tried

-- the way in this code that reads the most rows, if there is one
abbrev pub IsMost : Coding → SaidWidths → List ℕ → List Tried → Option Tried → Type 0
IsMost coding said octets tried (Some one) = ReadsMost coding said octets tried one
IsMost coding said octets tried None = NoneHasBegun coding said octets tried

-- the way in which damaged octets read furthest if no lines of T.4 agree on a width: that of T.4 that reads the most rows; or else that of
-- T.6, since any octets have a few rows of T.6 by chance
abbrev pub IsFurthest : SaidWidths → List ℕ → List Tried → Option Tried → Type 0
IsFurthest said octets tried most = ((one : Tried) × ReadsMost OneDim said octets tried one × (most ≡ Some one))
    ⊎ (NoneHasBegun OneDim said octets tried × IsMost T6 said octets tried most)

-- the way in which damaged octets are read: in the width on which lines of T.4 agree, if they do, or else the one in which they read furthest
abbrev pub IsDamaged : SaidWidths → List ℕ → List Tried → Option Tried → Option Tried → Type 0
IsDamaged said octets tried None way = IsFurthest said octets tried way
IsDamaged said octets tried (Some one) way = way ≡ Some one

-- the way in a width on which lines of T.4 agree counts only for octets that are nothing known
abbrev pub IsAgreedBy : Identity → List ℕ → List ℕ → Option Tried → Type 0
IsAgreedBy (Nothing fault) widths octets agreed = IsAgreed widths octets agreed
IsAgreedBy Known widths octets agreed = agreed ≡ None
IsAgreedBy Several widths octets agreed = agreed ≡ None

-- What octets are that begin as no known format, by the best way in which they read as a page, and the one in which they are read if they
-- are no page.
abbrev pub found_by : Identity → Option Tried → Option Tried → Found
found_by Known (Some one) damaged = found.Page one
found_by Known None damaged = found.Nothing
found_by Several best damaged = found.Several
found_by (Nothing fault) best (Some one) = found.Begun one
found_by (Nothing fault) best None = found.Nothing

-- it is a format of this name
abbrev pub IsFormat : List ℕ → Found → Type 0
IsFormat name (found.Format given) = given.now ≡ name
IsFormat name (found.Page one) = ⊥
IsFormat name (found.Begun one) = ⊥
IsFormat name found.Several = ⊥
IsFormat name found.Nothing = ⊥

-- they were tried in all ways in these widths, and are what these say
pub record IsBest (widths : List ℕ) (octets : List ℕ) (what : Found) : Type 0 where
  pub tried : List Tried
  pub own : Said
  pub are_tried : AreTried widths octets tried own
  pub two : Said
  pub are_two : AreTwoDim octets two.msb two.lsb
  pub agreed : Option Tried
  pub is_agreed : IsAgreedBy (identity_of None octets tried) widths octets agreed
  pub damaged : Option Tried
  pub is_damaged : IsDamaged (record { own = own; two = two }) octets tried agreed damaged
  pub found_is : what ≡ found_by (identity_of None octets tried) (best_of octets tried) damaged

-- what octets are: the format that they begin as, or what the ways in which they read in these widths say
abbrev pub FindsIn : List ℕ → List ℕ → Found → Type 0
FindsIn widths octets what = ((name : List ℕ) × (format_of octets ≡ Some name) × IsFormat name what)
    ⊎ ((format_of octets ≡ None) × IsBest widths octets what)

-- what octets are, as `identify` says it
abbrev pub Finds : List ℕ → Found → Type 0
Finds octets what = FindsIn tried_widths octets what

-- those widths that aren't this one
abbrev pub others : ℕ → List ℕ → List ℕ
others width widths = filter (λ other. not (nat_eq other width)) widths

-- the widths that are tried if one is likely: that one first
abbrev pub widths_from : ℕ → List ℕ
widths_from width = width ∷ others width tried_widths

-- octets that several ways read are a page in the best way of the likely width; if no way of this width reads, the width isn't known
abbrev pub page_or_several : Option Tried → Found
page_or_several (Some one) = found.Page one
page_or_several None = found.Several

-- what octets are that are this by the ways in all widths: only where several ways read, the likely width decides
abbrev pub IsChosen : ℕ → List ℕ → Found → Found → Type 0
IsChosen width octets found.Several what = (tried : List Tried) × (own : Said) × AreTried (width ∷ []) octets tried own
    × (what ≡ page_or_several (best_of octets tried))
IsChosen width octets (found.Format name) what = what ≡ found.Format name
IsChosen width octets (found.Page one) what = what ≡ found.Page one
IsChosen width octets (found.Begun one) what = what ≡ found.Begun one
IsChosen width octets found.Nothing what = what ≡ found.Nothing

-- What octets are if a width is likely, or none. The likely width is tried first, so of damaged octets that read equally far in several
-- widths it is theirs. It may be one that isn't tried otherwise.
abbrev pub FindsBy : Option ℕ → List ℕ → Found → Type 0
FindsBy None octets what = Finds octets what
FindsBy (Some width) octets what = (all : Found) × FindsIn (widths_from width) octets all × IsChosen width octets all what

-- the line of what octets are, as `identify` writes it
abbrev pub found_line : List ℕ → Found → List ℕ
found_line octets (found.Format name) = format_line (Some name.now)
found_line octets (found.Page one) = tried_line octets one
found_line octets (found.Begun one) = tried_line octets one
found_line octets found.Several = codes "the width is not known\n"
found_line octets found.Nothing = []

-- a page reads as far as its way says
abbrev pub ReadsSo : List ℕ → Found → Type 0
ReadsSo octets (found.Page one) = ReadsTo octets one.form one.rows one.end
ReadsSo octets what = Unit {0}

-- the width of a page, also of a damaged one, is one that pages have
abbrev pub HasItsWidth : Found → Type 0
HasItsWidth (found.Page one) = IsWay one
HasItsWidth (found.Begun one) = IsWay one
HasItsWidth what = Unit {0}
