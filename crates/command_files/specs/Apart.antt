-- Which files a command has, and which of them aren't apart.
use Rattle.std.specs.Prelude.{◌≡◌, ◌++◌, ◌&&◌, ◌||◌, ◌∷◌, [], ℕ, Bool, false, true, List, Option, None, Some, nat_eq, map, codes, string_bytes}
use Rattle.std.specs.Str.{bytes_eq}
use Rattle.command_files.specs.declared.files.apart.CommandFile.{CommandFile}
use Rattle.command_files.specs.declared.files.apart.Identity.{Identity}
use Rattle.command_files.specs.declared.files.apart.Identity.TheVariants.{File, New}
use Rattle.command_files.specs.declared.files.apart.NotApart.{NotApart}

-- Two names lead to one place: to a file or a pipe of the same device and number, or to a new file of the same name in the same folder. A
-- device, a socket and a folder are never written over.
abbrev pub is_same : Identity → Identity → Bool
is_same (File device number) (File other_device other_number) = nat_eq device other_device && nat_eq number other_number
is_same (New device number last) (New other_device other_number other_last) =
    nat_eq device other_device && (nat_eq number other_number && bytes_eq (string_bytes last) (string_bytes other_last))
is_same _ _ = false

-- a file is standard output
abbrev pub is_printed : CommandFile → Bool
is_printed file = file.is_written && bytes_eq (string_bytes file.name) (codes "-")

-- two files are both standard output
abbrev pub are_both_printed : CommandFile → CommandFile → Bool
are_both_printed one other = is_printed one && is_printed other

-- two files of a command aren't apart: one of them is written, and they are one place, or both are standard output
abbrev pub are_one : CommandFile → CommandFile → Bool
are_one one other = (one.is_written || other.is_written) && (are_both_printed one other || is_same one.identity other.identity)

-- a file is apart from each of these
abbrev pub IsApartFrom : CommandFile → List CommandFile → Type 0
IsApartFrom file [] = Unit {0}
IsApartFrom file (other ∷ others) = (are_one file other ≡ false) × IsApartFrom file others

-- any two of the files are apart
abbrev pub AreApart : List CommandFile → Type 0
AreApart [] = Unit {0}
AreApart (file ∷ files) = IsApartFrom file files × AreApart files

-- ---- the first two that aren't apart

-- the first of these files that isn't apart from a file
pub record IsFirstLike (file other : CommandFile) (files : List CommandFile) : Type 0 where
  pub before : List CommandFile
  pub after : List CommandFile
  pub split : files ≡ before ++ other ∷ after
  pub apart : IsApartFrom file before
  pub one : are_one file other ≡ true

-- each of the files that come first is apart from those after it, and from all that are left
abbrev pub AreApartBefore : List CommandFile → List CommandFile → Type 0
AreApartBefore [] left = Unit {0}
AreApartBefore (file ∷ before) left = IsApartFrom file (before ++ left) × AreApartBefore before left

-- a file isn't apart from another one after it, and those before it are apart from all that come after them
pub record AreFirstTwo (one other : CommandFile) (files : List CommandFile) : Type 0 where
  pub before : List CommandFile
  pub after : List CommandFile
  pub split : files ≡ before ++ one ∷ after
  pub apart : AreApartBefore before (one ∷ after)
  pub like : IsFirstLike one other after

-- what is said of the first two that aren't apart
abbrev pub SaysFirstTwo : NotApart → List CommandFile → Type 0
SaysFirstTwo said files = (one other : CommandFile) × AreFirstTwo one other files × (said.one ≡ one.role) × (said.other ≡ other.role)
    × (said.are_printed ≡ are_both_printed one other)

-- ---- which files a command has

-- a file as a command names it: what its words call it, its name, and whether it is written
pub record NamedFile : Type 0 where
  pub role : List ℕ
  pub name : List ℕ
  pub is_written : Bool

-- a file that is only read, with its role and its name
abbrev pub read_as : List ℕ → List ℕ → NamedFile
read_as role name = record { role = role; name = name; is_written = false }

-- a file that is written
abbrev pub written_as : List ℕ → List ℕ → NamedFile
written_as role name = record { role = role; name = name; is_written = true }

-- a file that is written, if it has a name
abbrev pub may_be_written : List ℕ → Option (List ℕ) → List NamedFile
may_be_written role None = []
may_be_written role (Some name) = written_as role name ∷ []

-- what is printed
abbrev pub printed : NamedFile
printed = written_as (codes "what is printed") (codes "-")

-- a file of a call's octets in the folder of `--bits`
abbrev pub octets_in : List ℕ → List ℕ → NamedFile
octets_in folder name = written_as (codes "a file of --bits") (folder ++ (codes "/" ++ name))

-- the files of a call's octets, one of what each station sent, if their folder is named
abbrev pub bits_in : Option (List ℕ) → List NamedFile
bits_in None = []
bits_in (Some folder) = octets_in folder (codes "to-answerer.bits") ∷ octets_in folder (codes "to-caller.bits") ∷ []

-- a file of a command, as it was named
abbrev pub named : CommandFile → NamedFile
named file = record { role = file.role.now; name = string_bytes file.name; is_written = file.is_written }

-- the files that are named come after the others, in this order
abbrev pub AddsFiles : List NamedFile → List CommandFile → List CommandFile → Type 0
AddsFiles names old new = (files : List CommandFile) × (map named files ≡ names) × (new ≡ old ++ files)
