-- When the files of a command are apart, and what is said if they aren't.
use Rattle.std.specs.Prelude.{[], List}
use Rattle.command_files.specs.Apart.{AddsFiles, AreApart, NamedFile, SaysFirstTwo}
use Rattle.command_files.specs.declared.files.apart.CommandFile.{CommandFile}
use Rattle.command_files.specs.declared.files.apart.NotApart.{NotApart}

-- the files that are named are apart, each from all others
abbrev pub AreNamedApart : List NamedFile → Type 0
AreNamedApart names = (files : List CommandFile) × AddsFiles names [] files × AreApart files

-- two of the files that are named aren't apart, and this is said of the first two
abbrev pub SaysNotApart : List NamedFile → NotApart → Type 0
SaysNotApart names said = (files : List CommandFile) × AddsFiles names [] files × SaysFirstTwo said files
