-- What the system's reasons and a wrong code or line are in words, as whole texts, where no file can show it.
use Rattle.std.specs.Prelude.{◌≡◌, [], None, Some, codes}
use Rattle.std.specs.declared.io.ErrorKind.TheVariants as io
use Rattle.faults.specs.Explanations.{line_words, missing_code, other_words, reason_words, try_words}
use Rattle.faults.specs.declared.fault_kind.FaultKind.TheVariants.{BadCode, MissingEofb, Truncated}
use Rattle.page_code.specs.declared.Coding.TheVariants.{OneDim, T6}
use Rattle.raster.specs.declared.packed.Order.TheVariants.{LsbFirst, MsbFirst}

-- The law: why the system refuses a file.
pub record ReasonsByOctets : Type 0 where
  pub quota : reason_words (Some io.QuotaExceeded) ≡ codes "the quota is used up"
  pub large : reason_words (Some io.FileTooLarge) ≡ codes "it would be larger than a file may be"
  pub read_only : reason_words (Some io.ReadOnlyFilesystem) ≡ codes "the file system is read-only"
  pub pipe : reason_words (Some io.BrokenPipe) ≡ codes "what reads the pipe has closed it"
  pub name : reason_words (Some io.InvalidFilename) ≡ codes "the name is too long"
  pub links : reason_words (Some io.FilesystemLoop) ≡ codes "its links lead in a circle"
  pub running : reason_words (Some io.ExecutableFileBusy) ≡ codes "it is a program that is running"
  pub other : reason_words (Some io.TimedOut) ≡ codes "it can't be read or written"
  pub unknown : reason_words None ≡ codes "it can't be read or written"

-- The law: a wrong code or line of which nothing more is known; and what is tried where the first row of a page is refused, but not where a
-- file ends, or another row is refused.
pub record TriesByOctets : Type 0 where
  pub code : missing_code None ≡ codes "no valid code begins here"
  pub line : line_words None ≡ codes "no command of a script, or no count that it takes"
  pub t4_msb : other_words (OneDim, MsbFirst) ≡ codes " (try --order lsb, or --code mmr)"
  pub t4_lsb : other_words (OneDim, LsbFirst) ≡ codes " (try --order msb, or --code mmr)"
  pub t6_msb : other_words (T6, MsbFirst) ≡ codes " (try --order lsb, or --code mh)"
  pub t6_lsb : other_words (T6, LsbFirst) ≡ codes " (try --order msb, or --code mh)"
  pub first_row : try_words BadCode (Some 1) (Some (T6, LsbFirst)) ≡ other_words (T6, LsbFirst)
  pub second_row : try_words BadCode (Some 2) (Some (T6, LsbFirst)) ≡ []
  pub cut : try_words Truncated (Some 1) (Some (T6, LsbFirst)) ≡ []
  pub no_eofb : try_words MissingEofb (Some 1) (Some (T6, LsbFirst)) ≡ []
