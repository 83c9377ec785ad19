-- Which files are one, how many octets an image has, and what the system says of a descriptor: each example is computed.
use Rattle.std.proofs.Common.{◌≡◌, ◌+◌, ◌*◌, ◌∙◌, ℕ, ap, refl}
use Rattle.std.specs.Fmt.{digits}
use Rattle.std.specs.Prelude.{length}
use Rattle.raster.specs.Pages.{PagePixels}
use Rattle.raster.specs.Pbm.{stride}
use Rattle.raster.specs.PbmText.{header_text}
use Rattle.command_files.specs.Bounds.{image_octets}
use Rattle.command_files.specs.FileRows.{FilesAreOne, NumbersAreFound, SizesByNumber, WordsAreOfFiles}

-- how many octets an image has, by its page's width and number of rows
image_is : (page : PagePixels) (width rows : ℕ) → page.width ≡ width → length page.rows ≡ rows →
    image_octets page ≡ length (header_text width rows) + stride width * rows
image_is page width rows wide high =
    ap (λ (n : ℕ). length (header_text n (length page.rows)) + stride n * length page.rows) wide ∙
    ap (λ (n : ℕ). length (header_text width n) + stride width * n) high

pub files_are_one : FilesAreOne
unfolding digits
files_are_one = record {
  same = refl;
  other_number = refl;
  other_device = refl;
  bits = refl;
  no_bits = refl;
  diagram = refl;
  print = refl;
}

pub sizes_by_number : SizesByNumber
unfolding digits
sizes_by_number = record {
  two_rows = λ page wide high. image_is page 1728 2 wide high;
  filled = λ page wide high. image_is page 315 30 wide high;
  begins = refl;
  plain = refl;
  one_octet = refl;
  none = refl;
  at_place = refl;
  at_end = refl;
  room = refl;
  full = refl;
  no_limit = refl;
  fits = refl;
  past = refl;
}

pub numbers_are_found : NumbersAreFound
unfolding digits
numbers_are_found = record {
  place = refl;
  flags = refl;
  last = refl;
  no_label = refl;
  no_number = refl;
  largest = refl;
}

pub words_are_of_files : WordsAreOfFiles
unfolding digits
words_are_of_files = record {
  of_line = refl;
  of_bit = refl;
  of_memory = refl;
  of_other = refl;
  of_none = refl;
  read = refl;
  written = refl;
  drawn = refl;
  told = refl;
  named = refl;
}
