-- Which files are one, how many octets an image has, where a file is written next, and what the system says of a descriptor, by examples.
use Rattle.std.specs.Prelude.{ℕ, ◌≡◌, ◌^◌, ◌-◌, ◌∷◌, [], Bool, true, false, List, Option, Some, None, codes, length}
use Rattle.raster.specs.Pages.{PagePixels}
use Rattle.faults.specs.declared.fault.ToolFault.TheVariants.{AtBit, AtLine, No}
use Rattle.command_files.specs.Apart.{NamedFile, bits_in, is_same, may_be_written, printed}
use Rattle.command_files.specs.Bounds.{begins_image, image_octets, next_place, passes, room_below}
use Rattle.command_files.specs.SystemTexts.{number_after}
use Rattle.command_files.specs.Told.{name_shown, part_of}
use Rattle.command_files.specs.declared.context.Part.TheVariants.{Diagram, Input, Output, Printed, Script, Trace}
use Rattle.command_files.specs.declared.files.apart.Identity.TheVariants.{File}

-- law: two names of a file are one file if its device and its number are, and which files a call has in the folder of `--bits`
pub record FilesAreOne : Type 0 where
  pub same : is_same (File 8 131) (File 8 131) ≡ true
  pub other_number : is_same (File 8 131) (File 8 132) ≡ false
  pub other_device : is_same (File 8 131) (File 9 131) ≡ false
  pub bits : bits_in (Some (codes "d"))
      ≡ record { role = codes "a file of --bits"; name = codes "d/to-answerer.bits"; is_written = true }
      ∷ record { role = codes "a file of --bits"; name = codes "d/to-caller.bits"; is_written = true } ∷ []
  pub no_bits : bits_in None ≡ []
  pub diagram : may_be_written (codes "--diagram") (Some (codes "a"))
      ≡ record { role = codes "--diagram"; name = codes "a"; is_written = true } ∷ []
  pub print : printed ≡ record { role = codes "what is printed"; name = codes "-"; is_written = true }

-- an image has this number of octets (the last), by its page's width and number of rows
abbrev HasOctets : ℕ → ℕ → ℕ → Type 0
HasOctets width rows octets = (page : PagePixels) → page.width ≡ width → length page.rows ≡ rows → image_octets page ≡ octets

-- law: the octets of images, their headers with them; how an image begins; and where a file is written, below its greatest size
pub record SizesByNumber : Type 0 where
  -- `P4`, LF, `1728 2`, LF are 10 octets, and a row has 216
  pub two_rows : HasOctets 1728 2 442
  -- a row of 315 pixels has 40 octets, the last of them filled
  pub filled : HasOctets 315 30 1210
  pub begins : begins_image (codes "P4\n") ≡ true
  pub plain : begins_image (codes "P1\n") ≡ false
  pub one_octet : begins_image (codes "P") ≡ true
  pub none : begins_image [] ≡ true
  pub at_place : next_place 100 7 2 ≡ 7
  pub at_end : next_place 100 7 1025 ≡ 100
  pub room : room_below (Some 100) 40 ≡ Some 60
  pub full : room_below (Some 100) 140 ≡ Some 0
  pub no_limit : room_below None 40 ≡ None
  pub fits : passes (Some 3) (1 ∷ 2 ∷ 3 ∷ []) ≡ false
  pub past : passes (Some 2) (1 ∷ 2 ∷ 3 ∷ []) ≡ true

-- law: the numbers in what the system says of a descriptor (`fdinfo` of Linux), flags to the base 8
pub record NumbersAreFound : Type 0 where
  pub place : number_after (codes "pos:") 10 (codes "pos:\t4096\nflags:\t0102001\nmnt_id:\t29\n") ≡ Some 4096
  pub flags : number_after (codes "flags:") 8 (codes "pos:\t4096\nflags:\t0102001\nmnt_id:\t29\n") ≡ Some 33793
  pub last : number_after (codes "mnt_id:") 10 (codes "pos:\t4096\nflags:\t0102001\nmnt_id:\t29\n") ≡ Some 29
  pub no_label : number_after (codes "ino:") 10 (codes "pos:\t4096\n") ≡ None
  pub no_number : number_after (codes "pos:") 10 (codes "pos: unlimited") ≡ None
  pub largest : number_after (codes "pos:") 10 (codes "pos: 18446744073709551616") ≡ Some (2 ^ 64 - 1)

-- law: which file a fault is about, and what `-` is called
pub record WordsAreOfFiles : Type 0 where
  pub of_line : part_of (AtLine 3) None None ≡ Script
  pub of_bit : part_of (AtBit 10 3) None (Some Trace) ≡ Input
  pub of_memory : part_of (No 9) None (Some Trace) ≡ Trace
  pub of_other : part_of (No 26) None (Some Trace) ≡ Input
  pub of_none : part_of (No 8) None None ≡ Input
  pub read : name_shown (codes "-") Input ≡ codes "standard input"
  pub written : name_shown (codes "-") Output ≡ codes "standard output"
  pub drawn : name_shown (codes "-") Diagram ≡ codes "standard output"
  pub told : name_shown (codes "-") Printed ≡ codes "standard output"
  pub named : name_shown (codes "a") Output ≡ codes "a"
