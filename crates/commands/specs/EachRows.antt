-- What `decode --each` says and writes, by whole lines, records and names, as its guides show them.
use Rattle.std.specs.Prelude.{ℕ, ◌≡◌, ◌++◌, ◌∷◌, [], Bool, true, false, List, Option, Some, None, codes}
use Rattle.serde_json.specs.Data.{Data, boolean, member, no_members, null, object}
use Rattle.faults.specs.RecordLines.{count, words}
use Rattle.faults.specs.declared.fault.ToolFault.{ToolFault}
use Rattle.faults.specs.declared.fault.ToolFault.TheVariants as fault
use Rattle.page_code.specs.declared.Coding.TheVariants.{OneDim, T6}
use Rattle.page_files.specs.Unread.{rows_line}
use Rattle.page_files.specs.declared.no_eols.NoEols.{NoEols}
use Rattle.page_files.specs.declared.options.PageForm.{PageForm}
use Rattle.raster.specs.declared.packed.Order.TheVariants.{LsbFirst, MsbFirst}
use Rattle.commands.specs.Damaged.{is_page_in}
use Rattle.commands.specs.Each.{each_text, file_record, rows_words}
use Rattle.commands.specs.Listed.{end_octet, without_end}
use Rattle.commands.specs.Names.{shown_name, untold_name}
use Rattle.commands.specs.PageFacts.{page_record}
use Rattle.commands.specs.Pages.{broken_line, file_end, may_go_on}
use Rattle.commands.specs.Places.{has_left_out, page_name, place_under}
use Rattle.commands.specs.declared.decode.each.pages.Next.{Next}
use Rattle.commands.specs.declared.decode.each.pages.Next.TheVariants as next
use Rattle.commands.specs.declared.decode.each.pages.PageEnd.{PageEnd}
use Rattle.commands.specs.declared.decode.each.pages.PageEnd.TheVariants as page
use Rattle.commands.specs.declared.decode.ends.FileEnd.{FileEnd}
use Rattle.commands.specs.declared.decode.ends.FileEnd.TheVariants as file

-- ---- lines

-- of a file `a` with images and this end, of whose pages nothing is reported, this is said
abbrev IsLine : FileEnd → List ℕ → Type 0
IsLine end line = each_text (codes "a") end [] true None ≡ line

-- law: the line of a file, by its end
pub record LinesByEnd : Type 0 where
  pub whole : IsLine (file.Whole 2) (codes "a: whole 2 pages\n")
  pub no_end : IsLine (file.NoEnd 1) (codes "a: 1 pages, and one or more has no end\n")
  pub mended : IsLine (file.Mended 3) (codes "a: 3 pages, and one or more is damaged\n")
  pub more : IsLine (file.More 10000) (codes "a: 10000 pages, and more follow that weren't asked for\n")
  pub repaired : IsLine (file.Repaired 4 12 true) (codes "a: repaired 12 rows of page 4\n")
  pub unsought : IsLine (file.Repaired 4 12 false) (codes "a: repaired 12 rows of page 4; a page after it is not looked for\n")
  pub cut : IsLine (file.Cut 2 41 (fault.AtBit 17 4010) true) (codes "a: cut at row 41 of page 2: fault 17 at bit 4010\n")
  pub lost : IsLine (file.Lost 3 (fault.AtBit 12 7) false)
      (codes "a: page 3 is not read: fault 12 at bit 7; a page after it is not looked for\n")
  pub not_written : IsLine (file.NotWritten 5 (fault.No 8)) (codes "a: page 5 is not written: fault 8\n")
  pub two_dims : IsLine file.TwoDims (codes "a: not read: T.4 in two dimensions (MR)\n")
  pub no_eols : IsLine (file.NoEols (record { order = LsbFirst; width = 1728; rows = 12 }))
      (codes "a: T.4 without EOLs (TIFF compression 2), least significant bit first, width 1728, 12 rows: not read; try tiffcp -c g4 on its TIFF\n")
  pub as_identify : (said : NoEols) → rows_words said ++ codes "\n" ≡ rows_line said
  pub no_width : IsLine file.NoWidth (codes "a: the width is not known: identify names several; give one of them by --width\n")
  pub nothing : IsLine file.Nothing (codes "a: not read: identify may tell what it is\n")
  pub failed : IsLine (file.Failed (fault.No 32)) (codes "a: fault 32\n")

-- law: the lines under a file's own, in their order: those of its pages, what its images' names leave out, and its fault's words
pub record LinesBelow : Type 0 where
  pub told : each_text (codes "b") (file.NoEnd 1) (codes "page 1: the page ends without its RTC after 23 rows\n") true None
      ≡ codes "b: 1 pages, and one or more has no end\n    page 1: the page ends without its RTC after 23 rows\n"
  pub left_out : each_text (codes "../b") (file.Whole 1) [] true None
      ≡ codes "../b: whole 1 pages\n    the names of its images have no leading / and no ..\n"
  pub no_image : each_text (codes "../b") file.Nothing [] false None ≡ codes "../b: not read: identify may tell what it is\n"
  pub words : each_text (codes "b") (file.Failed (fault.No 8)) [] false (Some (codes "b: no such file or folder"))
      ≡ codes "b: fault 8\n    b: no such file or folder\n"
  pub all : each_text (codes "/b") (file.NotWritten 2 (fault.No 8)) (codes "page 1: c\npage 1: d\n") true (Some (codes "e"))
      ≡ codes "/b: page 2 is not written: fault 8\n    page 1: c\n    page 1: d\n    the names of its images have no leading / and no ..\n    e\n"
  pub cut_before : broken_line 1 (page.Cut 30 (fault.AtBit 11 2504)) ≡ codes "page 1: cut at row 30: fault 11 at bit 2504\n"
  pub lost_before : broken_line 2 (page.Lost (fault.No 9)) ≡ codes "page 2: not read: fault 9\n"
  pub read_before : broken_line 2 page.NoEofb ≡ []

-- ---- names

-- the image of page 1 of a file of this name under the folder `out` has this name
abbrev IsImageOf : List ℕ → List ℕ → Type 0
IsImageOf name image = page_name (place_under (codes "out") name) 1 ≡ image

-- law: the image of a file's page, by the file's name; and its number, which has four digits, or more if it needs them
pub record ImagesByName : Type 0 where
  pub own_place : IsImageOf (codes "in/a/1.fax") (codes "out/in/a/1.fax-0001.pbm")
  pub of_root : IsImageOf (codes "/in/1") (codes "out/in/1-0001.pbm")
  pub of_above : IsImageOf (codes "../in/./1") (codes "out/in/1-0001.pbm")
  pub standard : IsImageOf (codes "-") (codes "out/stdin-0001.pbm")
  pub dots : IsImageOf (codes "..1") (codes "out/..1-0001.pbm")
  pub nine : page_name (codes "p") 9 ≡ codes "p-0009.pbm"
  pub ten : page_name (codes "p") 10 ≡ codes "p-0010.pbm"
  pub hundred : page_name (codes "p") 100 ≡ codes "p-0100.pbm"
  pub thousand : page_name (codes "p") 1000 ≡ codes "p-1000.pbm"
  pub most : page_name (codes "p") 10000 ≡ codes "p-10000.pbm"
  pub root_is_left : has_left_out (codes "/a") ≡ true
  pub above_is_left : has_left_out (codes "a/../b") ≡ true
  pub here_is_not : has_left_out (codes "./a") ≡ false
  pub dots_are_not : has_left_out (codes "..a/b") ≡ false

-- law: a file's name on a line, and what a list's name is
pub record NamesByOctets : Type 0 where
  pub plain : shown_name (codes "a b") ≡ codes "a b"
  pub line_feed : shown_name (codes "a\nb") ≡ codes "a\\x0ab"
  pub backslash : shown_name (codes "a\\b") ≡ codes "a\\\\b"
  pub delete : shown_name (127 ∷ []) ≡ codes "\\x7f"
  pub control : shown_name (0xC2 ∷ 0x85 ∷ []) ≡ codes "\\xc2\\x85"
  pub letter : shown_name (0xC3 ∷ 0xA9 ∷ []) ≡ 0xC3 ∷ 0xA9 ∷ []
  pub latin : shown_name (untold_name (97 ∷ 0xE9 ∷ [])) ≡ codes "a\\xe9"
  pub by_lines : without_end (codes "a\n") (end_octet false) ≡ codes "a"
  pub last : without_end (codes "a") (end_octet false) ≡ codes "a"
  pub by_null : without_end (97 ∷ 10 ∷ 0 ∷ []) (end_octet true) ≡ 97 ∷ 10 ∷ []
  pub empty : without_end [] (end_octet true) ≡ []

-- ---- ends

-- law: the end of a file of three pages by that of the last one: whether one is damaged, whether no line is written of any, and what
-- follows
pub record EndsByPage : Type 0 where
  pub whole : file_end 3 false true page.Read next.Nothing ≡ file.Whole 3
  pub told : file_end 3 false false page.Read next.Nothing ≡ file.NoEnd 3
  pub mended : file_end 3 true true page.Read next.Nothing ≡ file.Mended 3
  pub no_eofb : file_end 3 false false page.NoEofb next.Nothing ≡ file.NoEnd 3
  pub none_repaired : file_end 3 false true (page.Repaired 0) next.Nothing ≡ file.Whole 3
  pub repaired : file_end 3 true false (page.Repaired 2) next.Nothing ≡ file.Repaired 3 2 true
  pub not_sought : file_end 3 true false (page.Repaired 2) next.Unknown ≡ file.Repaired 3 2 false
  pub cut : file_end 3 true false (page.Cut 5 (fault.AtBit 10 77)) next.Unknown ≡ file.Cut 3 5 (fault.AtBit 10 77) false
  pub cut_last : file_end 3 true false (page.Cut 5 (fault.AtBit 10 77)) next.Nothing ≡ file.Cut 3 5 (fault.AtBit 10 77) true
  pub lost : file_end 3 true true (page.Lost (fault.AtBit 18 3)) next.Unknown ≡ file.Lost 3 (fault.AtBit 18 3) false
  pub not_written : file_end 3 true true (page.NotWritten (fault.No 8)) next.Unknown ≡ file.NotWritten 3 (fault.No 8)
  pub after_read : may_go_on false page.Read ≡ true
  pub after_cut : may_go_on false (page.Cut 5 (fault.AtBit 10 77)) ≡ false
  pub after_mended : may_go_on true (page.Cut 5 (fault.AtBit 10 77)) ≡ true
  pub after_lost : may_go_on true (page.Lost (fault.AtBit 18 3)) ≡ true
  pub after_unwritten : may_go_on true (page.NotWritten (fault.No 8)) ≡ false

-- law: how many rows make octets a damaged page, which is decoded: of T.4, which is known by its lines, none; of T.6, which come by chance, 16
pub record RowsAreEnough : Type 0 where
  pub none : is_page_in OneDim 0 ≡ true
  pub one : is_page_in OneDim 1 ≡ true
  pub by_chance : is_page_in T6 15 ≡ false
  pub beyond : is_page_in T6 16 ≡ true

-- ---- records

-- a page of T.4 of 315 pixels a row
abbrev of_t4 : PageForm
of_t4 = record { coding = OneDim; order = MsbFirst; width = 315; fine = false }

-- a page of T.6 of 1,728 pixels a row
abbrev of_t6 : PageForm
of_t6 = record { coding = T6; order = LsbFirst; width = 1728; fine = true }

-- the fields of a page's record, but its image's name
record PageFields : Type 0 where
  bit : Data
  bits : Data
  code : List ℕ
  fault : Data
  lines : List ℕ
  missing_end : Bool
  order : List ℕ
  repaired : ℕ
  rows : ℕ
  salvaged : Bool
  width : ℕ

-- the record of these fields, whose page has no image: its members are in the order of their names
abbrev record_of : PageFields → Data
record_of f = object (member (codes "bit") f.bit (member (codes "bits") f.bits (member (codes "code") (words f.code)
    (member (codes "fault") f.fault (member (codes "lines") (words f.lines) (member (codes "missing_end") (boolean f.missing_end)
    (member (codes "order") (words f.order) (member (codes "out") null (member (codes "repaired") (count f.repaired)
    (member (codes "rows") (count f.rows) (member (codes "salvaged") (boolean f.salvaged)
    (member (codes "width") (count f.width) no_members))))))))))))

-- law: the records of pages without an image, and of files
pub record PagesByRecords : Type 0 where
  pub read : page_record of_t4 (record { end = page.Read; out = None; rows = 30; bits = Some 7689; lacks_end = false })
      ≡ record_of (record {
        bit = null;
        bits = count 7689;
        code = codes "mh";
        fault = null;
        lines = codes "standard";
        missing_end = false;
        order = codes "msb";
        repaired = 0;
        rows = 30;
        salvaged = false;
        width = 315;
      })
  pub cut : page_record of_t6 (record { end = page.Cut 41 (fault.AtBit 17 4010); out = None; rows = 40; bits = None; lacks_end = false })
      ≡ record_of (record {
        bit = count 4010;
        bits = null;
        code = codes "mmr";
        fault = count 17;
        lines = codes "fine";
        missing_end = false;
        order = codes "lsb";
        repaired = 0;
        rows = 40;
        salvaged = true;
        width = 1728;
      })
  pub repaired : page_record of_t4 (record { end = page.Repaired 2; out = None; rows = 30; bits = None; lacks_end = true })
      ≡ record_of (record {
        bit = null;
        bits = null;
        code = codes "mh";
        fault = null;
        lines = codes "standard";
        missing_end = true;
        order = codes "msb";
        repaired = 2;
        rows = 30;
        salvaged = false;
        width = 315;
      })
  pub unwritten : page_record of_t4 (record { end = page.NotWritten (fault.No 8); out = None; rows = 0; bits = None; lacks_end = false })
      ≡ record_of (record {
        bit = null;
        bits = null;
        code = codes "mh";
        fault = count 8;
        lines = codes "standard";
        missing_end = false;
        order = codes "msb";
        repaired = 0;
        rows = 0;
        salvaged = false;
        width = 315;
      })
  pub plain : file_record (codes "a") (file.Whole 1) [] None ≡ object (member (codes "file") (words (codes "a"))
      (member (codes "is") (words (codes "whole 1 pages")) (member (codes "whole") (boolean true) no_members)))
  pub told : file_record (codes "a") (file.NoEnd 1) (codes "page 1: b\n") None ≡ object (member (codes "file") (words (codes "a"))
      (member (codes "is") (words (codes "1 pages, and one or more has no end")) (member (codes "says") (words (codes "page 1: b\n"))
      (member (codes "whole") (boolean false) no_members))))
  pub failed : file_record (codes "a") (file.Failed (fault.No 8)) [] (Some (codes "a: gone")) ≡ object (member (codes "fault") (count 8)
      (member (codes "file") (words (codes "a")) (member (codes "is") (words (codes "fault 8"))
      (member (codes "whole") (boolean false) (member (codes "words") (words (codes "a: gone")) no_members)))))
