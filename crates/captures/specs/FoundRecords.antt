-- The pages in a capture, and what is missing of others, as JSON for programs.
use Rattle.std.specs.Prelude.{ℕ, true, ◌-◌, ◌^◌, ◌++◌, List, codes, length, min}
use Rattle.std.specs.Fmt.{decimal}
use Rattle.raster.specs.Pages.{PagePixels}
use Rattle.run_tables.specs.Faults.{number_of}
use Rattle.serde_json.specs.Data.{Data, boolean, member, no_members, null, object}
use Rattle.signals.specs.declared.mark.Mark.{Mark}
use Rattle.signals.specs.declared.signal.PageEnd.{PageEnd}
use Rattle.captures.specs.Missing.{lines_word}
use Rattle.captures.specs.PageNumbers.{page_missing}
use Rattle.captures.specs.Texts.{page_end_text}
use Rattle.faults.specs.RecordLines.{count, words}
use Rattle.captures.specs.declared.captured.Captured.{Captured}
use Rattle.captures.specs.declared.numbers.PageNumbers.{PageNumbers}
use Rattle.captures.specs.declared.captured.Captured.TheVariants.{Page, MissingPage, Unread, MissingFrame, MissingBlocks, Unfinished}
use Rattle.captures.specs.declared.captured.Captured.TheVariants.{BlockBeforeDcs, BlockAfterEnd, MissingAfter, UsedNumber}

-- The record of a page that is in a file: `file` its name, `height` in rows, `lines`, `page` its number from 1, `width` in pixels.
abbrev pub stored_record : PageNumbers → PagePixels → Data
stored_record numbers page = object (member (codes "file") (words (codes "page-" ++ (decimal numbers.file ++ codes ".pbm")))
    (member (codes "height") (count (length page.rows))
    (member (codes "lines") (words (lines_word page.fine))
    (member (codes "page") (count numbers.page)
    (member (codes "width") (count page.width) no_members)))))

-- the record of the rows of a page before a gap: that of a page, with `salvaged` true
abbrev pub stored_front_record : PageNumbers → PagePixels → Data
stored_front_record numbers page = object (member (codes "file") (words (codes "page-" ++ (decimal numbers.file ++ codes ".pbm")))
    (member (codes "height") (count (length page.rows))
    (member (codes "lines") (words (lines_word page.fine))
    (member (codes "page") (count numbers.page)
    (member (codes "salvaged") (boolean true)
    (member (codes "width") (count page.width) no_members))))))

-- what is missing of a block, by its own number from 0 and its page's from 1
abbrev pub block_record : List ℕ → ℕ → Mark → Data
block_record what page mark = object (member (codes "block") (count mark.block)
    (member (codes "missing") (words what)
    (member (codes "page") (count page) no_members)))

-- what had to follow under a number that was used, by what the PPS before it said
abbrev pub used_record : ℕ → Mark → PageEnd → Data
used_record page mark said = object (member (codes "after") (words (page_end_text said))
    (member (codes "block") (count mark.block)
    (member (codes "missing") (words (codes "new number"))
    (member (codes "page") (count page) no_members))))

-- The record of what is missing: a page, also one that can't be read (with its bit, 2^64 - 1 at most, and its fault) and one that had to
-- follow (with the end, MPS or EOM, of the page before it), a frame, the blocks before one, the end of a page, or a DCS (with the end, EOM or
-- EOP, after which it must come), or a number that wasn't used (with what the PPS before it said: NULL, MPS or EOM). A page that is there has
-- the empty record.
abbrev pub missing_record : Captured → Data
missing_record (Page mark page) = null
missing_record (MissingPage number) = object (member (codes "missing") (words (codes "page"))
    (member (codes "page") (count (page_missing (MissingPage number))) no_members))
missing_record (Unread mark fault) = object (member (codes "bit") (count (min (2 ^ 64 - 1) fault.place))
    (member (codes "fault") (count (number_of fault.kind))
    (member (codes "missing") (words (codes "page"))
    (member (codes "page") (count (page_missing (Unread mark fault))) no_members))))
missing_record (MissingFrame mark frame) = object (member (codes "block") (count mark.block)
    (member (codes "frame") (count frame)
    (member (codes "missing") (words (codes "frame"))
    (member (codes "page") (count (page_missing (MissingFrame mark frame))) no_members))))
missing_record (MissingBlocks mark) = block_record (codes "blocks before") (page_missing (MissingBlocks mark)) mark
missing_record Unfinished = object (member (codes "missing") (words (codes "end of page")) no_members)
missing_record (BlockBeforeDcs mark) = block_record (codes "DCS") (page_missing (BlockBeforeDcs mark)) mark
missing_record (BlockAfterEnd mark ends) = object (member (codes "after") (words (page_end_text ends))
    (member (codes "block") (count mark.block)
    (member (codes "missing") (words (codes "DCS"))
    (member (codes "page") (count (page_missing (BlockAfterEnd mark ends))) no_members))))
missing_record (MissingAfter page ends) = object (member (codes "after") (words (page_end_text ends))
    (member (codes "missing") (words (codes "page"))
    (member (codes "page") (count (page_missing (MissingAfter page ends))) no_members)))
missing_record (UsedNumber mark said) = used_record (page_missing (UsedNumber mark said)) mark said
