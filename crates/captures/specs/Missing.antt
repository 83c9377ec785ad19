-- The pages in a capture, and what is missing of others, in words.
use Rattle.std.specs.Prelude.{ℕ, Bool, true, false, List, [], ◌++◌, codes, length}
use Rattle.std.specs.Fmt.{decimal}
use Rattle.raster.specs.Pages.{PagePixels}
use Rattle.run_tables.specs.Faults.{number_of}
use Rattle.signals.specs.declared.signal.PageEnd.{PageEnd}
use Rattle.captures.specs.PageNumbers.{page_missing}
use Rattle.captures.specs.Texts.{page_end_text}
use Rattle.captures.specs.declared.captured.Captured.{Captured}
use Rattle.captures.specs.declared.numbers.PageNumbers.{PageNumbers}
use Rattle.captures.specs.declared.captured.Captured.TheVariants.{Page, MissingPage, Unread, MissingFrame, MissingBlocks, Unfinished}
use Rattle.captures.specs.declared.captured.Captured.TheVariants.{BlockBeforeDcs, BlockAfterEnd, MissingAfter, UsedNumber}

-- a page by its number from 1
abbrev pub page_words : ℕ → List ℕ
page_words page = codes "page " ++ decimal page

-- a block by its page's number, and its own from 0
abbrev pub block_words : ℕ → ℕ → List ℕ
block_words page block = page_words page ++ (codes " block " ++ decimal block)

-- a block that no DCS went before, after the end of a page
abbrev pub after_words : ℕ → ℕ → PageEnd → List ℕ
after_words page block ends = block_words page block ++ (codes ": no DCS after " ++ (page_end_text ends ++ codes ", so it isn't stored"))

-- a block that had to follow what the PPS before it said, under a number that was used
abbrev pub used_words : ℕ → ℕ → PageEnd → List ℕ
used_words page block said = block_words page block ++ (codes ": its number was used already, so it counts as what follows "
    ++ page_end_text said)

-- a page that had to follow one with this end
abbrev pub following_words : ℕ → PageEnd → List ℕ
following_words page ends = page_words page ++ (codes " is missing: the page before it ended with " ++ page_end_text ends)

-- What is missing of a page in a capture, in words: `page 1 block 0: frame 3 is missing`. The page's number is counted from 1, those of
-- block and frame from 0, as in PPS and FCD.
abbrev pub missing_text : Captured → List ℕ
missing_text (Page mark page) = []
missing_text (MissingPage number) = page_words (page_missing (MissingPage number)) ++ codes " is missing"
missing_text (Unread mark fault) = page_words (page_missing (Unread mark fault))
    ++ (codes ": can't be read, fault " ++ (decimal (number_of fault.kind) ++ (codes " at bit " ++ decimal fault.place)))
missing_text (MissingFrame mark frame) = block_words (page_missing (MissingFrame mark frame)) mark.block
    ++ (codes ": frame " ++ (decimal frame ++ codes " is missing"))
missing_text (MissingBlocks mark) = block_words (page_missing (MissingBlocks mark)) mark.block ++ codes ": the blocks before it are missing"
missing_text Unfinished = codes "a page has no end"
missing_text (BlockBeforeDcs mark) = block_words (page_missing (BlockBeforeDcs mark)) mark.block ++ codes ": no DCS before it"
missing_text (BlockAfterEnd mark ends) = after_words (page_missing (BlockAfterEnd mark ends)) mark.block ends
missing_text (MissingAfter page ends) = following_words (page_missing (MissingAfter page ends)) ends
missing_text (UsedNumber mark said) = used_words (page_missing (UsedNumber mark said)) mark.block said

-- the word for 7.7 or 3.85 lines a millimeter
abbrev pub lines_word : Bool → List ℕ
lines_word true = codes "fine"
lines_word false = codes "standard"

-- A page that is in a file, in words: `page 1: page-1.pbm, 1728 x 2292 pixels, fine lines`: its number, the number of its file, its width
-- and rows, and `fine` or `standard`.
abbrev pub stored_text : PageNumbers → PagePixels → List ℕ
stored_text numbers page = page_words numbers.page ++ (codes ": page-" ++ (decimal numbers.file ++ (codes ".pbm, " ++ (decimal page.width
    ++ (codes " x " ++ (decimal (length page.rows) ++ (codes " pixels, " ++ (lines_word page.fine ++ codes " lines"))))))))

-- the rows of a page before a gap that are in a file, in words: what `stored_text` says, and `, rows before a gap`
abbrev pub stored_front_text : PageNumbers → PagePixels → List ℕ
stored_front_text numbers page = stored_text numbers page ++ codes ", rows before a gap"
