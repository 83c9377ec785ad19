-- The numbers of captured pages and of the files that they go to.
use Rattle.std.specs.Prelude.{ℕ, ◌+◌, ◌-◌, ◌^◌, max, min}
use Rattle.captures.specs.declared.captured.Captured.{Captured}
use Rattle.captures.specs.declared.captured.Captured.TheVariants.{Page, MissingPage, Unread, MissingFrame, MissingBlocks, Unfinished}
use Rattle.captures.specs.declared.captured.Captured.TheVariants.{BlockBeforeDcs, BlockAfterEnd, MissingAfter, UsedNumber}
use Rattle.captures.specs.declared.numbers.PageNumbers.{PageNumbers}

-- the next number, 2^64 - 1 at most
abbrev pub after : ℕ → ℕ
after number = min (number + 1) (2 ^ 64 - 1)

-- the first number that the file of the page found last may have: the page's own, or the one after the last file if that is greater
abbrev pub file_from : PageNumbers → ℕ
file_from numbers = max numbers.page (after numbers.file)

-- the number of a page of which something is missing: one more than the number in its PPS; 0 if it isn't known
abbrev pub page_missing : Captured → ℕ
page_missing (Page mark page) = 0
page_missing (MissingPage number) = number + 1
page_missing (Unread mark fault) = mark.page + 1
page_missing (MissingFrame mark frame) = mark.page + 1
page_missing (MissingBlocks mark) = mark.page + 1
page_missing Unfinished = 0
page_missing (BlockBeforeDcs mark) = mark.page + 1
page_missing (BlockAfterEnd mark ends) = mark.page + 1
page_missing (MissingAfter page ends) = page + 1
page_missing (UsedNumber mark said) = mark.page + 1
