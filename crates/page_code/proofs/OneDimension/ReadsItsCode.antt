-- The law of the one-dimensional code.
use Rattle.std.proofs.Common.{◌++◌, length}
use Rattle.page_code.specs.OneDimension.Pages.{ReadsAs, page_words}
use Rattle.page_code.specs.PageCodes.{ReadsItsCode}
use Rattle.page_code.proofs.OneDimension.Laws.{reads_pages_exactly, reads_code}

-- the law of the code
pub reads_its_code : ReadsItsCode (λ width rows. page_words rows) ReadsAs
reads_its_code width rows rest wide some few all = (reads_pages_exactly width (page_words rows ++ rest) rows (length (page_words rows))
    wide).0 (reads_code width rows rest wide some few all)
