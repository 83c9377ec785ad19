-- What the check asks of `recode`: the page that was read has a row.
use Rattle.uses.proofs.Rows.{has_row}
use Rattle.uses.proofs.pages.recode.Goals as goal

pub encode-requires : goal.encode-requires
encode-requires c = has_row _ _ _ _ c.in_ok-page.ensures.reads.reads
