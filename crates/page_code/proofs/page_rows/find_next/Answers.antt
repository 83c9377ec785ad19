use Rattle.page_code.proofs.page_rows.find_next.Goals as goal

pub returns-in-OneDim-clause-finds : goal.returns-in-OneDim-clause-finds
returns-in-OneDim-clause-finds c = rw c.in-OneDim.is (c.next_row.ensures.finds c.args.lists.now.begun.lines.reference)
