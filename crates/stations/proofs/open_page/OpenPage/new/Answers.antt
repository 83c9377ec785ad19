use Rattle.stations.proofs.open_page.OpenPage.new.Goals as goal

pub invariant_of-result : goal.invariant_of-result
invariant_of-result c = c.reader_of.ensures c.new.result.items
