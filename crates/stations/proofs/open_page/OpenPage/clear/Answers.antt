use Rattle.stations.proofs.open_page.OpenPage.clear.Goals as goal

pub invariant_of-self : goal.invariant_of-self
invariant_of-self c = c.reader_of.ensures c.clear.new.self.items
