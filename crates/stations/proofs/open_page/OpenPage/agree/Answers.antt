use Rattle.stations.proofs.open_page.OpenPage.agree.Goals as goal

pub invariant_of-self-2 : goal.invariant_of-self-2
invariant_of-self-2 c = c.reader_of.ensures c.self.inside.turned.items
