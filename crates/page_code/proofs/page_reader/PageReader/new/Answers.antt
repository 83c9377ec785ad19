use Rattle.page_code.proofs.PageReaders.{begins}
use Rattle.page_code.proofs.page_reader.PageReader.new.Goals as goal

pub returns-clause-stands : goal.returns-clause-stands
returns-clause-stands c = begins c.args.coding c.args.order c.args.width c.args.fine c.new.result c.new-2.result.items c.requires
    c.new.ensures c.new-2.ensures.items
