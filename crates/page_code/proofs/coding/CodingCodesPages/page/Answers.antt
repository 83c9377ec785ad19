-- What the check asks of `page`.
use Rattle.raster.specs.Packed.{bits_of}
use Rattle.page_code.proofs.PageReaders.{read_none}
use Rattle.page_code.proofs.coding.CodingCodesPages.page.Goals as goal

pub read_whole-requires-clause-read : goal.read_whole-requires-clause-read
read_whole-requires-clause-read c = rw c.new-begun.ensures (read_none c.args.self c.args.width (bits_of c.args.order c.args.octets.now))
