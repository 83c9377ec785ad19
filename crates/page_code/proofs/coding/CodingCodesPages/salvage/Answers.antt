use Rattle.std.proofs.Common.{◌∙◌, ap}
use Rattle.raster.specs.Packed.{bits_of}
use Rattle.page_code.specs.declared.page.Progress.{Progress}
use Rattle.page_code.proofs.PageReaders.{read_none, salvaged}
use Rattle.page_code.proofs.coding.CodingCodesPages.salvage.Goals as goal

pub read_further-requires-clause-read : goal.read_further-requires-clause-read
read_further-requires-clause-read c = rw c.new-to.ensures (read_none c.args.self c.args.width (bits_of c.args.order c.args.octets.now))

pub returns-clause-width : goal.returns-clause-width
returns-clause-width c = c.in_ok-read_further.ensures.0.width ∙ ap (λ (p : Progress). p.page.width) c.new-to.ensures

pub returns-clause-fine : goal.returns-clause-fine
returns-clause-fine c = c.in_ok-read_further.ensures.0.fine ∙ ap (λ (p : Progress). p.page.fine) c.new-to.ensures

pub returns-clause-rows : goal.returns-clause-rows
returns-clause-rows c = salvaged c.args.self c.args.width (bits_of c.args.order c.args.octets.now) c.new-to.result c.read_further.new.to
    c.requires (ap (λ (p : Progress). p.page.width) c.new-to.ensures) c.in_ok-read_further.ensures
