use Rattle.std.proofs.Common.{arith}
use Rattle.page_code.specs.Codings.{code_of}
use Rattle.page_code.specs.OneDimension.Pages.{page_words}
use Rattle.page_code.specs.TwoDimensions.Code.{page_code}
use Rattle.page_code.proofs.CodingPacked.{encoded_packed}
use Rattle.page_code.proofs.coding.CodingCodesPages.encode.Goals as goal

pub returns-in-OneDim-clause-octets : goal.returns-in-OneDim-clause-octets
unfolding code_of
returns-in-OneDim-clause-octets c =
    rw c.in-OneDim.is (encoded_packed c.encode.result c.args.order (page_words c.args.page.now.rows) c.args.out.now.items
    c.encode.new.out.items (λ k less. omega (arith, less, c.type_inv.out k 0)) c.encode.ensures.ok)

pub returns-in-T6-clause-octets : goal.returns-in-T6-clause-octets
unfolding code_of
returns-in-T6-clause-octets c =
    rw c.in-T6.is (encoded_packed c.encode-in-T6.result c.args.order (page_code c.args.page.now.width c.args.page.now.rows)
    c.args.out.now.items c.encode-in-T6.new.out.items (λ k less. omega (arith, less, c.type_inv.out k 0)) c.encode-in-T6.ensures.ok)
