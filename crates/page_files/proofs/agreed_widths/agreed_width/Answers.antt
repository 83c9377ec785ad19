-- What the check asks of `agreed_width`.
use Rattle.std.proofs.Common.{ℕ, List, subst}
use Rattle.raster.specs.Packed.{bits_of}
use Rattle.page_files.specs.AgreedWidths.{LinesAgree}
use Rattle.page_files.proofs.agreed_widths.agreed_width.Goals as goal

pub returns-clause-agreed : goal.returns-clause-agreed
returns-clause-agreed c =
    subst (λ (l : List ℕ). LinesAgree c.args.widths.now (bits_of c.args.order l) c.width_in.result) c.front.ensures c.width_in.ensures.agreed
