-- What the check asks of `read_in`.
use Rattle.std.proofs.Common.{◌≡◌, ap}
use Rattle.page_files.specs.Identified.{IsTried}
use Rattle.page_files.specs.Sources.{in_order}
use Rattle.page_files.specs.declared.options.PageForm.{PageForm}
use Rattle.page_files.proofs.Sources.{tried_alike}
use Rattle.page_files.proofs.source.OrderedOctets.read_in.Goals as goal

pub returns-clause-tried : goal.returns-clause-tried
returns-clause-tried c =
    let inside = c.self.inside in
    let order : c.in_ok-tried.tried.form.order ≡ inside.first = ap (λ (f : PageForm). f.order) c.in_ok-tried.ensures.form in
    let alike : IsTried inside.octets.now (in_order inside.order c.in_ok-tried.tried) =
    tried_alike inside.order inside.code.now inside.octets.now c.in_ok-tried.tried (rw order c.self.invariant) c.in_ok-tried.ensures.tried in
    rw (← c.self.view_is) (rw c.tried_in.ensures alike)
