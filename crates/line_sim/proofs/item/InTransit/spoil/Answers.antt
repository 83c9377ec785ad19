-- A training check with all its octets FF is a spoiled one.
use Rattle.std.proofs.Common.{◌≡◌, length, vec_len, arith, ◌∙◌, ap, replicate}
use Rattle.line_sim.proofs.Items.{check_spoiled}
use Rattle.line_sim.proofs.item.InTransit.spoil.Goals as goal

pub returns-then-is_check : goal.returns-then-is_check
returns-then-is_check g c =
    let n : vec_len c.self.inside.octets ≡ length c.self.inside.octets.items = omega (arith, c.self.inside.octets.ok.0) in
    rw (← c.self.view_is)
    (check_spoiled c.self.inside.kind c.self.inside.octets.items c.fill.new.self.items (c.is_check.ensures.0 c.if-is_check.true)
    (c.fill.ensures.items (λ y e. e) ∙ ap (λ k. replicate k 255) n))
