use Rattle.std.proofs.Common.{ap, subst, ◌∙◌, ◌+◌, take, ℕ}
use Rattle.raster.specs.Pixels.{IsWidth}
use Rattle.page_code.proofs.TwoDimensions.CodesOn.{listed_held}
use Rattle.page_code.proofs.t6.write.Lines.after.Goals as goal

pub returns-clause-fits : goal.returns-clause-fits
returns-clause-fits c = record {
  wide = subst IsWidth c.width.ensures.width c.width.ensures.range;
  above = c.put_held-known.ensures.length ∙ (c.in_ok-reference.ensures ∙ ap (λ (n : ℕ). n + 67) c.width.ensures.width);
  room = c.in_ok-row.ensures ∙ ap (λ (n : ℕ). n + 67) c.width-2.ensures.width;
  known_within = c.put_held-known.ensures.few;
  listed = listed_held c.args.line.now (take c.put_held-known.result c.put_held-known.new.list.items) c.put_held-known.ensures.held;
}
