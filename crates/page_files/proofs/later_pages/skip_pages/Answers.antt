-- What the check asks of `skip_pages`.
use Rattle.std.proofs.Common.{◌∙◌, subst, true}
use Rattle.page_files.specs.LaterPages.{Passes}
use Rattle.page_files.specs.declared.options.PageForm.{PageForm}
use Rattle.page_files.proofs.LaterPages.{one_after}
use Rattle.page_files.proofs.later_pages.skip_pages.Goals as goal

pub loop-before-preserved : goal.loop-before-preserved
loop-before-preserved c =
    let before = c.loop-before.left.octets in
    let later = c.pass.new.self.octets in
    record {
      form = c.in-Ok-true.ensures.form ∙ c.loop-before.invariant.form;
      after = one_after c.args.mends c.args.left.now.form c.args.left.now.octets before later c.loop-before.before
          c.loop-before.invariant.after
          (subst (λ (f : PageForm). Passes c.args.mends true f before later) c.loop-before.invariant.form
          (rw c.in-Ok-true.field-0-test at c.in-Ok-true.ensures.passed));
      none = c.in-Ok-true.ensures.none;
    }
