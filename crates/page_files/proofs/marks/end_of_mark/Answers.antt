-- What the check asks of `end_of_mark`.
use Rattle.std.proofs.Common.{◌∙◌, ◌≤◌, arith, length, sym}
use Rattle.raster.specs.Packed.{bits_of}
use Rattle.raster.proofs.PackedLemmas.{length-bits_in}
use Rattle.page_files.proofs.MarkEnds.{mark_shown, no_mark, not_shown, past_mark}
use Rattle.page_files.proofs.marks.end_of_mark.Goals as goal

pub returns-then-begin_eols-clause-end : goal.returns-then-begin_eols-clause-end
returns-then-begin_eols-clause-end c =
    let bits = bits_of c.args.form.order c.args.octets.now in
    rw c.mark_eols-eols.ensures at c.eols_end.ensures.end ∙ sym (c.loop-place.invariant.same ∙ mark_shown bits c.loop-place.place
    c.args.form.coding (rw c.shown_by-shown.ensures at (sym c.begin_eols.ensures ∙ c.if-begin_eols.true)))

pub loop-place-preserved : goal.loop-place-preserved
loop-place-preserved c =
    let bits = bits_of c.args.form.order c.args.octets.now in
    record {
      within = omega (arith, c.in-Some.ensures.within);
      same = c.loop-place.invariant.same ∙ not_shown bits c.loop-place.place c.args.form.coding c.in-Some.zeros
          (sym c.zeros_at.ensures.zeros ∙ c.in-Some.is) (rw c.shown_by-shown.ensures at (sym c.begin_eols.ensures ∙ c.if-begin_eols.false));
    }

pub returns-in-None-clause-end : goal.returns-in-None-clause-end
returns-in-None-clause-end c =
    let bits = bits_of c.args.form.order c.args.octets.now in
    sym (c.loop-place.invariant.same ∙ no_mark bits c.loop-place.place c.args.form.coding (sym c.zeros_at.ensures.zeros ∙ c.in-None.is))

pub returns-clause-end : goal.returns-clause-end
returns-clause-end c =
    let bits = bits_of c.args.form.order c.args.octets.now in
    let past : length bits ≤ c.loop-place.place = rw length-bits_in (omega (arith, c.loop-place-test.false)) in
    sym (c.loop-place.invariant.same ∙ past_mark bits c.loop-place.place c.args.form.coding past)
