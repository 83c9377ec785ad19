-- What the check asks of `lines_end_by_rtc`.
use Rattle.std.proofs.Common.{◌∙◌, ◌≤◌, arith, length, sym}
use Rattle.raster.specs.Packed.{bits_of}
use Rattle.raster.proofs.PackedLemmas.{length-bits_in}
use Rattle.page_files.proofs.LineEnds.{first_two, no_rtc, not_two, past_all}
use Rattle.page_files.proofs.page_end.lines_end_by_rtc.Goals as goal

pub returns-then-begin_eols : goal.returns-then-begin_eols
returns-then-begin_eols c =
    let bits = bits_of c.args.order c.args.octets.now in
    c.begin_eols-then-begin_eols.ensures ∙ sym (c.loop-place.invariant.same ∙ first_two bits c.loop-place.place (sym c.begin_eols.ensures ∙ c.if-begin_eols.true))

pub loop-place-preserved : goal.loop-place-preserved
loop-place-preserved c =
    let bits = bits_of c.args.order c.args.octets.now in
    record {
      within = omega (arith, c.in-Some.ensures.within);
      same = c.loop-place.invariant.same ∙ not_two bits c.loop-place.place c.in-Some.zeros
          (sym c.zeros_at.ensures.zeros ∙ c.in-Some.is) (sym c.begin_eols.ensures ∙ c.if-begin_eols.false);
    }

pub returns-in-None : goal.returns-in-None
returns-in-None c =
    let bits = bits_of c.args.order c.args.octets.now in
    sym (c.loop-place.invariant.same ∙ no_rtc bits c.loop-place.place (sym c.zeros_at.ensures.zeros ∙ c.in-None.is))

pub returns : goal.returns
returns c =
    let bits = bits_of c.args.order c.args.octets.now in
    let past : length bits ≤ c.loop-place.place = rw length-bits_in (omega (arith, c.loop-place-test.false)) in
    sym (c.loop-place.invariant.same ∙ past_all bits c.loop-place.place past)
