-- What the check asks of `drive_document_often`.
use Rattle.std.proofs.Common.{◌∙◌, ◌≡◌, ◌⊎◌, inl, arith, subst}
use Rattle.std.proofs.lemmas.Result.{err_from_is_err_and}
use Rattle.faults.specs.Faults.{IsOutside}
use Rattle.faults.specs.declared.fault.ToolFault.TheVariants.{No}
use Rattle.stations.specs.CallerFields.{AreCallable}
use Rattle.call_tallies.specs.ManyCalls.{IsCallOf}
use Rattle.call_tallies.proofs.ManyCalls.{all_ran, later_or, one_ran}
use Rattle.call_tallies.proofs.many_calls.drive_document_often.Goals as goal

pub returns-in_err-call-clause-unwritten : goal.returns-in_err-call-clause-unwritten
returns-in_err-call-clause-unwritten g c =
    let p = err_from_is_err_and c.from_residual-in_err-call.result c.from_residual-in_err-call.ensures.1 in
    rw (p.1, p.2)
    (later_or c.args.options.now c.args.line.now c.args.document c.loop-number.number c.loop-number.tally
    c.loop-number.seconds (g.W.Write.contents c.args.writer.now) (g.W.Write.contents c.loop-number.writer) c.in_err-call.field-0.0
    c.loop-number.invariant.0 c.loop-number.invariant.1
    (subst (λ d. IsOutside c.in_err-call.field-0.0 ⊎ (¬ AreCallable d × (c.in_err-call.field-0.0 ≡ No 26)))
    c.loop-number.invariant.3 c.in_err-call.ensures.refused))

pub loop-number-preserved : goal.loop-number-preserved
loop-number-preserved g c = (
  one_ran c.args.options.now c.args.line.now c.args.document c.loop-number.number c.loop-number.tally c.add.new.self
      c.loop-number.seconds c.add-in-loop-number.new.self (g.W.Write.contents c.args.writer.now) (g.W.Write.contents c.loop-number.writer)
      (g.W.Write.contents c.write_call.new.writer) c.in_ok-call.call c.loop-number.invariant.0
      (subst (λ d. IsCallOf c.args.options.now c.args.line.now c.loop-number.number d c.in_ok-call.call) c.loop-number.invariant.3
      c.in_ok-call.ensures.is)
      c.in_ok-write_call.ensures.line c.in_ok-add.ensures.tallies c.in_ok-add-2.ensures.counts,
  inl (omega arith),
  omega (arith, c.loop-number-test.true),
  c.in_ok-call.ensures.document ∙ c.loop-number.invariant.3,
)

pub returns-clause-told : goal.returns-clause-told
returns-clause-told g c =
    all_ran c.args.options.now c.args.line.now c.args.document c.loop-number.number c.args.times c.loop-number.tally
    c.loop-number.seconds (g.W.Write.contents c.args.writer.now) (g.W.Write.contents c.loop-number.writer)
    (g.W.Write.contents c.write.new.writer) (g.W.Write.contents c.write-2.new.writer) c.loop-number.invariant.0
    (let most = c.loop-number.invariant.2 in omega (arith, c.loop-number-test.false, most))
    c.in_ok-write.ensures.table c.in_ok-write-2.ensures.row
