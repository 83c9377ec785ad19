-- What the check asks of `run_call`.
use Rattle.std.proofs.Common.{[], ◌∙◌, ap, subst, sym}
use Rattle.line_sim.specs.declared.call.Call.{Call}
use Rattle.line_sim.specs.Driving.{new_driven}
use Rattle.line_sim.specs.Fates.{ShowsDriven}
use Rattle.line_sim.specs.Represents.{Shows}
use Rattle.calls.specs.BadLines.{Going, Stands, bad_call, patience_of}
use Rattle.calls.specs.Calls.{answerer_caps, caller_wish}
use Rattle.call_tallies.specs.ManyCalls.{CountsAll}
use Rattle.call_tallies.proofs.ManyCalls.{is_call}
use Rattle.call_tallies.proofs.many_calls.run_call.Goals as goal

pub returns-clause-is : goal.returns-clause-is
returns-clause-is c =
    let wish = caller_wish c.args.options.now in
    let caps = answerer_caps c.args.options.now.modems in
    let first : Going = bad_call c.args.options.now c.args.line.now c.args.number c.args.document in
    let starts : Stands c.in-Ok.call c.args.line.now c.generator_of-generator.result first =
    record {
      shows = subst (λ known. ShowsDriven c.in-Ok.call (patience_of c.args.line.now) (new_driven c.args.document wish known []))
          c.answerer_caps-caps.ensures
          (subst (λ p. ShowsDriven c.in-Ok.call p (new_driven c.args.document wish c.answerer_caps-caps.result []))
          c.patience_of-patience.ensures (c.in-Ok.ensures.1 []));
      drawn = sym c.generator_of-generator.ensures;
    } in
    is_call c.args.options.now c.args.line.now c.args.number c.args.document c.count_fates.new.call c.in_ok-counted.counted
    c.into_counts_and_document-document.result.0 c.in_ok-seconds.seconds _ c.in-Ok.ensures.0
    (subst (λ n. CountsAll c.args.line.now n first c.count_fates.new.call c.in_ok-counted.counted) c.slower_speeds-spare.ensures
    (c.in_ok-counted.ensures.counted first starts))
    (λ w shows.
    let there : Shows c.into_live.result w = subst (λ v. Shows v w) (sym c.into_live.ensures) shows in
    record {
      stored = c.into_counts_and_document-document.ensures.stored w there;
      confirmed = c.into_counts_and_document-document.ensures.confirmed w there;
      caller_end = c.into_counts_and_document-document.ensures.caller w there;
      answerer_end = c.into_counts_and_document-document.ensures.answerer w there;
    })
    c.in_ok-seconds.ensures.seconds
    c.is_borne-few.ensures

pub returns-clause-document : goal.returns-clause-document
returns-clause-document c =
    c.into_counts_and_document-document.ensures.document ∙ (ap (λ (v : Call). v.caller.document) c.into_live.ensures ∙
    (c.in_ok-counted.ensures.document ∙ sym (c.in-Ok.ensures.1 []).world.caller.document))
