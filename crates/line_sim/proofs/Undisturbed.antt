-- A call that nobody disturbs goes through.
use Rattle.std.proofs.Common.{ℕ, Result, Ok, Err, IfOk, ◌∙◌, sym, subst}
use Rattle.stations.specs.Laws.{Each}
use Rattle.stations.specs.Layers.{IsFullPage}
use Rattle.line_sim.specs.Delivering.{DeliversAll, GoesThrough}
use Rattle.line_sim.specs.Headline.{Promised}
use Rattle.line_sim.specs.Line.{World, new_world, run}
use Rattle.line_sim.specs.Polite.{polite_steps, PoliteCalls}
use Rattle.line_sim.specs.Represents.{Shows, WorldFields, IsReached}
use Rattle.line_sim.proofs.Clauses.{document_kept}

pub goes_through : {E : Type 0} → Promised → PoliteCalls → (old new : WorldFields) (most : ℕ) (result : Result ℕ E) → IsReached old →
    ((w : World) → Shows old.call w → DeliversAll old new w most result) →
    IfOk result (λ number. GoesThrough old new most number)
goes_through promised calls old new most (Err refusal) reached delivers = tt
goes_through promised calls old new most (Ok number) reached delivers = λ document wish caps groups shows some agreed.
    let start : World = new_world document wish caps in
    let did = delivers start shows in
    let full : Each IsFullPage document =
    subst (Each IsFullPage) (document_kept promised old reached ∙ sym shows.caller.document) reached.full in
    let undisturbed = calls document wish caps groups most some full agreed in
    (did.1 ∙ undisturbed.number, λ enough. (run (polite_steps most start) start, did.0.0, undisturbed.through enough))
