-- What the check asks of `g3_core_signal_write`.
use Rattle.std.proofs.Common.{◌≡◌, Ok, IfOk, ap, ◌∙◌, rules, subst, take}
use Rattle.signals.specs.Reading.{read_content}
use Rattle.g3fax.proofs.SignalLemmas.{copied-content}
use Rattle.g3fax.proofs.signalling.g3_core_signal_write.Goals as goal

pub returns-in-Ok-clause-reads : goal.returns-in-Ok-clause-reads
returns-in-Ok-clause-reads c =
    let is : c.deref.result.now ≡ c.write.result.items = search rules in
    λ done. subst
    (λ meant. IfOk meant (λ signal. read_content (take c.copy_out.new.count c.copy_out.new.buffer) ≡ Ok signal))
    c.in-Ok.ensures.meant
    (ap read_content (copied-content _ _ _ _ _ c.copy_out.ensures done) ∙ ap read_content is ∙ c.write.ensures.reads)
