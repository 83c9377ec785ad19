use Rattle.std.proofs.Common.{◌≡◌, drop, inl, inr, sym, ◌∙◌}
use Rattle.signals.specs.declared.signal.PageEnd.TheVariants.{Eop}
use Rattle.stations.specs.CallerFields.{end_of_first}
use Rattle.stations.proofs.CallerRows.{mcf_next_block, mcf_eom, mcf_eop, mcf_too_long, mcf_next_page, number_is, never_null}
use Rattle.stations.proofs.caller.Caller.hear_mcf.Goals as goal

pub returns-in-Some-clause-answers : goal.returns-in-Some-clause-answers
returns-in-Some-clause-answers c = λ t h.
    rw (c.send_block.ensures.next, c.send_block.ensures.turn)
    (mcf_next_block c.args.self.now t c.in-Some.block c.requires.state c.requires.goes_on h (sym c.next_block.ensures ∙ c.in-Some.is))

pub returns-in_default-2-clause-answers : goal.returns-in_default-2-clause-answers
returns-in_default-2-clause-answers c = λ t h.
    rw (← c.self.view_is) at
    (mcf_too_long c.args.self.now t c.in-Some-next_page.number c.requires.state c.requires.goes_on h
    (sym c.next_block.ensures ∙ c.in_default.is) (number_is _ _ _ (sym c.next_page.ensures ∙ c.in-Some-next_page.is))
    (sym c.page_end.ensures ∙ c.in-Mps.is) (sym c.in_ok-blocks-in-Mps.ensures ∙ c.in_default-2.is))

pub returns-in-Eom-clause-answers : goal.returns-in-Eom-clause-answers
returns-in-Eom-clause-answers c = λ t h.
    rw (← c.self.view_is) at
    (mcf_eom c.args.self.now t c.in-Some-next_page.number c.requires.state c.requires.goes_on h (sym c.next_block.ensures ∙ c.in_default.is)
    (number_is _ _ _ (sym c.next_page.ensures ∙ c.in-Some-next_page.is)) (sym c.page_end.ensures ∙ c.in-Eom.is))

pub returns-in-Some-2-clause-answers : goal.returns-in-Some-2-clause-answers
returns-in-Some-2-clause-answers c = λ t h.
    rw (c.send_page.ensures.next, c.send_page.ensures.turn)
    (mcf_next_page c.octets_have_a_block.ensures c.args.self.now t c.in-Some-next_page.number c.in-Some-2.blocks c.requires.state
    c.requires.goes_on h
    (sym c.next_block.ensures ∙ c.in_default.is) (number_is _ _ _ (sym c.next_page.ensures ∙ c.in-Some-next_page.is))
    (sym c.page_end.ensures ∙ c.in-Mps.is) (sym c.in_ok-blocks-in-Mps.ensures ∙ c.in-Some-2.is))

pub returns-in-Eop-clause-answers : goal.returns-in-Eop-clause-answers
returns-in-Eop-clause-answers c = λ t h.
    let eop : end_of_first (drop c.args.self.now.page c.args.self.now.document) ≡ Eop =
    elim c.in-Eop.is [ inl e ↦ sym c.page_end.ensures ∙ e | inr e ↦ absurd (never_null _ (sym c.page_end.ensures ∙ e)) ] in
    rw (← c.self.view_is) at
    (mcf_eop c.args.self.now t c.in-Some-next_page.number c.requires.state c.requires.goes_on h (sym c.next_block.ensures ∙ c.in_default.is)
    (number_is _ _ _ (sym c.next_page.ensures ∙ c.in-Some-next_page.is)) eop)
