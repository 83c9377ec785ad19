-- What the check asks of `add`.
use Rattle.std.proofs.Common.{◌∙◌, ◌+◌, ap}
use Rattle.call_tallies.proofs.ManyCalls.{tallied}
use Rattle.call_tallies.proofs.tallies.Tally.add.Goals as goal

pub returns-clause-tallies : goal.returns-clause-tallies
returns-clause-tallies c calls t =
    tallied c.args.self.now calls c.args.call.now c.in_ok-self.field-0 c.in_ok-self-2.field-0 c.in_ok-self-3.field-0
    c.in_ok-self-4.field-0 c.in_ok-self-5.field-0 c.in_ok-self-6.field-0 c.in_ok-self-7.field-0 c.place_of-place.result
    c.in_ok-self-8.field-0 t c.in_ok-self.ensures.next
    (c.in_ok-self-2.ensures.sum ∙ ap (λ n. c.args.self.now.mild + n) c.mild_in.ensures)
    (c.in_ok-self-3.ensures.sum ∙ ap (λ n. c.args.self.now.borne + n) c.borne_in.ensures)
    (c.in_ok-self-4.ensures.sum ∙ ap (λ n. c.args.self.now.few + n) c.few_in.ensures)
    (c.in_ok-self-5.ensures.sum ∙ ap (λ n. c.args.self.now.through + n) c.through_in.ensures)
    c.in_ok-self-6.ensures.sum c.in_ok-self-7.ensures.sum c.place_of-place.ensures.place c.place_of-place.ensures.few
    c.in_ok-self-8.ensures.next
