-- What the check asks of `add`.
use Rattle.std.proofs.Common.{◌∙◌, ◌+◌, ◌<◌, ap, arith, length, subst, sym}
use Rattle.call_tallies.specs.Seconds.{CountsSeconds}
use Rattle.call_tallies.proofs.Shares.{one_counted, read_at}
use Rattle.call_tallies.proofs.seconds.Seconds.add.Goals as goal

pub returns-clause-counts : goal.returns-clause-counts
returns-clause-counts c calls t =
    let few : c.counted_seconds-place.result < 86401 = (let is = c.counted_seconds-place.ensures in omega (arith, is)) in
    let within : c.counted_seconds-place.result < length c.self.inside.counts.items =
    (let all = c.self.invariant in omega (arith, few, all)) in
    one_counted (record { calls = c.self.inside.calls; counts = c.self.inside.counts.items }) calls c.args.call.now
    c.in_ok-self-inside.field-0 c.counted_seconds-place.result c.in_ok-self-inside-2.field-0
    (subst (λ h. CountsSeconds h calls) (sym c.self.view_is) t) c.self.invariant c.in_ok-self-inside.ensures.next
    c.counted_seconds-place.ensures
    (c.in_ok-self-inside-2.ensures.next ∙
    ap (λ n. n + 1) (read_at c.self.inside.counts.items c.counted_seconds-place.result c.index.result.now within c.index.ensures))
    few
