-- What the check asks of `at_share`.
use Rattle.std.proofs.Common.{◌≡◌, ◌∙◌, ◌+◌, ◌*◌, ◌<◌, ap, arith, length, refl, slice_index, subst, sym}
use Rattle.call_tallies.specs.Seconds.{CountsSeconds, Histogram, IsShare}
use Rattle.call_tallies.proofs.Shares.{next_below, none_below, read_at, share_here, share_last}
use Rattle.call_tallies.proofs.seconds.Seconds.at_share.Goals as goal

pub loop-place-init : goal.loop-place-init
loop-place-init c = (omega arith, λ calls t. none_below c.args.share calls)

pub returns-then-wanted-within : goal.returns-then-wanted-within
returns-then-wanted-within c calls t =
    let h : Histogram = record { calls = c.self.inside.calls; counts = c.self.inside.counts.items } in
    let few : c.loop-place.place < 86401 = omega (arith, c.loop-place-test.true) in
    let within : c.loop-place.place < length c.self.inside.counts.items = (let all = c.self.invariant in omega (arith, few, all)) in
    let read : c.from-within.result ≡ slice_index c.self.inside.counts.items c.loop-place.place =
    c.from-within.ensures ∙ read_at c.self.inside.counts.items c.loop-place.place c.index.result.now within c.index.ensures in
    let wanted : c.from.result * c.from-2.result ≡ c.args.share * c.self.inside.calls = rw (c.from.ensures, c.from-2.ensures) refl in
    share_here c.args.share h calls c.loop-place.place c.loop-place.within (c.loop-place.within + c.from-within.result)
    (c.from.result * c.from-2.result) (subst (λ h. CountsSeconds h calls) (sym c.self.view_is) t) few (c.loop-place.invariant.1 calls t)
    (ap (λ n. c.loop-place.within + n) read) wanted c.if-wanted-within.true

pub loop-place-preserved : goal.loop-place-preserved
loop-place-preserved c = (
  (let bound = c.loop-place.invariant.0 in let same = c.from-within.ensures in omega (arith, bound, same)),
  λ calls t.
      let h : Histogram = record { calls = c.self.inside.calls; counts = c.self.inside.counts.items } in
      let few : c.loop-place.place < 86401 = omega (arith, c.loop-place-test.true) in
      let within : c.loop-place.place < length c.self.inside.counts.items = (let all = c.self.invariant in omega (arith, few, all)) in
      let read : c.from-within.result ≡ slice_index c.self.inside.counts.items c.loop-place.place =
      c.from-within.ensures ∙ read_at c.self.inside.counts.items c.loop-place.place c.index.result.now within c.index.ensures in
      let wanted : c.from.result * c.from-2.result ≡ c.args.share * c.self.inside.calls = rw (c.from.ensures, c.from-2.ensures) refl in
      next_below c.args.share h calls c.loop-place.place c.loop-place.within (c.loop-place.within + c.from-within.result)
      (c.from.result * c.from-2.result) (subst (λ h. CountsSeconds h calls) (sym c.self.view_is) t) few (c.loop-place.invariant.1 calls t)
      (ap (λ n. c.loop-place.within + n) read) wanted (let more = c.if-wanted-within.false in omega (arith, more)),
)

pub returns : goal.returns
returns c calls t =
    let last : c.loop-place.place ≡ 86400 = omega (arith, c.loop-place-test.false, c.loop-place.auto.place-end) in
    subst (λ s. IsShare c.args.share calls s) last
    (share_last c.args.share calls c.loop-place.place c.loop-place.within c.requires last (c.loop-place.invariant.1 calls t))
