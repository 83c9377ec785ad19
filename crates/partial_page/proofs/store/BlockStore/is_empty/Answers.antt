use Rattle.std.proofs.Common.{ap, ◌∙◌, ◌≡◌, false, true, arith, refl}
use Rattle.partial_page.specs.Store.{has_frame}
use Rattle.partial_page.proofs.StoreLemmas.{none_there, no_frames_has}
use Rattle.partial_page.proofs.store.BlockStore.is_empty.Goals as goal

pub returns-clause-empty : goal.returns-clause-empty
returns-clause-empty c = (
  λ _. none_there c.args.self.now.frames c.ready-ready.ensures.store.places
      (λ k h. c.loop-number.invariant k (omega (arith, c.loop-number-test.false))),
  λ _. refl,
)

pub returns-then-has-clause-empty : goal.returns-then-has-clause-empty
returns-then-has-clause-empty c = (
  λ f. absurd (cc f),
  λ e. let is : true ≡ false = c.if-has.ensures.has ∙ ap (λ frames. has_frame frames c.loop-number.number) e
      ∙ no_frames_has c.loop-number.number c.loop-number-test.true in absurd (cc is),
)
