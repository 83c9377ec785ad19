-- What the check asks of `ladder_of`.
use Rattle.std.proofs.Common.{◌++◌, ◌∷◌, [], ap, sym, ◌∙◌}
use Rattle.call_pictures.specs.DrawnFields.{drawn_entry}
use Rattle.call_pictures.specs.Ladders.{Drawn}
use Rattle.call_pictures.proofs.CapturedCalls.{all_drawn, none_drawn, one_drawn}
use Rattle.call_pictures.proofs.captured_call.ladder_of.Goals as goal

pub loop-frame-init : goal.loop-frame-init
loop-frame-init c = (
  none_drawn _ _ c.new-ladder.result.entries (ap (λ (d : Drawn). d.entries) c.new-ladder.ensures),
  ap (λ (d : Drawn). d.feet) c.new-ladder.ensures,
)

pub loop-frame-preserved : goal.loop-frame-preserved
loop-frame-preserved c = (
  one_drawn c.args.caller.now c.args.answerer.now c.loop-frame.caller.now c.loop-frame.answerer.now c.left_after-caller.result.now
      c.left_after-answerer.result.now c.loop-frame.before c.before-before.result c.in-Some.frame c.loop-frame.ladder.entries
      c.add.new.self.entries c.loop-frame.invariant.0 (sym c.next_frame.ensures ∙ c.in-Some.is)
      (ap (λ (d : Drawn). d.entries) c.in_ok-add.ensures.added
      ∙ ap (λ e. c.loop-frame.ladder.entries ++ drawn_entry e ∷ []) c.entry.ensures)
      c.before-before.ensures c.left_after-caller.ensures c.left_after-answerer.ensures,
  ap (λ (d : Drawn). d.feet) c.in_ok-add.ensures.added ∙ c.in_ok-add.ensures.going,
)

pub returns-clause-drawn : goal.returns-clause-drawn
returns-clause-drawn c =
    all_drawn c.args.caller.now c.args.answerer.now c.loop-frame.caller.now c.loop-frame.answerer.now c.loop-frame.before
    c.loop-frame.ladder.entries c.loop-frame.invariant.0 (sym c.next_frame.ensures ∙ c.in_default.is)
