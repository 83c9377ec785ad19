use Rattle.std.proofs.Common.{arith, length, refl}
use Rattle.std.proofs.lemmas.Bool.{OnTrue_at}
use Rattle.run_tables.specs.Reading.{rest_of}
use Rattle.page_code.specs.TwoDimensions.Fronts.{mode_ended}
use Rattle.page_code.proofs.TwoDimensions.QuickModes.{horizontal_seen}
use Rattle.page_code.proofs.TwoDimensions.RowReading.{goes_none}
use Rattle.page_code.proofs.t6.read.quick_part.Goals as goal

pub returns-then-not-enough-clause-along : goal.returns-then-not-enough-clause-along
returns-then-not-enough-clause-along c = (
  refl,
  omega arith,
  omega (arith, c.place-start.ensures.place, c.place-start.ensures.within),
  omega (arith, c.requires),
  λ page is. goes_none (length c.args.lines.now.reference) (mode_ended (length c.args.lines.now.reference) page c.args.lines.now.line)
      c.args.reader.now.place (rest_of c.args.reader.now),
)

pub quick_horizontal-requires-clause-begun : goal.quick_horizontal-requires-clause-begun
quick_horizontal-requires-clause-begun c = horizontal_seen c.peek_57.result (rest_of c.args.reader.now)
    (omega (arith, c.if-peek_57-eq1.true)) (λ k h. c.peek_57.ensures k (omega arith))
    (omega (arith, OnTrue_at c.if-not-enough.false c.has_57-enough.ensures.yes))
