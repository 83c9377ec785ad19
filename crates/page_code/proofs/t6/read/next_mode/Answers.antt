use Rattle.std.proofs.Common.{ℕ, ◌+◌, ◌≡◌, ◌%◌, arith, ap, length, refl, ◌∙◌}
use Rattle.std.proofs.lemmas.List.{length-drop}
use Rattle.run_tables.specs.Reading.{rest_of}
use Rattle.page_code.specs.TwoDimensions.Fronts.{mode_word}
use Rattle.page_code.proofs.TwoDimensions.ModeTable.{cut_seen, found_seen, mode_some, none_seen}
use Rattle.page_code.proofs.t6.read.next_mode.Goals as goal

pub returns-in_default : goal.returns-in_default
returns-in_default c = (
  refl,
  none_seen (rest_of c.args.reader.now) c.peek_57.result c.mode_of-mode.result.0 (λ k h. c.peek_57.ensures k (omega arith))
      c.mode_of-mode.ensures.code c.in_default.is,
)

pub returns-in_default-ahead : goal.returns-in_default-ahead
returns-in_default-ahead c =
    let count : c.mode_of-mode.result.1 ≡ length (mode_word c.in-Some.code) = rw c.in-Some.is at c.mode_of-mode.ensures.length in
    let same : c.mode_of-mode.result.1 % 8 ≡ length (mode_word c.in-Some.code) = omega (arith, count, (mode_some c.in-Some.code).1) in (
      refl,
      cut_seen (rest_of c.args.reader.now) c.peek_57.result c.mode_of-mode.result.0 c.in-Some.code
          (λ k h. c.peek_57.ensures k (omega arith)) c.mode_of-mode.ensures.code c.in-Some.is (omega (
            arith,
            same,
            (mode_some c.in-Some.code).0,
            c.in_default-ahead.ensures.past,
            c.place-start.ensures.place,
            c.place-start.ensures.within,
            length-drop c.args.reader.now.place c.args.reader.now.bits,
          )),
    )

pub returns : goal.returns
returns c =
    let count : c.mode_of-mode.result.1 ≡ length (mode_word c.in-Some.code) = rw c.in-Some.is at c.mode_of-mode.ensures.length in
    let same : c.mode_of-mode.result.1 % 8 ≡ length (mode_word c.in-Some.code) = omega (arith, count, (mode_some c.in-Some.code).1) in (
      found_seen (rest_of c.args.reader.now) c.peek_57.result c.mode_of-mode.result.0 c.in-Some.code (λ k h. c.peek_57.ensures k
          (omega arith))
          c.mode_of-mode.ensures.code c.in-Some.is (omega (
            arith,
            same,
            (mode_some c.in-Some.code).0,
            c.in-Some-ahead.ensures.within,
            length-drop c.args.reader.now.place c.args.reader.now.bits,
          )),
      c.skip.ensures ∙ ap (λ (n : ℕ). record { bits = c.args.reader.now.bits; place = c.args.reader.now.place + n }) same,
    )
