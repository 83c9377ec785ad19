use Rattle.std.proofs.Common.{◌∙◌, refl, arith, inl, inr}
use Rattle.std.proofs.lemmas.Result.{err_from_is_err_and}
use Rattle.run_tables.specs.Codes.{code_word}
use Rattle.run_tables.specs.Reading.{rest_of}
use Rattle.run_tables.proofs.RunReads.{no_run, no_run_after, sum_words, low_run, rest_after, after-append}
use Rattle.run_tables.proofs.BeginsLemmas.{begins_both}
use Rattle.run_tables.proofs.reader.BitReader.read_run.Goals as goal

pub returns-in_err-high : goal.returns-in_err-high
returns-in_err-high c =
    let p = err_from_is_err_and c.from_residual.result c.from_residual.ensures.1 in
    let refused = rw c.look_ahead-ahead.ensures at c.in_err-high.ensures.reads.0 in
    rw (p.1, p.2) (no_run c.args.color (rest_of c.args.self.now) refused.none, inl refused, refl)

pub returns-in_err-low : goal.returns-in_err-low
returns-in_err-low c =
    let p = err_from_is_err_and c.from_residual-in_err-low.result c.from_residual-in_err-low.ensures.1 in
    let first = rw c.look_ahead-ahead.ensures at c.in_ok-high.ensures.reads in
    let refused = rw first.1 at c.in_err-low.ensures.reads.0 in
    rw (p.1, p.2) (
      no_run_after c.args.color c.args.self.now c.in_ok-high.high c.if-high-lt64.false first.0 refused.none,
      inr
          (c.in_ok-high.high, c.if-high-lt64.false, first.0, refused),
      refl,
    )

pub overflow_add-result : goal.overflow_add-result
overflow_add-result c =
    let sum = sum_words c.args.color c.in_ok-high.high c.in_ok-low.low c.in_ok-high.ensures.reads.0.0 c.if-high-lt64.false (low_run
    c.in_ok-low.low c.in_ok-low.ensures.reads.0.0) in
    omega (arith, sum.0)

pub returns : goal.returns
returns c =
    let first = rw c.look_ahead-ahead.ensures at c.in_ok-high.ensures.reads in
    let second = rw first.1 at c.in_ok-low.ensures.reads in
    let sum = sum_words c.args.color c.in_ok-high.high c.in_ok-low.low first.0.0 c.if-high-lt64.false (low_run c.in_ok-low.low second.0.0)
    in (
      sum.0,
      rw sum.1 (begins_both (code_word c.args.color c.in_ok-high.high) (code_word c.args.color c.in_ok-low.low) (rest_of c.args.self.now)
          first.0.1 (rw (rest_after (code_word c.args.color c.in_ok-high.high) c.args.self.now) at second.0.1)),
      rw sum.1 (second.1 ∙ after-append (code_word c.args.color c.in_ok-high.high) (code_word c.args.color c.in_ok-low.low)
          c.args.self.now),
    )
