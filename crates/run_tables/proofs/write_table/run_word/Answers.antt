use Rattle.std.proofs.Common.{ℕ, ◌≡◌, ◌<◌, ◌≤◌, ◌+◌, ◌*◌, ◌/◌, ◌%◌, ◌^◌, ◌++◌, arith, ap, sym, ◌∙◌}
use Rattle.std.proofs.lemmas.Nat.{shl_whole}
use Rattle.run_tables.specs.Codes.{code_word}
use Rattle.run_tables.specs.Numbers.{number_text}
use Rattle.run_tables.proofs.CodeLemmas.{run_at_low, run_at_high, run_words_high, run_words_low}
use Rattle.run_tables.proofs.NumberLemmas.{joined_below, number_append}
use Rattle.run_tables.proofs.write_table.run_word.Goals as goal

-- the first code word's number, before the bits of the second one
shifted : (high a b : ℕ) → high < 2 ^ a → a ≤ 13 → b ≤ 13 → high * 2 ^ b % 2 ^ 32 ≡ high * 2 ^ b
shifted high a b below ha hb = shl_whole high a b 32 below (omega arith)

pub returns-clause-below : goal.returns-clause-below
returns-clause-below c =
    rw (shifted c.word-high.result.0 c.word-high.result.1 c.word-low.result.1 c.word-high.ensures.below c.word-high.ensures.short
    c.word-low.ensures.short) (joined_below c.word-high.result.1 c.word-low.result.1 c.word-high.result.0 c.word-low.result.0
    c.word-high.ensures.below c.word-low.ensures.below)

pub returns-clause-words : goal.returns-clause-words
unfolding number_text
returns-clause-words c =
    let shl = shifted c.word-high.result.0 c.word-high.result.1 c.word-low.result.1 c.word-high.ensures.below c.word-high.ensures.short
    c.word-low.ensures.short in
    let high = c.word-high.ensures.word ∙ ap (code_word c.args.color) (run_at_high (c.args.run / 64) (omega arith)) in
    let low = c.word-low.ensures.word ∙ ap (code_word c.args.color) (run_at_low (c.args.run % 64) (omega arith)) in
    ap (λ n. number_text (c.word-high.result.1 + c.word-low.result.1) (n + c.word-low.result.0)) shl ∙ (number_append c.word-high.result.1
    c.word-low.result.1 c.word-high.result.0 c.word-low.result.0 c.word-low.ensures.below ∙ (ap (λ l. l ++ number_text c.word-low.result.1
    c.word-low.result.0) high ∙ (ap (λ l. code_word c.args.color (64 * (c.args.run / 64)) ++ l) low ∙ sym (run_words_high c.args.color
    c.args.run (omega arith)))))

pub returns-then-run-lt64-clause-words : goal.returns-then-run-lt64-clause-words
unfolding number_text
returns-then-run-lt64-clause-words c =
    c.word.ensures.word ∙ (ap (code_word c.args.color) (run_at_low c.args.run c.if-run-lt64.true) ∙ sym (run_words_low c.args.color
    c.args.run
    c.if-run-lt64.true))
