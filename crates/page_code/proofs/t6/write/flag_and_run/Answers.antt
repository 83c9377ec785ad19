use Rattle.std.proofs.Common.{ℕ, ◌≡◌, ◌≤◌, ◌+◌, ◌*◌, ◌%◌, ◌^◌, ◌++◌, arith, ap, ◌∙◌}
use Rattle.std.proofs.lemmas.Nat.{shl_whole}
use Rattle.run_tables.specs.Numbers.{number_text}
use Rattle.run_tables.proofs.NumberLemmas.{joined_below, number_append}
use Rattle.page_code.specs.TwoDimensions.Modes.{horizontal_word}
use Rattle.page_code.proofs.t6.write.flag_and_run.Goals as goal

-- the flag, before the bits of the run
moved : (length : ℕ) → length ≤ 26 → 1 * 2 ^ length % 2 ^ 32 ≡ 1 * 2 ^ length
moved length short = shl_whole 1 3 length 32 (omega arith) (omega arith)

pub returns-clause-below : goal.returns-clause-below
returns-clause-below c =
    rw (moved c.run_word-word.result.1 c.run_word-word.ensures.short) (joined_below 3 c.run_word-word.result.1 1 c.run_word-word.result.0 (omega arith) c.run_word-word.ensures.below)

pub returns-clause-words : goal.returns-clause-words
unfolding number_text
returns-clause-words c =
    ap (λ n. number_text (3 + c.run_word-word.result.1) (n + c.run_word-word.result.0)) (moved c.run_word-word.result.1 c.run_word-word.ensures.short)
    ∙ (number_append 3 c.run_word-word.result.1 1 c.run_word-word.result.0 c.run_word-word.ensures.below ∙ ap (λ l. horizontal_word ++ l) c.run_word-word.ensures.words)
